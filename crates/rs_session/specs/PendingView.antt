-- The changes of one record that haven't been given yet.
use Rattle.std.specs.Prelude.{List, [], ◌∷◌, ◌++◌, map, if◌then◌else◌}
use Rattle.std.specs.Option.{option_map}
use Rattle.std.specs.Vec.Iter.{into_iter_items}
use Rattle.rs_session.specs.declared.pending.Pending.TheInside.{Inside}
use Rattle.rs_change.specs.Change.{Change, Lost}
use Rattle.rs_session.specs.UpdateChanges.{withdraws, announcements}

abbrev pub pending_changes : Inside → List Change
pending_changes p =
    (if p.lost then record { time = p.time; body = Lost } ∷ [] else [])
    ++ map (withdraws p.time) (into_iter_items p.withdrawn)
    ++ announcements p.time (option_map (λ a. a.value) p.attributes) (into_iter_items p.announced)
