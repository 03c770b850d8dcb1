-- Attributes are shared only where an announcement is next.
use Rattle.std.proofs.Common.{◌≡◌, ◌<◌, ◌∙◌, ap, sym, refl, arith, ℕ, Bool, true, false, List, [], ◌∷◌, ◌++◌, length, map, Option, Some, Result}
use Rattle.std.proofs.Common.{Ok, Err}
use Rattle.std.proofs.lemmas.Grind.{common_steps}
use Rattle.std.specs.Prelude.{OnErr, if◌then◌else◌}
use Rattle.std.specs.Option.{option_map}
use Rattle.std.specs.Vec.Iter.{into_iter_items}
use Rattle.rs_update.specs.IpPrefix.{IpPrefix}
use Rattle.rs_update.specs.PathAttributes.{PathAttributes}
use Rattle.rs_change.specs.Change.{Lost}
use Rattle.rs_session.specs.UpdateChanges.{announcements, announces_next, withdraws}
use Rattle.rs_session.proofs.pending.Pending.next.Goals as goal

at_front : (time : ℕ) (lost : Bool) (withdrawn announced : List IpPrefix) (shared : Option PathAttributes) (attributes : PathAttributes)
    → lost ≡ false → length withdrawn ≡ 0 → shared ≡ Some attributes → 0 < length announced
    → announces_next ((if lost then record { time = time; body = Lost } ∷ [] else []) ++ map (withdraws time) withdrawn
    ++ announcements time shared announced) ≡ true
at_front time lost withdrawn [] shared attributes up none some left = absurd (omega (arith, left))
at_front time lost [] (prefix ∷ later) shared attributes up none some left = rw (up, some) refl
at_front time lost (gone ∷ more) (prefix ∷ later) shared attributes up none some left = absurd (omega (arith, none))

always : {T E P : Type 0} (r : Result T E) → P → OnErr r P
always (Ok x) p = _
always (Err e) p = p

pub returns-in_err-shared-clause-refused : goal.returns-in_err-shared-clause-refused
returns-in_err-shared-clause-refused c =
    let inside = c.self.inside in
    let none : length (into_iter_items inside.withdrawn) ≡ 0 = grind (arith, common_steps) in
    let some : 0 < length (into_iter_items inside.announced) = grind (arith, common_steps) in
    always c.from_residual.result (
    ap announces_next (sym c.self.view_is)
    ∙ at_front inside.time inside.lost (into_iter_items inside.withdrawn) (into_iter_items inside.announced)
    (option_map (λ a. a.value) inside.attributes) c.in-Some-attributes.attributes.value c.if-self.false none
    (ap (option_map (λ a. a.value)) c.in-Some-attributes.is) some)
