use Rattle.std.proofs.Common.{◌≡◌, filter, sym, ◌∙◌}
use Rattle.std.specs.FinMap.{get}
use Rattle.rs_table.specs.Left.{left}
use Rattle.rs_table.proofs.LeftLemmas.{get-left, left-from-leaves, leaves-from-left, route_left_by_part}
use Rattle.rs_table.proofs.laws.left_by_part.Goals as goal

pub returns : goal.returns
returns c = λ keeps prefix on none changes route.
    let same : get (left (filter keeps changes)) prefix ≡ get (left changes) prefix =
    get-left (filter keeps changes) prefix ∙ route_left_by_part keeps prefix on none changes ∙ sym (get-left changes prefix) in (
      λ leaves. leaves-from-left (filter keeps changes) prefix route (same ∙ left-from-leaves changes prefix route leaves),
      λ leaves. leaves-from-left changes prefix route (sym same ∙ left-from-leaves (filter keeps changes) prefix route leaves),
    )
