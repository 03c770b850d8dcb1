-- The prefixes as a list: for prefix_list.rt.
use Rattle.std.proofs.Common.{◌≡◌, ◌∙◌, sym, ap, refl, List, [], ◌∷◌, map}
use Rattle.std.specs.Prelude.{Err, IfOk, Ok, Result}
use Rattle.std.specs.declared.alloc.AllocError.{AllocError}
use Rattle.std.specs.Global.{Vec}
use Rattle.rs_update.specs.IpPrefix.{IpPrefix}
use Rattle.rs_table.specs.declared.prefix_routes.PrefixRoutes.{PrefixRoutes}
use Rattle.rs_table.specs.Cell.{CellContent}
use Rattle.rs_table.specs.Content.{TablesContent}
use Rattle.rs_table.specs.PrefixRoutes.{entry_of}
use Rattle.rs_table.specs.Table.{prefixes_held}

prefixes_of_entries : (items : List PrefixRoutes) →
    map (λ (entry : IpPrefix × CellContent). entry.0) (map entry_of items) ≡ map (λ on. on.prefix) items
prefixes_of_entries [] = refl
prefixes_of_entries (on ∷ items) = ap (λ later. on.prefix ∷ later) (prefixes_of_entries items)

pub listed_prefixes : (entries : List (IpPrefix × CellContent)) (tables : TablesContent) →
    map (λ entry. entry.0) entries ≡ prefixes_held tables.ribs → (result : Result (Vec PrefixRoutes) AllocError) →
    IfOk result (λ all. map entry_of all.items ≡ entries) →
    IfOk result (λ all. map (λ on. on.prefix) all.items ≡ prefixes_held tables.ribs)
listed_prefixes entries tables held (Ok all) is =
    sym (prefixes_of_entries all.items) ∙ ap (λ (list : List (IpPrefix × CellContent)). map (λ entry. entry.0) list) is ∙ held
listed_prefixes entries tables held (Err e) is = tt
