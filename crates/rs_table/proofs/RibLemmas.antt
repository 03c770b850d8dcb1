-- The content of a peer before any change, and after one more change: for rs_serve, rs_floor and rs_glass.
use Rattle.std.proofs.Common.{◌≡◌, ◌∙◌, sym, ap, refl, Bool, true, false, ◌||◌, List, [], ◌∷◌, ◌++◌}
use Rattle.std.specs.List.{list_any}
use Rattle.std.specs.FinMap.{empty}
use Rattle.std.proofs.lemmas.List.Folds.{list_any-append}
use Rattle.rs_change.specs.Change.{Change, is_close}
use Rattle.rs_table.specs.Content.{RibContent, nothing_held, rib_left}
use Rattle.rs_table.specs.Left.{Routes, BecomeBy, HasNoClose, left}

pub left-nothing : left [] ≡ empty
unfolding left
left-nothing = refl

pub rib_left-nothing : rib_left [] ≡ nothing_held
rib_left-nothing = ap (λ (routes : Routes). let held : RibContent = record { routes = routes; closed = false } in held) left-nothing

-- a test of a list with one member more, if none before passes it
pub any-one_more : {X : Type 0} (p : X → Bool) (xs : List X) (x : X) → list_any p xs ≡ false
    → list_any p (xs ++ x ∷ []) ≡ p x
any-one_more p xs x none =
    list_any-append p xs (x ∷ [])
    ∙ ap (λ b. b || (p x || false)) none
    ∙ elim (p x) as (λ b. (b || false) ≡ b) [ true ↦ refl | false ↦ refl ]

pub rib_left-more : (changes : List Change) (change : Change) (before after : RibContent) → before ≡ rib_left changes
    → HasNoClose changes → BecomeBy before.routes change after.routes → after.closed ≡ is_close change
    → after ≡ rib_left (changes ++ change ∷ [])
rib_left-more changes change before after held unclosed become closed =
    let routes : after.routes ≡ left (changes ++ change ∷ []) =
    sym (become changes unclosed (sym (ap (λ (rib : RibContent). rib.routes) held))) in
    let closes : after.closed ≡ list_any is_close (changes ++ change ∷ []) = closed ∙ sym (any-one_more is_close changes change unclosed) in
    ap (λ (rs : Routes). let rib : RibContent = record { routes = rs; closed = after.closed } in rib) routes
    ∙ ap (λ (b : Bool). let rib : RibContent = record { routes = left (changes ++ change ∷ []); closed = b } in rib) closes
