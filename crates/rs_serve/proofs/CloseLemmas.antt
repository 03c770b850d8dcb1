-- The changes of a peer up to its close.
use Rattle.std.proofs.Common.{◌≡◌, ◌∙◌, ap, refl, Bool, true, false, List, [], ◌∷◌, ◌++◌}
use Rattle.std.specs.Prelude.{◌||◌, if◌then◌else◌}
use Rattle.std.specs.List.{list_any}
use Rattle.rs_session.specs.Change.{Change, is_close}
use Rattle.rs_table.specs.Left.{HasNoClose}
use Rattle.rs_serve.specs.Held.{through_close}

-- what follows a close is dropped
pub through-closed : (changes later : List Change) → list_any is_close changes ≡ true
    → through_close (changes ++ later) ≡ through_close changes
through-closed [] later closed = absurd cc
through-closed (change ∷ changes) later closed = cases (is_close change) closed (through-closed changes later)
  where
    cases : (b : Bool) → (b || list_any is_close changes) ≡ true
        → (list_any is_close changes ≡ true → through_close (changes ++ later) ≡ through_close changes)
        → (if b then change ∷ [] else change ∷ through_close (changes ++ later))
        ≡ (if b then change ∷ [] else change ∷ through_close changes)
    cases true closed rest = refl
    cases false closed rest = ap (λ cs. change ∷ cs) (rest closed)

-- where nothing closes, nothing is dropped
pub through-open : (changes later : List Change) → HasNoClose changes → through_close (changes ++ later) ≡ changes ++ through_close later
through-open [] later none = refl
through-open (change ∷ changes) later none = cases (is_close change) none (through-open changes later)
  where
    cases : (b : Bool) → (b || list_any is_close changes) ≡ false
        → (HasNoClose changes → through_close (changes ++ later) ≡ changes ++ through_close later)
        → (if b then change ∷ [] else change ∷ through_close (changes ++ later)) ≡ change ∷ (changes ++ through_close later)
    cases true none rest = absurd cc
    cases false none rest = ap (λ cs. change ∷ cs) (rest none)

pub through-one : (change : Change) → through_close (change ∷ []) ≡ change ∷ []
through-one change = cases (is_close change)
  where
    cases : (b : Bool) → (if b then change ∷ [] else change ∷ []) ≡ change ∷ []
    cases true = refl
    cases false = refl

pub through-more : (changes : List Change) (change : Change) → HasNoClose changes
    → through_close (changes ++ change ∷ []) ≡ changes ++ change ∷ []
through-more changes change none = through-open changes (change ∷ []) none ∙ ap (λ cs. changes ++ cs) (through-one change)

pub through-none : (changes : List Change) → HasNoClose changes → through_close changes ≡ changes
through-none [] none = refl
through-none (change ∷ changes) none = cases (is_close change) none (through-none changes)
  where
    cases : (b : Bool) → (b || list_any is_close changes) ≡ false → (HasNoClose changes → through_close changes ≡ changes)
        → (if b then change ∷ [] else change ∷ through_close changes) ≡ change ∷ changes
    cases true none rest = absurd cc
    cases false none rest = ap (λ cs. change ∷ cs) (rest none)

-- the part closes where the whole does
pub any-through : (changes : List Change) → list_any is_close (through_close changes) ≡ list_any is_close changes
any-through [] = refl
any-through (change ∷ changes) = cases (is_close change) refl (any-through changes)
  where
    cases : (b : Bool) → is_close change ≡ b → list_any is_close (through_close changes) ≡ list_any is_close changes
        → list_any is_close (if b then change ∷ [] else change ∷ through_close changes) ≡ (b || list_any is_close changes)
    cases true is rest = rw is refl
    cases false is rest = rw is rest
