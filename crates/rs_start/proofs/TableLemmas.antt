-- Parts of a table, one after another.
use Rattle.std.proofs.Common.{◌≡◌, ◌∙◌, ℕ, List, [], ◌∷◌, ◌++◌, Option, Some, ap, refl}
use Rattle.rs_start.specs.Table.{Leads}

-- one part more
pub leads_more : {A : Type 0} (look : List ℕ → Option (A × List ℕ)) (octets : List ℕ) (parts : List A) (rest behind : List ℕ) (part : A)
    → Leads look octets parts rest → look rest ≡ Some (part, behind) → Leads look octets (parts ++ part ∷ []) behind
leads_more look octets [] rest behind part leads next =
    (behind, ap look leads ∙ next, refl)
leads_more look octets (first ∷ later) rest behind part leads next =
    (leads.0, leads.1, leads_more look leads.0 later rest behind part leads.2 next)
