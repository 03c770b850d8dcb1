use Rattle.std.proofs.Common.{subst, sym}
use Rattle.std.proofs.lemmas.Result.{IfErr-weaker, IfOk-weaker}
use Rattle.std.specs.Prelude.{IsSomeAnd, codes}
use Rattle.json.specs.Find.{get}
use Rattle.rs_import_files.specs.JsonRows.{AreVrpRows, IsListOf}
use Rattle.rs_import_files.proofs.json_lists.json_vrps.Goals as goal

pub returns-clause-found : goal.returns-clause-found
returns-clause-found c =
    IfOk-weaker c.roas_of.result _ _ (λ vrps said.
    subst (λ one. IsSomeAnd one (λ file. IsSomeAnd (get (codes "roas") file) (λ roas. IsListOf AreVrpRows roas vrps.items)))
    (sym c.in_ok-file.ensures.found) said)
    c.roas_of.ensures.found

pub returns-clause-refused : goal.returns-clause-refused
returns-clause-refused c =
    IfErr-weaker c.roas_of.result _ _ (λ fault none of_file vrps is.
    none of_file vrps
    (subst (λ one. IsSomeAnd one (λ file. IsSomeAnd (get (codes "roas") file) (λ roas. IsListOf AreVrpRows roas vrps)))
    c.in_ok-file.ensures.found is))
    c.roas_of.ensures.refused
