use Rattle.std.proofs.Common.{subst, sym}
use Rattle.std.proofs.lemmas.Result.{IfErr-weaker, IfOk-weaker}
use Rattle.std.specs.Prelude.{IsSomeAnd}
use Rattle.rs_import_files.specs.JsonRows.{AreVrpRows, IsListOf}
use Rattle.rs_import_files.proofs.json_lists.roas_of.Goals as goal

pub returns-in-Some-clause-found : goal.returns-in-Some-clause-found
returns-in-Some-clause-found c =
    IfOk-weaker c.vrps_in.result _ _ (λ vrps list.
    subst (λ one. IsSomeAnd one (λ roas. IsListOf AreVrpRows roas vrps.items)) c.in-Some.ensures list)
    c.vrps_in.ensures.found

pub returns-in-Some-clause-refused : goal.returns-in-Some-clause-refused
returns-in-Some-clause-refused c =
    IfErr-weaker c.vrps_in.result _ _ (λ fault none of_file vrps is.
    none of_file vrps (subst (λ one. IsSomeAnd one (λ roas. IsListOf AreVrpRows roas vrps)) (sym c.in-Some.ensures) is))
    c.vrps_in.ensures.refused
