use Rattle.std.proofs.Common.{[], ◌∷◌, None, Some}
use Rattle.std.proofs.lemmas.Bool.Decides.{Decides-eqb}
use Rattle.std.proofs.lemmas.Slice.Eq.{strip_prefix_is}
use Rattle.rs_import_files.proofs.MarkLemmas.{marked, unmarked}
use Rattle.rs_import_files.proofs.octets.without_mark.Goals as goal

pub returns-in-Some : goal.returns-in-Some
returns-in-Some c =
    marked c.args.octets.now c.in-Some.rest.now
    (strip_prefix_is Decides-eqb c.args.octets.now (239 ∷ 187 ∷ 191 ∷ []) (Some c.in-Some.rest) c.in-Some.ensures.cases)

pub returns-in-None : goal.returns-in-None
returns-in-None c =
    unmarked c.args.octets.now (strip_prefix_is Decides-eqb c.args.octets.now (239 ∷ 187 ∷ 191 ∷ []) None c.in-None.ensures.cases)
