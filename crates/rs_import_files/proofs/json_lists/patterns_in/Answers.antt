use Rattle.std.proofs.Common.{◌∙◌, ap, map, subst}
use Rattle.std.proofs.lemmas.Result.{IfErr-weaker}
use Rattle.json.proofs.Trees.{view-Array}
use Rattle.json.specs.Value.{value_view}
use Rattle.rs_import_files.specs.JsonRows.{ArePatternRows}
use Rattle.rs_import_files.specs.Texts.{StandsForNone}
use Rattle.rs_import_files.proofs.RowLemmas.{no_list}
use Rattle.rs_import_files.proofs.json_lists.patterns_in.Goals as goal

pub returns-in-Array-clause-refused : goal.returns-in-Array-clause-refused
returns-in-Array-clause-refused c =
    IfErr-weaker c.patterns_of.result _ _ (λ fault none of_file.
    no_list ArePatternRows (value_view c.args.value.now) (map value_view c.in-Array.rows.items)
    (ap value_view c.in-Array.is ∙ view-Array c.in-Array.rows)
    (subst (λ items. StandsForNone ArePatternRows (map value_view items)) c.as_slice.ensures.value (none of_file)))
    c.patterns_of.ensures.refused
