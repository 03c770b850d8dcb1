use Rattle.std.proofs.Common.{◌∙◌, Some, ap, subst}
use Rattle.std.proofs.lemmas.Result.{IfErr-weaker, IfOk-weaker}
use Rattle.json.proofs.Trees.{view-Object}
use Rattle.json.specs.Value.{members_view, value_view}
use Rattle.rs_import_files.specs.JsonRows.{AreListsOf, ArePatternRows}
use Rattle.rs_import_files.specs.Texts.{StandsForNone}
use Rattle.rs_import_files.proofs.RowLemmas.{no_object}
use Rattle.rs_import_files.proofs.json_lists.json_patterns.Goals as goal

pub returns-in-Object-clause-found : goal.returns-in-Object-clause-found
returns-in-Object-clause-found c =
    IfOk-weaker c.all_patterns.result _ _ (λ entries lists. (
      members_view c.in-Object.members.items,
      c.in_ok-members.ensures.found ∙ ap Some (ap value_view c.in-Object.is ∙ view-Object c.in-Object.members),
      subst (λ items. AreListsOf ArePatternRows (members_view items) entries.items) c.as_slice.ensures.value lists,
    ))
    c.all_patterns.ensures.found

pub returns-in-Object-clause-refused : goal.returns-in-Object-clause-refused
returns-in-Object-clause-refused c =
    IfErr-weaker c.all_patterns.result _ _ (λ fault none of_file.
    no_object ArePatternRows c.args.text.now (members_view c.in-Object.members.items)
    (c.in_ok-members.ensures.found ∙ ap Some (ap value_view c.in-Object.is ∙ view-Object c.in-Object.members))
    (subst (λ items. StandsForNone (AreListsOf ArePatternRows) (members_view items)) c.as_slice.ensures.value (none of_file)))
    c.all_patterns.ensures.refused
