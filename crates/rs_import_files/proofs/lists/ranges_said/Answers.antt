use Rattle.std.proofs.Common.{◌∙◌, sym}
use Rattle.std.proofs.lemmas.Result.{IfErr-weaker}
use Rattle.rs_import_files.specs.Files.{is_json}
use Rattle.rs_import_files.proofs.ErrLemmas.{says_json, says_other}
use Rattle.rs_import_files.proofs.lists.ranges_said.Goals as goal

pub returns-then-is_json-clause-refused : goal.returns-then-is_json-clause-refused
returns-then-is_json-clause-refused c =
    IfErr-weaker c.json_ranges.result _ _ (λ fault none of_file entries said.
    none of_file entries (says_json _ _ (is_json c.args.text.now) (sym c.is_json.ensures ∙ c.if-is_json.true) said.1))
    c.json_ranges.ensures.refused

pub returns-else-is_json-clause-refused : goal.returns-else-is_json-clause-refused
returns-else-is_json-clause-refused c =
    IfErr-weaker c.ranges-else-is_json.result _ _ (λ fault none of_file entries said.
    none of_file entries (says_other _ _ (is_json c.args.text.now) (sym c.is_json.ensures ∙ c.if-is_json.false) said.1))
    c.ranges-else-is_json.ensures.refused
