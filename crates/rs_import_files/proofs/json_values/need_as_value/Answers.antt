use Rattle.std.proofs.Common.{◌≡◌, rules, subst}
use Rattle.json.specs.Json.{string}
use Rattle.json.specs.Value.{value_view}
use Rattle.json.specs.declared.value.Value.{the_lemmas}
use Rattle.rs_import_files.specs.JsonRows.{IsAsValue}
use Rattle.rs_import_files.proofs.ErrLemmas.{err_so}
use Rattle.rs_import_files.proofs.json_values.need_as_value.Goals as goal

pub returns-in-String-clause-none : goal.returns-in-String-clause-none
returns-in-String-clause-none c =
    let seen : value_view c.args.value.now ≡ string c.in-String.text.now = rw c.in-String.is (search (rules, the_lemmas)) in
    err_so c.need_number.result (λ none asn is. none asn (subst (λ one. IsAsValue one asn) seen is)) c.need_number.ensures.none
