-- The program's command is simple, so what a parse found is what `clap` says of the words.
use Rattle.std.proofs.Common.{rules, ap, ap₂, refl, subst, sym, true, [], map, ◌≡◌, ◌∙◌, string_bytes}
use Rattle.std.proofs.lemmas.Result.{IfErr-weaker, IfOk-weaker}
use Rattle.clap.specs.Words.{HasKind, app_of, fault_of, found_of, is_simple, is_simple_and_free, matches_of, rows_of}
use Rattle.clap.proofs.OnLiterals.{clap_on_literals}
use Rattle.rs_options.specs.CommandLine.{HoldCommandLine, SaysWhy, faults_in, program}
use Rattle.rs_options.proofs.WordLemmas.{at_success, told_as}
use Rattle.rs_options.proofs.words.read_command_line.Goals as goal

is_simple_program : is_simple program ≡ true
unfolding clap_on_literals
is_simple_program = refl

is_free_program : is_simple_and_free program ≡ true
unfolding clap_on_literals
is_free_program = refl

pub returns-in-Ok : goal.returns-in-Ok
returns-in-Ok c =
    let known : app_of c.in_ok-program.field-0 ≡ program = search rules in
    let words_are : map string_bytes c.as_slice.result.now ≡ map string_bytes c.args.words.items =
    ap (map string_bytes) c.as_slice.ensures.value in
    let found = c.in-Ok.ensures.matches (ap is_simple known ∙ is_simple_program) in
    let rows : rows_of (found_of c.in-Ok.matches) ≡ matches_of program (map string_bytes c.args.words.items) =
    found.0 ∙ ap₂ matches_of known words_are in
    let kinds = c.in-Ok.ensures.kinds (ap is_simple_and_free known ∙ is_free_program) in
    let none : faults_in (map string_bytes c.args.words.items) ≡ [] = sym (ap₂ fault_of known words_are) ∙ kinds in
    record {
      line = IfOk-weaker c.command_line_of.result _ _ (λ line held. subst (λ r. HoldCommandLine r line) rows held)
          c.command_line_of.ensures.line;
      taken = at_success c.command_line_of.result none;
      refused = IfErr-weaker c.command_line_of.result _ _ (λ fault why. subst (λ k. SaysWhy k fault) (sym none) why)
          c.command_line_of.ensures.refused;
    }

pub returns-clause-refused : goal.returns-clause-refused
returns-clause-refused c =
    let known : app_of c.in_ok-program.field-0 ≡ program = search rules in
    let words_are : map string_bytes c.as_slice.result.now ≡ map string_bytes c.args.words.items =
    ap (map string_bytes) c.as_slice.ensures.value in
    let kinds = c.in-Err.ensures.kinds (ap is_simple_and_free known ∙ is_free_program) in
    told_as _ c.in-Err.error _ (subst (λ k. HasKind k c.in-Err.error) (ap₂ fault_of known words_are) kinds) c.fault_of.ensures
