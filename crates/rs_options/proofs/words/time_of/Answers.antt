-- What the getters of `clap` give is what its rows hold.
use Rattle.std.proofs.Common.{rules, ◌≡◌, ◌∙◌, None, Some, refl, sym, subst, codes}
use Rattle.std.specs.Str.Parse.{ExplainsUnsignedError, HasUnsignedDigitsIfOk, ParsesUnsigned}
use Rattle.std.specs.Prelude.{option_map}
use Rattle.clap.specs.Words.{found_of, rows_of, first_of, one_of}
use Rattle.clap.proofs.WalkLemmas.{first_value-rows, one_text-rows}
use Rattle.rs_options.specs.CommandLine.{IsTimeOr, number_of}
use Rattle.rs_options.proofs.WordLemmas.{number_read}
use Rattle.rs_options.proofs.words.time_of.Goals as goal

pub returns-in_default-clause-time : goal.returns-in_default-clause-time
returns-in_default-clause-time c =
    let found = found_of c.args.matches.now in
    let none : first_of (codes "time") (rows_of found) ≡ None =
    sym (first_value-rows found (codes "time")) ∙ (sym c.get_str.ensures ∙ search rules) in
    subst (λ text. IsTimeOr text (option_map number_of (one_of (codes "time") (rows_of found))) c.args.default c.args.default) (sym none)
    refl

pub returns-in-Some-get_one-clause-time : goal.returns-in-Some-get_one-clause-time
returns-in-Some-get_one-clause-time c =
    let found = found_of c.args.matches.now in
    let some : first_of (codes "time") (rows_of found) ≡ Some c.in-Some.field-0.now =
    sym (first_value-rows found (codes "time")) ∙ (sym c.get_str.ensures ∙ search rules) in
    let number = number_read 32 _ (λ bs r. ParsesUnsigned 32 10 bs r × ExplainsUnsignedError 10 bs r × HasUnsignedDigitsIfOk bs r)
    (λ u x g. g.0) _ _ _
    (λ none. c.get_one.ensures.none (one_text-rows found (codes "time") ∙ none))
    (λ t is. c.get_one.ensures.value t (one_text-rows found (codes "time") ∙ is)) c.in-Some-get_one.is in
    subst (λ text. IsTimeOr text (option_map number_of (one_of (codes "time") (rows_of found))) c.args.default c.in-Some-get_one.time)
    (sym some) number
