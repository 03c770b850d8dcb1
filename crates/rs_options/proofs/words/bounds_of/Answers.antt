-- What the getters of `clap` give is what its rows hold.
use Rattle.std.proofs.Common.{rules, ◌≡◌, ◌∙◌, None, Some, refl, sym, subst, codes}
use Rattle.clap.specs.Words.{found_of, rows_of, first_of}
use Rattle.clap.proofs.WalkLemmas.{first_value-rows}
use Rattle.rs_options.specs.CommandLine.{IsTimeGiven}
use Rattle.rs_options.proofs.words.bounds_of.Goals as goal

pub returns-in_default-get_str-clause-bounds : goal.returns-in_default-get_str-clause-bounds
returns-in_default-get_str-clause-bounds c =
    let found = found_of c.args.matches.now in
    let none : first_of (codes "until") (rows_of found) ≡ None =
    sym (first_value-rows found (codes "until")) ∙ (sym c.get_str-2.ensures ∙ search rules) in
    record {
      until = subst (λ text. IsTimeGiven text None) (sym none) refl;
      tail = sym (first_value-rows found (codes "tail")) ∙ (sym c.get_str.ensures ∙ search rules);
    }

pub returns-in-Some-read_time-clause-bounds : goal.returns-in-Some-read_time-clause-bounds
returns-in-Some-read_time-clause-bounds c =
    let found = found_of c.args.matches.now in
    let some : first_of (codes "until") (rows_of found) ≡ Some c.in-Some-get_str.text.now =
    sym (first_value-rows found (codes "until")) ∙ (sym c.get_str-2.ensures ∙ search rules) in
    record {
      until = subst (λ text. IsTimeGiven text (Some c.in-Some-read_time.time)) (sym some) refl;
      tail = sym (first_value-rows found (codes "tail")) ∙ (sym c.get_str.ensures ∙ search rules);
    }
