-- What the getters of `clap` give is what its rows hold.
use Rattle.std.proofs.Common.{rules, ◌∙◌, sym, codes}
use Rattle.clap.specs.Words.{found_of}
use Rattle.clap.proofs.WalkLemmas.{first_value-rows}
use Rattle.rs_options.proofs.words.errors_in.Goals as goal

pub returns-in-Some-standard_of-clause-errors : goal.returns-in-Some-standard_of-clause-errors
returns-in-Some-standard_of-clause-errors c =
    let found = found_of c.args.matches.now in
    sym (first_value-rows found (codes "errors")) ∙ (sym c.get_str.ensures ∙ search rules)
