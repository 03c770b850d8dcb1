-- What the getters of `clap` give is what its rows hold.
use Rattle.std.proofs.Common.{rules, ◌∙◌, sym, codes}
use Rattle.clap.specs.Words.{found_of}
use Rattle.clap.proofs.WalkLemmas.{first_value-rows}
use Rattle.rs_options.proofs.words.losses_in.Goals as goal

pub returns-in-Some-losses_of-clause-losses : goal.returns-in-Some-losses_of-clause-losses
returns-in-Some-losses_of-clause-losses c =
    let found = found_of c.args.matches.now in
    sym (first_value-rows found (codes "losses")) ∙ (sym c.get_str.ensures ∙ search rules)
