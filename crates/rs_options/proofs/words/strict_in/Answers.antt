-- What the getters of `clap` give is what its rows hold.
use Rattle.std.proofs.Common.{◌∙◌, codes}
use Rattle.clap.specs.Words.{found_of}
use Rattle.clap.proofs.WalkLemmas.{one_text-rows}
use Rattle.rs_options.proofs.words.strict_in.Goals as goal

pub returns : goal.returns
returns c =
    let found = found_of c.args.matches.now in
    record {
      before = c.get_flag.result;
      after = c.get_flag-2.result;
      before_found = record {
        given = λ is. c.get_flag.ensures.value (one_text-rows found (codes "strict") ∙ is);
        absent = λ is. c.get_flag.ensures.other (one_text-rows found (codes "strict") ∙ is);
      };
      after_found = record {
        given = λ is. c.get_flag-2.ensures.value (one_text-rows found (codes "strict-after") ∙ is);
        absent = λ is. c.get_flag-2.ensures.other (one_text-rows found (codes "strict-after") ∙ is);
      };
      asked = c.strict_by.ensures;
    }
