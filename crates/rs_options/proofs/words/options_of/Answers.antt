-- What the getters of `clap` give is what its rows hold.
use Rattle.std.proofs.Common.{rules, ◌∙◌, sym, codes}
use Rattle.std.specs.Str.Parse.{ExplainsUnsignedError, HasUnsignedDigitsIfOk, ParsesUnsigned}
use Rattle.clap.specs.Words.{found_of}
use Rattle.clap.proofs.WalkLemmas.{first_value-rows, one_text-rows}
use Rattle.rs_options.proofs.WordLemmas.{number_read}
use Rattle.rs_options.proofs.words.options_of.Goals as goal

pub returns-clause-options : goal.returns-clause-options
returns-clause-options c =
    let found = found_of c.args.matches.now in
    record {
      config = sym (first_value-rows found (codes "config")) ∙ (sym c.get_str.ensures ∙ search rules);
      out = sym (first_value-rows found (codes "out")) ∙ (sym c.get_str-2.ensures ∙ search rules);
      time = search rules;
      ring = number_read 64 _ (λ bs r. ParsesUnsigned 64 10 bs r × ExplainsUnsignedError 10 bs r × HasUnsignedDigitsIfOk bs r)
          (λ u x g. g.0) _ _ _
          (λ none. c.get_one.ensures.none (one_text-rows found (codes "ring") ∙ none))
          (λ t is. c.get_one.ensures.value t (one_text-rows found (codes "ring") ∙ is)) (search rules);
      ring_fits = search rules;
      shards = number_read 64 _ (λ bs r. ParsesUnsigned 64 10 bs r × ExplainsUnsignedError 10 bs r × HasUnsignedDigitsIfOk bs r)
          (λ u x g. g.0) _ _ _
          (λ none. c.get_one-2.ensures.none (one_text-rows found (codes "shards") ∙ none))
          (λ t is. c.get_one-2.ensures.value t (one_text-rows found (codes "shards") ∙ is)) (search rules);
      shards_fit = search rules;
      errors = c.requires;
    }
