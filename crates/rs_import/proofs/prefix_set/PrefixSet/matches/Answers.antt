use Rattle.std.proofs.Common.{◌∙◌, sym, ap}
use Rattle.std.specs.Option.{is_some}
use Rattle.rs_import.specs.Patterns.{is_match}
use Rattle.rs_import.proofs.SearchLemmas.{any-find}
use Rattle.rs_import.proofs.prefix_set.PrefixSet.matches.Goals as goal

pub returns : goal.returns
returns c = c.is_some.ensures ∙ (ap is_some c.matching.ensures.found ∙ sym (any-find (is_match c.args.prefix) c.args.self.now))
