use Rattle.std.proofs.Common.{refl}
use Rattle.std.proofs.lemmas.Iterator.Consumers.{YieldsList-from_first, map_from_collect}
use Rattle.rs_table.specs.PrefixRoutes.{entry_of}
use Rattle.rs_survey.proofs.PrefixLemmas.{listed_prefixes}
use Rattle.rs_survey.proofs.prefix_list.every_prefix.Goals as goal

pub returns-clause-prefixes : goal.returns-clause-prefixes
returns-clause-prefixes c =
    listed_prefixes c.iter_prefixes.result c.args.tables.now c.iter_prefixes.ensures.prefixes c.collect.result
    (map_from_collect c.collect.result c.collect.ensures.ran
    (YieldsList-from_first entry_of (λ entries. entries) c.iter_prefixes.result refl))
