use Rattle.rs_types.specs.Section.{SpellsItem, item_at}
use Rattle.rs_types.proofs.section.ItemLemmas.{item_shrinks, item_reads}
use Rattle.rs_update.proofs.fields.SplitLemmas.{splits_as_read}
use Rattle.rs_update.proofs.laws.a_section_is_one_list_of_attributes.Goals as goal

pub returns : goal.returns
returns c = λ octets parts rest are. splits_as_read item_at SpellsItem item_shrinks item_reads octets are parts rest
