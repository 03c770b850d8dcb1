use Rattle.rs_update.proofs.fields.PrefixLemmas.{field_is_read}
use Rattle.rs_update.proofs.laws.a_field_is_one_list_of_prefixes.Goals as goal

pub returns : goal.returns
returns c = field_is_read
