use Rattle.rs_explain.proofs.FilteredLemmas.{filter_of_failed}
use Rattle.rs_explain.proofs.laws.a_filtered_route_has_its_filter_and_a_value.Goals as goal

pub returns : goal.returns
returns c = filter_of_failed
