use Rattle.std.proofs.Common.{arith, rules}
use Rattle.rs_choice.proofs.held_route.PathLengthLemmas.{path_length_fits}
use Rattle.rs_choice.proofs.held_route.path_length.Goals as goal

pub overflow_cast-result : goal.overflow_cast-result
overflow_cast-result c =
    let fits = path_length_fits c.args.attributes.now in
    omega (arith, fits, c.path_length.ensures, c.written_len-spelled.ensures.value, c.written_len-spelled.ensures.bound)

pub returns : goal.returns
returns c = search rules
