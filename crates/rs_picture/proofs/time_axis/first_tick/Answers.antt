use Rattle.std.proofs.Common.{arith}
use Rattle.std.proofs.lemmas.Grind.{common_steps, div_ceil_times}
use Rattle.std.proofs.Math.Nat.{mul-mod_left}
use Rattle.rs_picture.proofs.time_axis.first_tick.Goals as goal

pub returns : goal.returns
returns c = grind (arith, common_steps, div_ceil_times, mul-mod_left)
