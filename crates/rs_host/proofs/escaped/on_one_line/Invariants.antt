use Rattle.std.proofs.Common.{◌≡◌, string_bytes}
use Rattle.std.specs.List.{flat_map}
use Rattle.rs_host.specs.Line.{shown}
use Rattle.rs_host.proofs.escaped.on_one_line.Given as goal

abbrev pub invariant-loop-character : goal.invariant-loop-character
invariant-loop-character l = string_bytes l.line ≡ flat_map shown l.yielded
