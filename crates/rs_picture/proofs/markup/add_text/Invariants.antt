use Rattle.std.proofs.Common.{◌≡◌, ◌++◌, string_bytes}
use Rattle.std.specs.List.{flat_map}
use Rattle.rs_picture.specs.Markup.{shown}
use Rattle.rs_picture.proofs.markup.add_text.Given as goal

abbrev pub invariant-loop-character : goal.invariant-loop-character
invariant-loop-character l = string_bytes l.markup ≡ string_bytes l.fn.markup ++ flat_map shown l.yielded
