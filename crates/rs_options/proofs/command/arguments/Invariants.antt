use Rattle.std.proofs.Common.{◌≡◌, false, map, take}
use Rattle.std.specs.List.{AllByRecursion}
use Rattle.clap.specs.Words.{rule_of}
use Rattle.rs_options.specs.Argument.{rule_for}
use Rattle.rs_options.proofs.command.arguments.Given as goal

-- the options so far are those of as many rows
abbrev pub invariant-loop-row : goal.invariant-loop-row
invariant-loop-row l = record {
  rules : map rule_of l.arguments.items ≡ map rule_for (take l.row-index l.rows);
  local : AllByRecursion (λ argument. argument.global ≡ false) l.arguments.items;
}
