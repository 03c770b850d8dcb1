-- What `clap` knows of a command to which arguments are added in turn.
use Rattle.std.proofs.Common.{◌≡◌, ◌∙◌, List, [], ◌∷◌, false, map, ap, sym}
use Rattle.std.specs.Prelude.{fold}
use Rattle.std.specs.List.{AllByRecursion}
use Rattle.clap.specs.Words.{AddsArg, AddsInTurn, app_of, rule_of, with_rule}
use Rattle.clap.specs.declared.builder.arg.Arg.{Arg}
use Rattle.clap.specs.declared.builder.command.Command.{Command}

-- arguments of this command alone that are added in turn add their rules
pub app-args : (old new : Command) (args : List Arg) → AllByRecursion (λ arg. arg.global ≡ false) args
    → AddsInTurn AddsArg old args new → app_of new ≡ fold with_rule (app_of old) (map rule_of args)
app-args old new [] local same = ap app_of (sym same)
app-args old new (arg ∷ args) local (next, adds, later) =
    app-args next new args local.1 later ∙ ap (λ app. fold with_rule app (map rule_of args)) (adds.shape local.0)
