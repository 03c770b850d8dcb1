-- The options of the rows have the rules of the program's command.
use Rattle.std.proofs.Common.{◌≡◌, ◌∙◌, ap, ap₂, codes, map}
use Rattle.std.specs.Prelude.{fold}
use Rattle.std.proofs.lemmas.Result.{IfOk-weaker}
use Rattle.clap.specs.Simple.{app_of_fields}
use Rattle.clap.specs.Words.{app_of, new_app, rule_of, with_rule}
use Rattle.rs_options.specs.CommandLine.{rules, with_version}
use Rattle.rs_options.proofs.CommandLemmas.{app-args}
use Rattle.rs_options.proofs.command.program.Goals as goal

pub returns : goal.returns
returns c =
    let known : map rule_of c.in_ok-arguments.arguments.items ≡ rules = c.in_ok-arguments.ensures.rules in
    let before : app_of c.after_help.result ≡ with_version (new_app (codes "route_server")) =
    ap app_of_fields c.after_help.ensures ∙ ap app_of_fields c.about.ensures
    ∙ ap app_of_fields c.version.ensures ∙ ap with_version c.new.ensures.app in
    IfOk-weaker c.args-2.result _ _
    (λ command adds. app-args _ command _ c.in_ok-arguments.ensures.local adds ∙ ap₂ (fold with_rule) before known)
    c.args-2.ensures
