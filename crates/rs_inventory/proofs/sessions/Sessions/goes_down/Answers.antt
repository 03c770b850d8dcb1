use Rattle.std.proofs.Common.{◌∙◌, ◌++◌, ◌∷◌, [], ap, sym}
use Rattle.rs_inventory.specs.Sessions.{with_end}
use Rattle.rs_inventory.proofs.SessionLemmas.{with_end-last}
use Rattle.rs_inventory.proofs.sessions.Sessions.goes_down.Goals as goal

pub returns : goal.returns
returns c =
    c.in_ok-push-2.ensures.items ∙ ap (λ session. c.pop.new.self.items ++ session ∷ []) c.ended_at.ensures
    ∙ sym (with_end-last c.args.time c.pop.new.self.items c.in-Some.last)
    ∙ ap (with_end c.args.time) (sym c.in-Some.ensures.items ∙ c.self.view_is)
