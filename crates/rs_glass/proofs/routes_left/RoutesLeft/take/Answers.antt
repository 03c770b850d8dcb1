-- What a change leaves of the announcements leaves what the change makes of the routes.
use Rattle.std.proofs.Common.{◌∙◌, ap}
use Rattle.std.proofs.lemmas.Result.{on_ok_weaker}
use Rattle.rs_session.specs.Change.{change_of}
use Rattle.rs_table.specs.Left.{Routes, after}
use Rattle.rs_glass.proofs.RoutesLeftLemmas.{words-left, words-unclosed}
use Rattle.rs_glass.proofs.routes_left.RoutesLeft.take.Goals as goal

pub invariant_of-self : goal.invariant_of-self
invariant_of-self c =
    words-unclosed c.self.inside.announcements.items c.args.word c.self.invariant c.drop_ended.new.announcements.items
    c.keep.new.announcements.items c.drop_ended.ensures c.left_after_one_more.ensures c.keep.result c.keep.ensures.ok c.keep.ensures.err

pub returns : goal.returns
returns c =
    on_ok_weaker c.keep.result (λ grown.
    words-left c.self.inside.announcements.items c.args.word c.self.invariant c.drop_ended.new.announcements.items
    c.keep.new.announcements.items c.drop_ended.ensures c.left_after_one_more.ensures grown
    ∙ ap (λ (routes : Routes). after routes (change_of c.args.word)) c.self.view_is) c.keep.ensures.ok
