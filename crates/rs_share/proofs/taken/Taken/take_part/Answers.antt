use Rattle.rs_share.proofs.TakingLemmas.{carries-of, carries-part, has-part-as}
use Rattle.std.proofs.Common.{ap, ◌∙◌}
use Rattle.rtrb.specs.Ring.{received}
use Rattle.rs_share.specs.Taking.{Taking, left_in, shown_in, stopped_by}
use Rattle.rs_share.proofs.taken.Taken.take_part.Goals as goal

pub invariant_of-self-2 : goal.invariant_of-self-2
invariant_of-self-2 g c =
    let b = c.self.inside in
    let S = g.S.Source in
    let part = c.in-Some.part in
    has-part-as S.comes S.room b.source.value b.peer (received b.parts) b.batch b.at b.last c.self.invariant part
    c.in-Some.ensures.some.1 (received c.next_part.new.parts) c.replace-used.new.dest c.in-Some.ensures.some.0 c.replace-used.ensures.after

pub returns : goal.returns
returns g c =
    let b = c.self.inside in
    let S = g.S.Source in
    let part = c.in-Some.part in
    carries-of S.comes S.room c.self.view_is
    (carries-part S.comes S.room b.source.value b.peer (received b.parts) b.batch b.at b.last c.self.invariant part
    c.in-Some.ensures.some.1 (left_in b.batch b.at b.last) (shown_in b.batch b.shown) (shown_in c.replace-used.new.dest b.shown)
    b.others (stopped_by b.stopped) (received c.next_part.new.parts) c.replace-used.new.dest
    (ap (λ (t : Taking g.row.S.Denot). t.left) c.self.view_is ∙ c.requires.used_up)
    (ap (λ (t : Taking g.row.S.Denot). t.stopped) c.self.view_is ∙ c.requires.goes)
    c.in-Some.ensures.some.0 c.replace-used.ensures.after)
