-- The close is sent behind the changes of the session.
use Rattle.std.proofs.Common.{◌≡◌, ◌∙◌, ◌^◌, sym, arith, None, Some}
use Rattle.rs_session.specs.Stage.{most_changes}
use Rattle.rs_change.specs.declared.word.Word.{Word}
use Rattle.rs_worker.specs.Steps.{reason_of}
use Rattle.rs_worker.proofs.SentLemmas.{none-closes, room-for-more, sent-closes, sent-more}
use Rattle.rs_worker.proofs.sending.send_all.Goals as goal

pub returns-in-Some-reason-clause-sent : goal.returns-in-Some-reason-clause-sent
returns-in-Some-reason-clause-sent g c =
    let word : Word = c.next_change-word.result in
    let closing : reason_of word.body ≡ Some c.in-Some-reason.reason = sym c.closing_reason-reason.ensures ∙ c.in-Some-reason.is in
    rw c.send.ensures.sent (sent-closes g.S.Source.comes g.S.Source.shows c.args.session.now c.loop.session c.next_change-word.new.session
    c.loop.out.sent word c.in-Some-reason.reason c.loop.invariant.begun c.loop.invariant.none_closes closing
    (rw closing at c.next_change-word.ensures))

pub loop-preserved : goal.loop-preserved
loop-preserved g c =
    let word : Word = c.next_change-word.result in
    let none : reason_of word.body ≡ None = sym c.closing_reason-reason.ensures ∙ c.in_default.is in
    let on = rw none at c.next_change-word.ensures in
    record {
      begun = rw c.send.ensures.sent (sent-more g.S.Source.comes g.S.Source.shows g.S.Source.room c.args.session.now c.loop.session
          c.next_change-word.new.session c.loop.out.sent word c.loop.invariant.begun on);
      unclosed = on.unclosed;
      none_closes = rw c.send.ensures.sent (none-closes c.loop.out.sent word c.loop.invariant.none_closes none);
      fits = rw c.send.ensures.sent (room-for-more c.loop.out.sent word (most_changes g.S.Source.room g.S.Source.shows c.loop.session)
          (most_changes g.S.Source.room g.S.Source.shows c.next_change-word.new.session) (2 ^ 50) c.loop.invariant.fits on.fewer);
      ring = c.send.ensures.same ∙ c.loop.invariant.ring;
    }

pub send-requires-clause-fits : goal.send-requires-clause-fits
send-requires-clause-fits g c = omega arith

pub returns-in-Some-reason-clause-same : goal.returns-in-Some-reason-clause-same
returns-in-Some-reason-clause-same g c = c.send.ensures.same ∙ c.loop.invariant.ring
