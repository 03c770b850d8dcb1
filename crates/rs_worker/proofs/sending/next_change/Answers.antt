-- The next change of an open session, or the close that tells that memory was refused.
use Rattle.rs_worker.proofs.TakeLemmas.{takes-given, takes-refused}
use Rattle.rs_worker.proofs.sending.next_change.Goals as goal

pub returns-in-Ok-Some : goal.returns-in-Ok-Some
returns-in-Ok-Some g c =
    takes-given g.S.Source.comes g.S.Source.shows c.a_session_closes_once.ensures g.S.Source.room c.args.session.now c.next_word.new.self
    c.requires c.in-Ok-Some.word (rw c.in-Ok-Some.field-0-is at c.in-Ok-Some.ensures.says)
    (rw c.in-Ok-Some.field-0-is at c.in-Ok-Some.ensures.closes) (rw c.in-Ok-Some.field-0-is at c.in-Ok-Some.ensures.fewer)
    c.next_word.ensures.more

pub returns-in-Err : goal.returns-in-Err
returns-in-Err g c =
    takes-refused g.S.Source.comes g.S.Source.shows c.a_session_closes_once.ensures g.S.Source.room c.args.session.now c.next_word.new.self
    c.requires c.in-Err.field-0 c.in-Err.ensures.says c.in-Err.ensures.closes c.next_word.ensures.more
