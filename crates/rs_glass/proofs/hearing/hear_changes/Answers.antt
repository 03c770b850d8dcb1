-- A change that is given comes after those that were passed over, and before whatever may come. The routes take it
-- if it concerns the prefix. Once no change is given, all were given or passed over.
use Rattle.std.proofs.Common.{◌≡◌, ◌∙◌, ◌++◌, ◌∷◌, [], false, refl, sym}
use Rattle.std.specs.List.{list_any}
use Rattle.rs_session.specs.Change.{change_of, is_close}
use Rattle.rs_session.specs.Stage.{most_changes}
use Rattle.rs_glass.specs.Recorded.{AreChangesOf}
use Rattle.rs_glass.proofs.GivenLemmas.{few-smaller, given-all, given-none}
use Rattle.rs_glass.proofs.PassedOverLemmas.{given-more-behind, open-over, taken-over}
use Rattle.rs_glass.proofs.ReadingLemmas.{taken-more, taken-none, told}
use Rattle.rs_glass.proofs.hearing.hear_changes.Goals as goal

pub loop-routes-init : goal.loop-routes-init
loop-routes-init g c =
    let question = c.args.question.now in
    rw c.over_by-session.ensures (record {
      given = [];
      is_given = given-none g.S.Source.comes g.S.Source.shows _ refl;
      is_taken = taken-none question.prefix c.none-routes.result c.nothing-said.result c.none-routes.ensures
          (c.nothing-said.ensures question.prefix);
    })

pub loop-routes-smaller : goal.loop-routes-smaller
loop-routes-smaller g c =
    let closes = rw c.in-Some.is at c.in_ok-word.ensures.closes in
    let fewer = rw c.in-Some.is at c.in_ok-word.ensures.fewer in
    few-smaller (most_changes g.S.Source.room g.S.Source.shows c.loop-routes.session)
    (most_changes g.S.Source.room g.S.Source.shows c.next_word_on.new.self) c.loop-routes.session.closed c.next_word_on.new.self.closed
    (is_close (change_of c.in-Some.word)) closes.0 closes.1 fewer

pub loop-routes-preserved : goal.loop-routes-preserved
loop-routes-preserved g c =
    let question = c.args.question.now in
    let says = rw c.in-Some.is at c.in_ok-word.ensures.says in
    let closes = rw c.in-Some.is at c.in_ok-word.ensures.closes in
    let r = c.loop-routes.invariant in
    let over = says.over in
    let given = r.given ++ over in
    let held = taken-over question.prefix c.a_prefix_covers_itself.ensures r.given over c.loop-routes.routes c.loop-routes.said
    says.are_over.beside r.is_taken in
    let none : list_any is_close given ≡ false =
    open-over question.prefix r.given over says.are_over.beside (sym r.is_given.closed ∙ closes.0) in
    record {
      given = given ++ change_of c.in-Some.word ∷ [];
      is_given = given-more-behind g.S.Source.comes g.S.Source.shows
          _ question.prefix r.given over c.loop-routes.session c.next_word_on.new.self c.in-Some.word says.are_over.beside
          r.is_given says.says closes;
      is_taken = taken-more question.prefix given (change_of c.in-Some.word)
          c.loop-routes.routes c.take_change.new.routes c.loop-routes.said c.after-said.result c.left_after_one_more.ensures held none
          (c.after-said.ensures given held.is_said) c.in_ok-take_change.ensures;
    }

pub returns : goal.returns
returns g c =
    let question = c.args.question.now in
    let says = rw c.in_default.is at c.in_ok-word.ensures.says in
    let r = c.loop-routes.invariant in
    let all = given-all g.S.Source.comes g.S.Source.shows _ r.given c.loop-routes.session c.next_word_on.new.self r.is_given says.says
    c.in_ok-word.ensures.more in
    let changes : AreChangesOf g.S.Source.comes g.S.Source.shows question c.args.id c.args.source r.given =
    record { passed = all.0; says = all.1 } in (
      r.given,
      changes,
      told question.prefix r.given c.loop-routes.routes c.loop-routes.said c.left_by_part.ensures c.left_by_last_changes.ensures
          r.is_taken.left_is r.is_taken.is_said,
    )
