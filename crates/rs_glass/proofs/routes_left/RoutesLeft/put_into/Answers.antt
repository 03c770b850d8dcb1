-- One announcement more is taken; in the end all were.
use Rattle.std.proofs.Common.{◌≡◌, ◌∙◌, ◌++◌, ◌∷◌, [], List, false, length, refl, sym, ap, subst}
use Rattle.std.specs.Prelude.{map}
use Rattle.std.proofs.lemmas.List.{map-append, map-id}
use Rattle.std.proofs.lemmas.Iterator.Adapters.{YieldsList-from_vec}
use Rattle.std.proofs.lemmas.Iterator.Consumers.{YieldsList-turn, YieldsList-end}
use Rattle.rs_session.specs.Change.{change_of, is_close}
use Rattle.rs_change.specs.declared.word.Word.{Word}
use Rattle.rs_table.specs.Content.{RibContent}
use Rattle.rs_table.specs.Left.{HasNoClose, left}
use Rattle.rs_table.proofs.RibLemmas.{any-one_more, left-nothing}
use Rattle.rs_glass.proofs.RoutesLeftLemmas.{no-close-at}
use Rattle.rs_glass.proofs.routes_left.RoutesLeft.put_into.Goals as goal

pub loop-word-init : goal.loop-word-init
loop-word-init c = record {
  routes = ap (λ (r : RibContent). r.routes) c.requires.untouched ∙ sym left-nothing;
  closed = ap (λ (r : RibContent). r.closed) c.requires.untouched;
  none = refl;
  others = λ other apart. refl;
  plan = refl;
}

pub loop-word-preserved : goal.loop-word-preserved
loop-word-preserved c =
    let words = c.self.inside.announcements.items in
    let gives = c.into_iter-word-iterator.ensures.into_iter_gives in
    let all = YieldsList-from_vec words gives.0 (gives.1 ∙ c.self.inside.announcements.ok.0) in
    let t = YieldsList-turn all c.loop-word.yielded c.loop-word.word-iterator c.loop-word.yielded_by c.next.result c.next.new.self
    c.in-Some.word c.in-Some.is c.next.ensures.steps in
    let r = c.loop-word.invariant in
    let unclosed : is_close (change_of c.in-Some.word) ≡ false =
    no-close-at words (length c.loop-word.yielded) c.in-Some.word c.self.invariant t.0 t.1 in
    let more : map change_of (c.loop-word.yielded ++ c.in-Some.word ∷ []) ≡ map change_of c.loop-word.yielded ++ change_of c.in-Some.word
    ∷ [] = map-append change_of c.loop-word.yielded (c.in-Some.word ∷ []) in
    record {
      routes = sym (c.in_ok-apply.ensures.routes (map change_of c.loop-word.yielded) r.none (sym r.routes)) ∙ ap left (sym more);
      closed = c.in_ok-apply.ensures.closed ∙ unclosed;
      none = subst HasNoClose (sym more) (any-one_more is_close (map change_of c.loop-word.yielded) (change_of c.in-Some.word) r.none
          ∙ unclosed);
      others = λ other apart. c.apply.ensures.others other apart ∙ r.others other apart;
      plan = c.apply.ensures.plan ∙ r.plan;
    }

pub returns-clause-routes : goal.returns-clause-routes
returns-clause-routes c =
    let words = c.self.inside.announcements.items in
    let gives = c.into_iter-word-iterator.ensures.into_iter_gives in
    let all = YieldsList-from_vec words gives.0 (gives.1 ∙ c.self.inside.announcements.ok.0) in
    let t = YieldsList-end all c.loop-word.yielded c.loop-word.word-iterator c.loop-word.yielded_by c.next.result c.next.new.self
    c.in-None.is c.next.ensures.steps in
    c.loop-word.invariant.routes ∙ ap (λ (some : List Word). left (map change_of some)) (sym (map-id c.loop-word.yielded) ∙ t.0)
    ∙ c.self.view_is
