-- Parts with prefixes of one length each have no prefix in common: for parts.rt.
use Rattle.std.proofs.Common.{◌≡◌, ◌≢◌, ◌∙◌, sym, ap, subst, refl, ℕ, zero, suc, ◌+◌, ◌<◌, arith, inl, inr, true, false, [], ◌∷◌, ◌++◌}
use Rattle.std.proofs.Common.{length, Option, Some, None, Result, Ok, Err, AllPairs}
use Rattle.std.specs.Prelude.{IfOk, IfSome, OnErr, OnOk}
use Rattle.std.specs.Result.{result_ok}
use Rattle.std.specs.FinMap as fin
use Rattle.std.proofs.lemmas.Bool.{false≢true}
use Rattle.std.proofs.lemmas.Bool.Decides.{eqb_tells}
use Rattle.std.proofs.Math.Seq.{get_or-append_seam}
use Rattle.std.specs.List.{All}
use Rattle.std.proofs.lemmas.List.{length-append}
use Rattle.std.proofs.lemmas.List.Elements.{All-push}
use Rattle.rs_choice.specs.Plan.{Plan}
use Rattle.rs_update.specs.IpPrefix.{IpPrefix}
use Rattle.rs_session.specs.Change.{Change, is_close}
use Rattle.rs_table.specs.Content.{RibContent, TablesContent, nothing_held, rib_of}
use Rattle.rs_table.specs.Left.{BecomeBy, Leaves, RouteLeft, announcement, left}
use Rattle.rs_table.specs.Listing.{is_held}
use Rattle.rs_table.specs.Merge.{AreParts}
use Rattle.rs_table.proofs.LeftLemmas.{leaves-from-left}
use Rattle.rs_table.proofs.MergeLemmas.{none-held}
use Rattle.rs_table.proofs.RibLemmas.{any-one_more, rib_left-more, rib_left-nothing}
use Rattle.table_tests.specs.Parts.{IsLeftOnLength, IsOnLength, IsPart}

-- ---- of one peer

nothing-left : (len : ℕ) (rib : RibContent) → rib ≡ nothing_held → IsLeftOnLength len rib
nothing-left len rib e = record {
  changes = [];
  on = λ i d within. absurd (omega (arith, within));
  unclosed = refl;
  left_is = e ∙ sym rib_left-nothing;
}

one_more-left : (len : ℕ) (before after : RibContent) (change : Change) → IsLeftOnLength len before
    → BecomeBy before.routes change after.routes
    → after.closed ≡ is_close change → IsOnLength len change → is_close change ≡ false → IsLeftOnLength len after
one_more-left len before after change held become closed on stays = record {
  changes = held.changes ++ change ∷ [];
  on = All-push (IsOnLength len) held.changes change held.on on;
  unclosed = any-one_more is_close held.changes change held.unclosed ∙ stays;
  left_is = rib_left-more held.changes change before after held.left_is held.unclosed become closed;
}

-- a route that such changes leave is on a prefix of that length
route-on_length : (len : ℕ) (rib : RibContent) → IsLeftOnLength len rib → (q : IpPrefix) (route : RouteLeft)
    → fin.get rib.routes q ≡ Some route → q.len ≡ len
route-on_length len rib held q route e =
    let has : fin.get (left held.changes) q ≡ Some route = sym (ap (λ (r : RibContent). fin.get r.routes q) held.left_is) ∙ e in
    let leaves : Leaves held.changes q route = leaves-from-left held.changes q route has in
    let seam = get_or-append_seam leaves.earlier (announcement q route) leaves.later (announcement q route) in
    let long = length-append leaves.earlier (announcement q route ∷ leaves.later) in
    let all : All (IsOnLength len) (leaves.earlier ++ announcement q route ∷ leaves.later) =
    subst (All (IsOnLength len)) leaves.is_announced held.on in
    let on : IsOnLength len (announcement q route) =
    subst (IsOnLength len) seam (all (length leaves.earlier) (announcement q route) (omega (arith, long))) in
    on q refl

no_route : (len : ℕ) (rib : RibContent) → IsLeftOnLength len rib → (q : IpPrefix) → q.len ≢ len → fin.get rib.routes q ≡ None
no_route len rib held q apart = by_route (fin.get rib.routes q) refl
  where
    by_route : (o : Option RouteLeft) → fin.get rib.routes q ≡ o → o ≡ None
    by_route None e = refl
    by_route (Some route) e = absurd (apart (route-on_length len rib held q route e))

is_open : (len : ℕ) (rib : RibContent) → IsLeftOnLength len rib → rib.closed ≡ false
is_open len rib held = ap (λ (r : RibContent). r.closed) held.left_is ∙ held.unclosed

-- ---- of all peers

new-part : (plan : Plan) (len : ℕ) (tables : TablesContent) → tables.plan ≡ plan → ((peer : ℕ) → rib_of tables peer ≡ nothing_held)
    → IsPart plan len tables
new-part plan len tables plan_is empty = record { plan_is = plan_is; ribs = λ peer. nothing-left len (rib_of tables peer) (empty peer) }

part-more : (plan : Plan) (len : ℕ) (before after : TablesContent) (peer : ℕ) (change : Change) → IsPart plan len before
    → BecomeBy (rib_of before peer).routes change (rib_of after peer).routes → (rib_of after peer).closed ≡ is_close change
    → ((other : ℕ) → other ≢ peer → rib_of after other ≡ rib_of before other) → after.plan ≡ before.plan
    → IsOnLength len change → is_close change ≡ false → IsPart plan len after
part-more plan len before after peer change held become closed others plan_is on stays = record {
  plan_is = plan_is ∙ held.plan_is;
  ribs = λ other. elim (eqb_tells other peer) [
    | inl here ↦ subst (λ n. IsLeftOnLength len (rib_of after n)) (sym here.1)
        (one_more-left len (rib_of before peer) (rib_of after peer) change (held.ribs peer) become closed on stays)
    | inr apart ↦ subst (IsLeftOnLength len) (sym (others other apart.1)) (held.ribs other)
  ];
}

-- tables that may be refused are new, where they were not
pub part-new : {E : Type 0} (answer : Result TablesContent E) (gave : Option TablesContent) (plan : Plan) (len : ℕ)
    → gave ≡ result_ok answer
    → IfOk answer (λ tables. tables.plan ≡ plan) → IfOk answer (λ tables. (peer : ℕ) → rib_of tables peer ≡ nothing_held)
    → IfSome gave (IsPart plan len)
part-new (Ok tables) gave plan len is plan_is empty =
    subst (λ g. IfSome g (IsPart plan len)) (sym is) (new-part plan len tables plan_is empty)
part-new (Err e) gave plan len is plan_is empty = subst (λ g. IfSome g (IsPart plan len)) (sym is) tt

-- a change that may be refused leaves a part of that length, whether it was or not
pub part-kept : {T E : Type 0} (answer : Result T E) (plan : Plan) (len : ℕ) (before after : TablesContent) (peer : ℕ) (change : Change)
    → IsPart plan len before → OnOk answer (BecomeBy (rib_of before peer).routes change (rib_of after peer).routes)
    → OnOk answer ((rib_of after peer).closed ≡ is_close change) → OnErr answer (after ≡ before)
    → ((other : ℕ) → other ≢ peer → rib_of after other ≡ rib_of before other) → after.plan ≡ before.plan
    → IsOnLength len change → is_close change ≡ false → IsPart plan len after
part-kept (Ok x) plan len before after peer change held become closed err others plan_is on stays =
    part-more plan len before after peer change held become closed others plan_is on stays
part-kept (Err e) plan len before after peer change held become closed err others plan_is on stays =
    subst (IsPart plan len) (sym err) held

-- ---- of two parts, and of three

not_held : (plan : Plan) (len : ℕ) (tables : TablesContent) → IsPart plan len tables → (q : IpPrefix) → q.len ≢ len
    → is_held tables.ribs q ≡ false
not_held plan len tables part q apart = none-held tables.ribs q (λ peer. no_route len (rib_of tables peer) (part.ribs peer) q apart)

two-parts : (plan : Plan) (len more : ℕ) (one other : TablesContent) → len < more → IsPart plan len one → IsPart plan more other
    → AreParts one other
two-parts plan len more one other below part later = record {
  plan = part.plan_is ∙ sym later.plan_is;
  apart = λ q held. elim (eqb_tells q.len len) [
    | inl here ↦ not_held plan more other later q (λ e. omega (arith, below, here.1, e))
    | inr away ↦ absurd (false≢true (sym (not_held plan len one part q away.1) ∙ held))
  ];
  closed = λ peer. is_open len (rib_of one peer) (part.ribs peer) ∙ sym (is_open more (rib_of other peer) (later.ribs peer));
}

pub three-parts : (plan : Plan) (one two three : TablesContent) → IsPart plan 8 one → IsPart plan 16 two → IsPart plan 24 three
    → AllPairs AreParts (one ∷ two ∷ three ∷ [])
three-parts plan one two three first second third zero zero d below within = absurd (omega (arith, below))
three-parts plan one two three first second third zero (suc zero) d below within = two-parts plan 8 16 one two (omega arith) first second
three-parts plan one two three first second third zero (suc (suc zero)) d below within =
    two-parts plan 8 24 one three (omega arith) first third
three-parts plan one two three first second third (suc zero) zero d below within = absurd (omega (arith, below))
three-parts plan one two three first second third (suc zero) (suc zero) d below within = absurd (omega (arith, below))
three-parts plan one two three first second third (suc zero) (suc (suc zero)) d below within =
    two-parts plan 16 24 two three (omega arith) second third
three-parts plan one two three first second third (suc (suc i)) zero d below within = absurd (omega (arith, below))
three-parts plan one two three first second third (suc (suc i)) (suc zero) d below within = absurd (omega (arith, below))
three-parts plan one two three first second third (suc (suc i)) (suc (suc zero)) d below within = absurd (omega (arith, below))
three-parts plan one two three first second third i (suc (suc (suc j))) d below within = absurd (omega (arith, within))
