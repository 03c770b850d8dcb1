-- What tables hold of the items that they took, with one item more.
use Rattle.std.proofs.Common.{◌≡◌, ◌≢◌, ◌∙◌, sym, ap, subst, ℕ, ◌<◌, ◌≤◌, arith, inl, inr, true, false, [], ◌∷◌, ◌++◌, length, Result, Ok}
use Rattle.std.proofs.Common.{Err}
use Rattle.std.specs.Prelude.{OnOk}
use Rattle.std.specs.List.{list_any}
use Rattle.std.proofs.lemmas.Bool.Decides.{eqb_tells}
use Rattle.rs_session.specs.Change.{change_of, is_close}
use Rattle.rs_change.specs.declared.word.Word.{Word}
use Rattle.rs_table.specs.Content.{RibContent, TablesContent, rib_of, rib_left, nothing_held}
use Rattle.rs_table.specs.Left.{BecomeBy}
use Rattle.rs_router.specs.RoutedItems.{of_peer}
use Rattle.rs_router.specs.declared.routed.Routed.TheVariants as routed
use Rattle.rs_router.proofs.RoutingLemmas.{of_peer-last, of_peer-other, of_peer-own}
use Rattle.rs_serve.specs.Held.{HoldReceived, Takes, through_close}
use Rattle.rs_table.proofs.RibLemmas.{rib_left-nothing, rib_left-more}
use Rattle.rs_serve.proofs.CloseLemmas.{through-closed, through-more, through-none, any-through}

-- nothing was taken yet
pub held-nothing : (new begun : TablesContent) → begun.plan ≡ new.plan → length begun.ribs ≡ length new.ribs
    → ((peer : ℕ) → rib_of begun peer ≡ nothing_held) → HoldReceived new [] begun
held-nothing new begun plan count empty = record { plan = plan; count = count; ribs = λ peer below. empty peer ∙ sym rib_left-nothing }

-- the last item changes nothing
pub took-last : (tables : TablesContent) → Takes routed.Last tables tables
took-last tables new items held = record {
  plan = held.plan;
  count = held.count;
  ribs = λ peer below. held.ribs peer below ∙ ap (λ cs. rib_left (through_close cs)) (sym (of_peer-last peer items));
}

-- nor does a change of a peer that isn't there
pub took-unknown : (tables : TablesContent) (peer : ℕ) (word : Word) → length tables.ribs ≤ peer
    → Takes (routed.Word peer word) tables tables
took-unknown tables peer word past new items held = record {
  plan = held.plan;
  count = held.count;
  ribs = λ other below.
      held.ribs other below ∙ ap (λ cs. rib_left (through_close cs))
      (sym (of_peer-other other peer items word (λ e. absurd (omega (arith, past, below, held.count, e)))));
}

-- nor one of a peer whose session closed
pub took-closed : (tables : TablesContent) (peer : ℕ) (word : Word) → (rib_of tables peer).closed ≡ true
    → Takes (routed.Word peer word) tables tables
took-closed tables peer word closed new items held = record {
  plan = held.plan;
  count = held.count;
  ribs = λ other below. elim (eqb_tells other peer) [
    | inl told ↦ here other below told.1
    | inr told ↦ held.ribs other below ∙ ap (λ cs. rib_left (through_close cs)) (sym (of_peer-other other peer items word told.1))
  ];
}
  where
    here : (other : ℕ) → other < length new.ribs → other ≡ peer
        → rib_of tables other ≡ rib_left (through_close (of_peer other (items ++ routed.Word peer word ∷ [])))
    here other below same =
        let at_peer : rib_of tables peer ≡ rib_left (through_close (of_peer peer items)) =
        subst (λ (n : ℕ). rib_of tables n ≡ rib_left (through_close (of_peer n items))) same (held.ribs other below) in
        let has_closed : list_any is_close (of_peer peer items) ≡ true =
        sym (any-through (of_peer peer items)) ∙ sym (ap (λ (rib : RibContent). rib.closed) at_peer) ∙ closed in
        let kept : rib_of tables peer ≡ rib_left (through_close (of_peer peer (items ++ routed.Word peer word ∷ []))) =
        at_peer ∙ ap rib_left (sym (through-closed (of_peer peer items) (change_of word ∷ []) has_closed))
        ∙ ap (λ cs. rib_left (through_close cs)) (sym (of_peer-own peer items word)) in
        subst (λ (n : ℕ). rib_of tables n ≡ rib_left (through_close (of_peer n (items ++ routed.Word peer word ∷ [])))) (sym same) kept

-- a change of a peer whose session is open
pub took-change : (before after : TablesContent) (peer : ℕ) (word : Word) → (rib_of before peer).closed ≡ false
    → BecomeBy (rib_of before peer).routes (change_of word) (rib_of after peer).routes
    → (rib_of after peer).closed ≡ is_close (change_of word)
    → ((other : ℕ) → other ≢ peer → rib_of after other ≡ rib_of before other) → after.plan ≡ before.plan
    → length after.ribs ≡ length before.ribs
    → Takes (routed.Word peer word) before after
took-change before after peer word unclosed become closes stay plan count new items held = record {
  plan = plan ∙ held.plan;
  count = count ∙ held.count;
  ribs = λ other below. elim (eqb_tells other peer) [
    | inl told ↦ here other below told.1
    | inr told ↦ stay other told.1 ∙ held.ribs other below
        ∙ ap (λ cs. rib_left (through_close cs)) (sym (of_peer-other other peer items word told.1))
  ];
}
  where
    here : (other : ℕ) → other < length new.ribs → other ≡ peer
        → rib_of after other ≡ rib_left (through_close (of_peer other (items ++ routed.Word peer word ∷ [])))
    here other below same =
        let at_peer : rib_of before peer ≡ rib_left (through_close (of_peer peer items)) =
        subst (λ (n : ℕ). rib_of before n ≡ rib_left (through_close (of_peer n items))) same (held.ribs other below) in
        let open_yet : list_any is_close (of_peer peer items) ≡ false =
        sym (any-through (of_peer peer items)) ∙ sym (ap (λ (rib : RibContent). rib.closed) at_peer) ∙ unclosed in
        let whole : rib_of before peer ≡ rib_left (of_peer peer items) =
        at_peer ∙ ap rib_left (through-none (of_peer peer items) open_yet) in
        let more : rib_of after peer ≡ rib_left (of_peer peer items ++ change_of word ∷ []) =
        rib_left-more (of_peer peer items) (change_of word) (rib_of before peer) (rib_of after peer) whole open_yet become closes in
        let taken : rib_of after peer ≡ rib_left (through_close (of_peer peer (items ++ routed.Word peer word ∷ []))) =
        more ∙ ap rib_left (sym (through-more (of_peer peer items) (change_of word) open_yet))
        ∙ ap (λ cs. rib_left (through_close cs)) (sym (of_peer-own peer items word)) in
        subst (λ (n : ℕ). rib_of after n ≡ rib_left (through_close (of_peer n (items ++ routed.Word peer word ∷ [])))) (sym same) taken

-- two facts of a success
pub ok-both : {A E : Type 0} (result : Result A E) (P Q : Type 0) → OnOk result P → OnOk result Q → OnOk result (P × Q)
ok-both (Ok value) P Q p q = (p, q)
ok-both (Err fault) P Q p q = tt
