-- The candidates of a client for a prefix, peer after peer.
use Rattle.std.proofs.Common.{◌≡◌, ◌∙◌, sym, ap, subst, refl, ℕ, ◌<◌, ◌≤◌, ◌+◌, true, false, inl, inr, List, [], ◌∷◌, ◌++◌, length, map}
use Rattle.std.proofs.Common.{drop}
use Rattle.std.proofs.Common.{drop-cons, add-one, append_assoc, below_more}
use Rattle.std.proofs.lemmas.Bool.{and_right, cases_Bool}
use Rattle.std.proofs.lemmas.List.{append-nil, drop_all}
use Rattle.std.proofs.lemmas.Option.{none-some, same_Some}
use Rattle.std.proofs.lemmas.List.Elements.{Contains-append_left, Contains-push}
use Rattle.std.specs.Prelude.{filter, Option, None, Some}
use Rattle.std.specs.List.{cons_option, enumerate_from, filter_map, Contains}
use Rattle.std.specs.Option.{option_map}
use Rattle.std.specs.FinMap.{get}
use Rattle.rs_update.specs.IpPrefix.{IpPrefix}
use Rattle.rs_choice.specs.Acceptance.{accepts}
use Rattle.rs_choice.specs.Eligibility.{is_eligible}
use Rattle.rs_choice.specs.Plan.{Plan}
use Rattle.rs_choice.specs.Policy.{is_permitted}
use Rattle.rs_table.specs.Left.{RouteLeft}
use Rattle.rs_table.specs.Content.{RibContent, TablesContent, nothing_held, rib_of}
use Rattle.rs_table.specs.Table.{sent_by}
use Rattle.rs_choice.specs.Decision.{SentRoute}
use Rattle.rs_explain.specs.declared.contender.Contender.{Contender}
use Rattle.rs_explain.specs.Contenders.{contender_of, contender_if, contender_from, contenders_of}

-- those of the peers from one number on
abbrev pub contenders_in : Plan → ℕ → IpPrefix → ℕ → List RibContent → List Contender
contenders_in plan client prefix first ribs =
    map (contender_of plan)
    (filter (λ route. is_permitted plan client route.peer route.attributes)
    (filter (λ route. is_eligible plan route.peer route.attributes)
    (filter (λ route. accepts plan route.peer prefix route.attributes)
    (filter_map (λ (peer, rib). option_map (sent_by peer) (get rib.routes prefix)) (enumerate_from first ribs)))))

one_more : (plan : Plan) (client : ℕ) (prefix : IpPrefix) (first : ℕ) (left : Option RouteLeft) (later : List SentRoute) →
    map (contender_of plan)
    (filter (λ route. is_permitted plan client route.peer route.attributes)
    (filter (λ route. is_eligible plan route.peer route.attributes)
    (filter (λ route. accepts plan route.peer prefix route.attributes) (cons_option (option_map (sent_by first) left) later))))
    ≡ cons_option (contender_if plan client prefix (option_map (sent_by first) left))
    (map (contender_of plan)
    (filter (λ route. is_permitted plan client route.peer route.attributes)
    (filter (λ route. is_eligible plan route.peer route.attributes)
    (filter (λ route. accepts plan route.peer prefix route.attributes) later))))
one_more plan client prefix first None later = refl
one_more plan client prefix first (Some route) later = elim (cases_Bool (accepts plan first prefix route.attributes)) [
  | inr filtered ↦ elim (cases_Bool (is_eligible plan first route.attributes)) [
    | inl eligible ↦ rw (filtered, eligible) refl
    | inr ineligible ↦ rw (filtered, ineligible) refl
  ]
  | inl accepted ↦ elim (cases_Bool (is_eligible plan first route.attributes)) [
    | inr ineligible ↦ rw (accepted, ineligible) refl
    | inl eligible ↦ elim (cases_Bool (is_permitted plan client first route.attributes)) [
      | inl permitted ↦ rw (accepted, eligible, permitted) refl
      | inr refused ↦ rw (accepted, eligible, refused) refl
    ]
  ]
]

-- the peer at a number comes first of the rest
contenders_in-more : (tables : TablesContent) (client : ℕ) (prefix : IpPrefix) (peer : ℕ) → peer < length tables.ribs →
    contenders_in tables.plan client prefix peer (drop peer tables.ribs)
    ≡ cons_option (contender_from tables client prefix peer)
    (contenders_in tables.plan client prefix (peer + 1) (drop (peer + 1) tables.ribs))
contenders_in-more tables client prefix peer within =
    let rest : drop peer tables.ribs ≡ rib_of tables peer ∷ drop (peer + 1) tables.ribs =
    rw (add-one, drop-cons tables.ribs peer nothing_held) refl in
    ap (contenders_in tables.plan client prefix peer) rest
    ∙ one_more tables.plan client prefix peer (get (rib_of tables peer).routes prefix)
    (filter_map (λ (peer, rib). option_map (sent_by peer) (get rib.routes prefix))
    (enumerate_from (peer + 1) (drop (peer + 1) tables.ribs)))

-- the route that a peer has left is the peer's
pub route_peer : (peer : ℕ) (left : Option RouteLeft) (route : SentRoute) → Some route ≡ option_map (sent_by peer) left → route.peer ≡ peer
route_peer peer None route is = absurd (cc)
route_peer peer (Some left) route is = let same : route ≡ sent_by peer left = cc in ap (λ (route : SentRoute). route.peer) same

-- one that policy refuses is no candidate
pub none_refused : (plan : Plan) (client : ℕ) (prefix : IpPrefix) (route : SentRoute)
    → is_permitted plan client route.peer route.attributes ≡ false → None ≡ contender_if plan client prefix (Some route)
none_refused plan client prefix route refuses =
    rw (
      refuses,
      and_right (accepts plan route.peer prefix route.attributes) false refl,
      and_right (is_eligible plan route.peer route.attributes) false refl,
    ) refl

-- and neither is one that import policy does not take in
pub none_filtered : (plan : Plan) (client : ℕ) (prefix : IpPrefix) (route : SentRoute)
    → accepts plan route.peer prefix route.attributes ≡ false → None ≡ contender_if plan client prefix (Some route)
none_filtered plan client prefix route filtered =
    rw (filtered, and_right (is_eligible plan route.peer route.attributes) false refl) refl

-- one that is taken in, eligible and permitted is
pub some_permitted : (plan : Plan) (client peer : ℕ) (prefix : IpPrefix) (left : Option RouteLeft) (route : SentRoute)
    → Some route ≡ option_map (sent_by peer) left →
    is_eligible plan peer route.attributes ≡ true → accepts plan peer prefix route.attributes ≡ true
    → is_permitted plan client peer route.attributes ≡ true →
    (route.peer ≡ peer) × (contender_if plan client prefix (option_map (sent_by peer) left) ≡ Some (contender_of plan route))
some_permitted plan client peer prefix left route is eligible accepted permitted =
    let own = route_peer peer left route is in
    (own, rw (← is, own, eligible, accepted, permitted) refl)

-- one that is made of a peer's route is found from that peer
pub made_from : (tables : TablesContent) (client : ℕ) (prefix : IpPrefix) (peer : ℕ) (one made : Contender) → one ≡ made → made.peer ≡ peer
    →
    contender_from tables client prefix peer ≡ Some made → contender_from tables client prefix one.peer ≡ Some one
made_from tables client prefix peer one made same own found =
    ap (contender_from tables client prefix) (ap (λ (one : Contender). one.peer) same ∙ own) ∙ found
    ∙ ap (λ (one : Contender). Some one) (sym same)

-- ---- one peer more

next_listed : (items all rest total : List Contender) (one : Contender) → items ++ all ≡ total → all ≡ one ∷ rest
    → (items ++ one ∷ []) ++ rest ≡ total
next_listed items all rest total one listed e =
    append_assoc items (one ∷ []) rest ∙ ap (λ (later : List Contender). items ++ later) (sym e) ∙ listed

module _ (tables : TablesContent) (client : ℕ) (prefix : IpPrefix) where
  -- these, and those of the peers from one number on, are all
  abbrev pub AreBelow : ℕ → List Contender → Type 0
  AreBelow peer items =
      items ++ contenders_in tables.plan client prefix peer (drop peer tables.ribs) ≡ contenders_of tables client prefix

  pub next_below : (items : List Contender) (peer : ℕ) (one : Contender) → peer < length tables.ribs →
      contender_from tables client prefix peer ≡ Some one → AreBelow peer items → AreBelow (peer + 1) (items ++ one ∷ [])
  next_below items peer one within found listed =
      let rest = contenders_in tables.plan client prefix (peer + 1) (drop (peer + 1) tables.ribs) in
      next_listed items (contenders_in tables.plan client prefix peer (drop peer tables.ribs)) rest (contenders_of tables client prefix) one
      listed (contenders_in-more tables client prefix peer within ∙ ap (λ (found : Option Contender). cons_option found rest) found)

  pub same_below : (items : List Contender) (peer : ℕ) → peer < length tables.ribs → contender_from tables client prefix peer ≡ None →
      AreBelow peer items → AreBelow (peer + 1) items
  same_below items peer within none listed =
      let rest = contenders_in tables.plan client prefix (peer + 1) (drop (peer + 1) tables.ribs) in
      ap (λ (later : List Contender). items ++ later)
      (sym (contenders_in-more tables client prefix peer within ∙ ap (λ (found : Option Contender). cons_option found rest) none)) ∙ listed

  pub all_below : (items : List Contender) (peer : ℕ) → length tables.ribs ≤ peer → AreBelow peer items →
      items ≡ contenders_of tables client prefix
  all_below items peer end listed =
      sym (append-nil items)
      ∙ ap (λ ribs. items ++ contenders_in tables.plan client prefix peer ribs) (sym (drop_all peer tables.ribs end)) ∙ listed

  abbrev pub HasBelow : ℕ → List Contender → Type 0
  HasBelow i items = (peer : ℕ) → peer < i → (one : Contender) → contender_from tables client prefix peer ≡ Some one → Contains items one

  pub next_has : (items : List Contender) (i : ℕ) (one : Contender) → contender_from tables client prefix i ≡ Some one → HasBelow i items
      → HasBelow (i + 1) (items ++ one ∷ [])
  next_has items i one found has =
      below_more (λ peer. (x : Contender) → contender_from tables client prefix peer ≡ Some x → Contains (items ++ one ∷ []) x) i
      (λ peer below x is. Contains-append_left items (one ∷ []) x (has peer below x is))
      (λ x is. subst (λ (x : Contender). Contains (items ++ one ∷ []) x) (same_Some one x (sym found ∙ is)) (Contains-push items one))

  pub same_has : (items : List Contender) (i : ℕ) → contender_from tables client prefix i ≡ None → HasBelow i items → HasBelow (i + 1) items
  same_has items i none has =
      below_more (λ peer. (x : Contender) → contender_from tables client prefix peer ≡ Some x → Contains items x) i has
      (λ x is. absurd (none-some x (sym none ∙ is)))
