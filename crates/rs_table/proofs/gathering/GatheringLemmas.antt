-- What was gathered, peer by peer, and what a change makes of it: for gathering.rt.
use Rattle.std.proofs.Common.{◌≡◌, ◌≢◌, ℕ, ◌+◌, ◌<◌, Bool, false, cond, List, [], ◌∷◌, All, length, get_or, None, refl, sym, ap, subst, ◌∙◌}
use Rattle.std.proofs.Common.{arith, inl, inr}
use Rattle.std.specs.FinMap as fin
use Rattle.std.proofs.lemmas.Bool.{cases_lt, eq-eqb}
use Rattle.std.proofs.lemmas.Bool.Decides.{eqb_tells}
use Rattle.std.proofs.lemmas.List.{get_or_past}
use Rattle.rs_types.specs.IpPrefix.{IpPrefix}
use Rattle.rs_change.specs.Change.{Change}
use Rattle.rs_choice.specs.Plan.{Plan}
use Rattle.rs_table.specs.Logged.{Logged}
use Rattle.rs_table.specs.declared.log.Log.{Log}
use Rattle.std.specs.Vec.{with_items}
use Rattle.std.proofs.Common.{Vec, Global}
use Rattle.std.proofs.lemmas.List.{with_items_is}
use Rattle.std.proofs.lemmas.List.Elements.{All-nil}
use Rattle.rs_table.specs.declared.gathering.Gathering.TheInside.{Inside}
use Rattle.rs_table.specs.GatheringView.{IsGathering}
use Rattle.rs_table.specs.Left.{Routes, BecomeBy, after}
use Rattle.rs_table.specs.Content.{RibContent, TablesContent, nothing_held, rib_of}
use Rattle.rs_table.specs.ByPeer.{route_at}
use Rattle.rs_table.specs.Cells.{Entries, routes_at, routes_from}
use Rattle.rs_table.specs.Gathered.{AreLogs, GathersTo, IsEntryOf, first_octet, left_after, left_at, left_in, lists_of, routes_gathered}
use Rattle.rs_table.specs.TablesView.{ribs_by}
use Rattle.rs_table.proofs.PrefixLemmas.{prefix_total, prefix_cmp-IsAntisymmetric}
use Rattle.rs_table.proofs.LeftLemmas.{get-after, left_more}
use Rattle.rs_table.proofs.cells.CellsLemmas.{by-at, by-past, get-routes_from}
use Rattle.rs_table.proofs.gathering.GatheredLemmas.{get-gathered}

-- ---- the content of each peer

module _ (plan : Plan) (routes : ℕ → Routes) (closed : List Bool) where
  abbrev pub held : TablesContent
  held = record { plan = plan; ribs = ribs_by routes 0 closed }

  pub held-rib : (peer : ℕ) → peer < length closed → rib_of held peer ≡ record { routes = routes peer; closed = get_or closed peer false }
  held-rib peer known =
      by-at routes 0 closed peer known ∙ ap (λ n. record { routes = routes n; closed = get_or closed peer false }) (omega arith)

  pub held-closed : (peer : ℕ) → (rib_of held peer).closed ≡ get_or closed peer false
  held-closed peer =
      elim (cases_lt peer (length closed)) [
        | inl known ↦ ap (λ (rib : RibContent). rib.closed) (held-rib peer known)
        | inr past ↦ ap (λ (rib : RibContent). rib.closed) (by-past routes 0 closed peer past) ∙ sym (get_or_past closed peer false past)
      ]

-- the same routes of each peer are the same
pub same-ribs : (routes others : ℕ → Routes) → ((peer : ℕ) → routes peer ≡ others peer) → (first : ℕ) (closed : List Bool)
    → ribs_by routes first closed ≡ ribs_by others first closed
same-ribs routes others same first [] = refl
same-ribs routes others same first (c ∷ cs) =
    λ i. (record { routes = same first i; closed = c }) ∷ same-ribs routes others same (first + 1) cs i

-- one peer's routes became others, and those of other peers stayed
module _ (routes others : ℕ → Routes) (peer : ℕ) (stay : (p : ℕ) → p ≢ peer → others p ≡ routes p) where
  pub held-other : (plan : Plan) (closed later : List Bool) → length later ≡ length closed → (other : ℕ) → other ≢ peer
      → get_or later other false ≡ get_or closed other false
      → rib_of (held plan others later) other ≡ rib_of (held plan routes closed) other
  held-other plan closed later long other apart same =
      elim (cases_lt other (length closed)) [
        | inl known ↦
            held-rib plan others later other (omega (arith, known, long))
            ∙ (λ i. record { routes = stay other apart i; closed = same i })
            ∙ sym (held-rib plan routes closed other known)
        | inr past ↦ by-past others 0 later other (omega (arith, past, long)) ∙ sym (by-past routes 0 closed other past)
      ]

-- ---- a change

module _ (losses later : List ℕ) (logs logs_later : List Log) (peer : ℕ) (change : Change)
    (to : GathersTo peer change losses logs later logs_later) where
  pub gathered-own : routes_gathered later logs_later peer ≡ after (routes_gathered losses logs peer) change
  gathered-own =
      fin.same_map prefix_total prefix_cmp-IsAntisymmetric _ _
      (λ q. get-gathered later logs_later peer q
      ∙ to peer q
      ∙ ap (λ b. cond b (left_after change q (left_at losses logs peer q)) (left_at losses logs peer q)) (eq-eqb peer peer refl)
      ∙ ap (left_after change q) (sym (get-gathered losses logs peer q))
      ∙ sym (get-after (routes_gathered losses logs peer) change q))

  pub gathered-other : (p : ℕ) → p ≢ peer → routes_gathered later logs_later p ≡ routes_gathered losses logs p
  gathered-other p apart =
      fin.same_map prefix_total prefix_cmp-IsAntisymmetric _ _
      (λ q. get-gathered later logs_later p q
      ∙ to p q
      ∙ elim (eqb_tells peer p) [ inl same ↦ absurd (apart (sym same.1)) | inr other ↦ rw other.0 refl ]
      ∙ sym (get-gathered losses logs p q))

-- lists and counts that take the places of those before
module _ (inside : Inside) (is : IsGathering inside) (losses : List ℕ) (logs : List Log)
    (counted : length losses ≡ length inside.losses.items) (are : AreLogs losses logs) where
  losses_are : (with_items inside.losses losses).items ≡ losses
  losses_are = with_items_is inside.losses losses (omega (arith, counted, inside.losses.ok.0))

  logs_are : (with_items inside.logs logs).items ≡ logs
  logs_are = with_items_is inside.logs logs (omega (arith, are.count, is.logs.count, inside.logs.ok.0))

  abbrev pub then-routes : ℕ → Routes
  then-routes = routes_gathered (with_items inside.losses losses).items (with_items inside.logs logs).items

  pub then-is : (peer : ℕ) → then-routes peer ≡ routes_gathered losses logs peer
  then-is peer = λ i. routes_gathered (losses_are i) (logs_are i) peer

  pub then-gathering : (closed : Vec Bool Global) → length closed.items ≡ length inside.plan.value.peers
      → IsGathering (record inside { closed = closed; losses = with_items inside.losses losses; logs = with_items inside.logs logs })
  then-gathering closed peers = record {
    peers = peers;
    losses = ap (λ (ns : List ℕ). length ns) losses_are ∙ counted ∙ is.losses;
    logs = subst (λ (ns : List ℕ). AreLogs ns (with_items inside.logs logs).items) (sym losses_are)
        (subst (AreLogs losses) (sym logs_are) are);
  }

  module _ (peer : ℕ) (change : Change) (to : GathersTo peer change inside.losses.items inside.logs.items losses logs) where
    abbrev before : ℕ → Routes
    before = routes_gathered inside.losses.items inside.logs.items

    -- what the peer has left, by its change
    pub then-own : (closed later : List Bool) → peer < length closed → length later ≡ length closed
        → BecomeBy (rib_of (held inside.plan.value before closed) peer).routes change
        (rib_of (held inside.plan.value then-routes later) peer).routes
    then-own closed later known long changes unclosed left_is =
        left_more changes change unclosed
        ∙ ap (λ routes. after routes change) (left_is ∙ ap (λ (rib : RibContent). rib.routes)
        (held-rib inside.plan.value before closed peer known))
        ∙ sym (gathered-own inside.losses.items losses inside.logs.items logs peer change to)
        ∙ sym (then-is peer)
        ∙ sym (ap (λ (rib : RibContent). rib.routes) (held-rib inside.plan.value then-routes later peer (omega (arith, known, long))))

    pub then-others : (closed later : List Bool) → length later ≡ length closed → (other : ℕ) → other ≢ peer
        → get_or later other false ≡ get_or closed other false
        → rib_of (held inside.plan.value then-routes later) other ≡ rib_of (held inside.plan.value before closed) other
    then-others closed later long other apart same =
        held-other before then-routes peer (λ p not_own. then-is p
        ∙ gathered-other inside.losses.items losses inside.logs.items logs peer change to p not_own)
        inside.plan.value closed later long other apart same

-- ---- before any change, and at the end

pub gathered-none : (losses : List ℕ) (logs : List Log) → ((peer : ℕ) (q : IpPrefix) → left_at losses logs peer q ≡ None) → (peer : ℕ)
    → routes_gathered losses logs peer ≡ fin.empty
gathered-none losses logs none peer =
    fin.same_map prefix_total prefix_cmp-IsAntisymmetric _ _ (λ q. get-gathered losses logs peer q ∙ none peer q ∙ sym (fin.get-empty _ q))

pub settled-routes : (losses : List ℕ) (logs : List Log) (entries : Entries)
    → ((peer : ℕ) (q : IpPrefix) → route_at (routes_at entries q) peer ≡ left_at losses logs peer q)
    → (peer : ℕ) → routes_from entries peer ≡ routes_gathered losses logs peer
settled-routes losses logs entries same peer =
    fin.same_map prefix_total prefix_cmp-IsAntisymmetric _ _
    (λ q. get-routes_from entries peer q ∙ same peer q ∙ sym (get-gathered losses logs peer q))

-- lists without entries leave nothing
module _ (losses : List ℕ) (logs : List Log) (empty : (octet : ℕ) → get_or (lists_of logs) octet [] ≡ []) where
  pub empty-held : (plan : Plan) (closed : List Bool) → ((peer : ℕ) → get_or closed peer false ≡ false) → (peer : ℕ)
      → rib_of (held plan (routes_gathered losses logs) closed) peer ≡ nothing_held
  empty-held plan closed open_all peer =
      elim (cases_lt peer (length closed)) [
        | inl known ↦
            held-rib plan (routes_gathered losses logs) closed peer known
            ∙ (λ i. record {
              routes = gathered-none losses logs
                  (λ p q. ap (λ (entries : List Logged). left_in losses entries p q) (empty (first_octet q))) peer i;
              closed =
                  open_all peer i;
            })
        | inr past ↦ by-past (routes_gathered losses logs) 0 closed peer past
      ]

  pub empty-logs : length logs ≡ 256 → AreLogs losses logs
  empty-logs count = record {
    count = count;
    entries = λ octet. subst (All (IsEntryOf losses octet)) (sym (empty octet)) (All-nil (IsEntryOf losses octet));
  }
