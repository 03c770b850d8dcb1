-- What lists leave, and what an entry and a loss make of it: for gathering.rt and settling.rt.
use Rattle.std.proofs.Common.{◌≡◌, ◌≢◌, ℕ, zero, suc, ◌+◌, ◌<◌, ◌≤◌, Bool, true, false, cond, not, ◌&&◌, ◌==◌, List, [], ◌∷◌, All, length, map}
use Rattle.std.proofs.Common.{set, get_or, reverse, Option, Some, None, Result, Ok, Err, refl, sym, ap, subst, ◌∙◌, arith, inl, inr}
use Rattle.std.specs.Prelude.{slice_get, OnErr}
use Rattle.std.specs.FinMap as fin
use Rattle.std.specs.List.{list_any}
use Rattle.std.specs.Option.{option_map_or}
use Rattle.std.proofs.lemmas.Bool.{cases_Bool, cases_eq, cases_lt, eq-eqb, or_parts, or_from}
use Rattle.std.proofs.lemmas.Bool.Decides.{eqb_tells}
use Rattle.std.proofs.lemmas.List.{get_or-map, get_or-set_same, get_or-set_other, length-set, length-map, map-set}
use Rattle.std.proofs.lemmas.List.Elements.{All-filter, All-weaker, filter_passes}
use Rattle.std.proofs.lemmas.List.Folds.{list_any-append}
use Rattle.std.proofs.lemmas.Option.{slice_get-get_or, slice_get_past}
use Rattle.rs_types.specs.IpPrefix.{IpPrefix}
use Rattle.rs_types.specs.PrefixOrder.{same_prefix}
use Rattle.rs_change.specs.Change.{Change}
use Rattle.rs_table.specs.Logged.{Logged}
use Rattle.rs_table.specs.declared.log.Log.{Log}
use Rattle.rs_table.specs.Left.{RouteLeft}
use Rattle.rs_table.specs.Gathered.{AreLogs, GathersTo, IsAdded, IsEntryOf, LosesTo, counts, entry_route, first_octet, is_current, is_of, left_after}
use Rattle.rs_table.specs.Gathered.{left_at, left_in, left_over, lists_of, of_others, prefixes_in, routes_gathered}
use Rattle.rs_table.proofs.PrefixLemmas.{prefix_total, find-entries}
use Rattle.rs_table.proofs.log.ListLemmas.{find-agree, left-cons, left-none, none-any, uncounted-elsewhere, uncounted-octet, uncounted-void}

-- ---- the routes of one peer

named-not : (q : IpPrefix) (entries : List Logged) (rest : List (List Logged))
    → list_any (same_prefix q) (prefixes_in (entries ∷ rest)) ≡ false
    → (list_any (same_prefix q) (map (λ entry. entry.prefix) entries) ≡ false) × (list_any (same_prefix q) (prefixes_in rest) ≡ false)
named-not q entries rest none =
    let here : List IpPrefix = map (λ entry. entry.prefix) entries in
    or_parts (list_any (same_prefix q) here) (list_any (same_prefix q) (prefixes_in rest))
    (sym (list_any-append (same_prefix q) here (prefixes_in rest)) ∙ none)

-- lists that don't name a prefix have no entry that counts there
unnamed : (q : IpPrefix) (lists : List (List Logged)) (octet : ℕ) → list_any (same_prefix q) (prefixes_in lists) ≡ false
    → list_any (same_prefix q) (map (λ entry. entry.prefix) (get_or lists octet [])) ≡ false
unnamed q [] octet none = refl
unnamed q (entries ∷ rest) zero none = (named-not q entries rest none).0
unnamed q (entries ∷ rest) (suc octet) none = unnamed q rest octet (named-not q entries rest none).1

uncounted : (losses : List ℕ) (peer : ℕ) (q : IpPrefix) (entries : List Logged)
    → list_any (same_prefix q) (map (λ entry. entry.prefix) entries) ≡ false
    → list_any (counts losses peer q) entries ≡ false
uncounted losses peer q [] none = refl
uncounted losses peer q (entry ∷ later) none =
    let parts = or_parts (same_prefix q entry.prefix) (list_any (same_prefix q) (map (λ entry. entry.prefix) later)) none in
    or_from _ _ (uncounted-elsewhere losses peer q entry parts.0) (uncounted losses peer q later parts.1)

pub get-gathered : (losses : List ℕ) (logs : List Log) (peer : ℕ) (q : IpPrefix)
    → fin.get (routes_gathered losses logs peer) q ≡ left_at losses logs peer q
unfolding routes_gathered
get-gathered losses logs peer q =
    fin.get-from_entries prefix_total _ q
    ∙ find-entries (λ p. left_at losses logs peer p) q (prefixes_in (lists_of logs))
    ∙ elim (cases_Bool (list_any (same_prefix q) (prefixes_in (lists_of logs)))) [
      | inl some ↦ rw some refl
      | inr none ↦ rw none (sym (left-none losses peer q (get_or (lists_of logs) (first_octet q) []) None
          (uncounted losses peer q (get_or (lists_of logs) (first_octet q) []) (unnamed q (lists_of logs) (first_octet q) none))))
    ]

-- ---- an entry comes into its list

pub entered-list : (logs : List Log) (octet : ℕ) (log : Log) → octet < length logs
    → get_or (lists_of logs) octet [] ≡ (get_or logs octet log).entries.items
entered-list logs octet log within = get_or-map (λ (log : Log). log.entries.items) logs octet log [] within

module _ (losses : List ℕ) (logs : List Log) (octet : ℕ) (log : Log) (within : octet < length logs) where
  pub list-same : get_or (lists_of (set logs octet log)) octet [] ≡ log.entries.items
  list-same =
      ap (λ (lists : List (List Logged)). get_or lists octet []) (map-set (λ (log : Log). log.entries.items) logs octet log)
      ∙ get_or-set_same (lists_of logs) octet log.entries.items []
      (omega (arith, within, length-map logs (λ (log : Log). log.entries.items)))

  pub list-other : (other : ℕ) → other ≢ octet → get_or (lists_of (set logs octet log)) other [] ≡ get_or (lists_of logs) other []
  list-other other apart =
      ap (λ (lists : List (List Logged)). get_or lists other []) (map-set (λ (log : Log). log.entries.items) logs octet log)
      ∙ get_or-set_other (lists_of logs) octet other log.entries.items [] apart

  pub added : (entry : Logged) → first_octet entry.prefix ≡ octet
      → ((peer : ℕ) (prefix : IpPrefix) → left_in losses log.entries.items peer prefix
      ≡ cond (counts losses peer prefix entry) (entry_route entry) (left_in losses (get_or (lists_of logs) octet []) peer prefix))
      → IsAdded losses entry logs (set logs octet log)
  added entry octet_is left peer prefix =
      elim (cases_eq (first_octet prefix) octet) [
        | inl here ↦
            ap (λ (k : ℕ). left_in losses (get_or (lists_of (set logs octet log)) k []) peer prefix) here
            ∙ ap (λ (entries : List Logged). left_in losses entries peer prefix) list-same
            ∙ left peer prefix
            ∙ ap (λ (k : ℕ). cond (counts losses peer prefix entry) (entry_route entry)
            (left_in losses (get_or (lists_of logs) k []) peer prefix)) (sym here)
        | inr there ↦
            ap (λ (entries : List Logged). left_in losses entries peer prefix) (list-other (first_octet prefix) there)
            ∙ ap (λ (b : Bool). cond b (entry_route entry) (left_at losses logs peer prefix))
            (sym (uncounted-octet losses peer prefix entry octet octet_is there))
      ]

  pub logs-set : AreLogs losses logs → All (IsEntryOf losses octet) log.entries.items → AreLogs losses (set logs octet log)
  logs-set are all = record {
    count = length-set logs octet log ∙ are.count;
    entries = λ other. elim (cases_eq other octet) [
      | inl here ↦ subst (λ (k : ℕ). All (IsEntryOf losses k) (get_or (lists_of (set logs octet log)) k [])) (sym here)
          (subst (All (IsEntryOf losses octet)) (sym list-same) all)
      | inr there ↦ subst (All (IsEntryOf losses other)) (sym (list-other other there)) (are.entries other)
    ];
  }

-- ---- a loss

-- the count of a peer becomes another, which is above those with which the peer's entries came
module _ (losses : List ℕ) (peer more : ℕ) (known : peer < length losses) (later : List ℕ) (later_is : later ≡ set losses peer more) where
  lost-count : get_or later peer 0 ≡ more
  lost-count = ap (λ (ns : List ℕ). get_or ns peer 0) later_is ∙ get_or-set_same losses peer more 0 known

  other-count : (other : ℕ) → other ≢ peer → get_or later other 0 ≡ get_or losses other 0
  other-count other apart =
      ap (λ (ns : List ℕ). get_or ns other 0) later_is ∙ get_or-set_other losses peer other more 0 apart

  pub as_many : length later ≡ length losses
  as_many = ap (λ (ns : List ℕ). length ns) later_is ∙ length-set losses peer more

  other-get : (other : ℕ) → other ≢ peer → slice_get later other ≡ slice_get losses other
  other-get other apart =
      elim (cases_lt other (length losses)) [
        | inl there ↦
            slice_get-get_or later other 0 (omega (arith, there, as_many)) ∙ ap Some (other-count other apart)
            ∙ sym (slice_get-get_or losses other 0 there)
        | inr past ↦ slice_get_past later other (omega (arith, past, as_many)) ∙ sym (slice_get_past losses other past)
      ]

  void : (entry : Logged) → entry.peer ≡ peer → entry.losses < more → is_current later entry ≡ false
  void entry own few =
      ap (λ (p : ℕ). option_map_or (λ lost. lost == entry.losses) (slice_get later p) false) own
      ∙ ap (λ (o : Option ℕ). option_map_or (λ lost. lost == entry.losses) o false)
      (slice_get-get_or later peer 0 (omega (arith, known, as_many)))
      ∙ elim (eqb_tells (get_or later peer 0) entry.losses) [
        | inl same ↦ absurd (omega (arith, same.1, lost-count, few))
        | inr apart ↦ apart.0
      ]

  -- none of the peer's entries counts
  none-own : (prefix : IpPrefix) (entry : Logged) → (entry.peer ≡ peer → entry.losses < more) → counts later peer prefix entry ≡ false
  none-own prefix entry few =
      elim (eqb_tells entry.peer peer) [
        | inl own ↦ uncounted-void later peer prefix entry (void entry own.1 (few own.1))
        | inr apart ↦ rw apart.0 refl
      ]

  -- and those of other peers as before
  others-same : (other : ℕ) → other ≢ peer → (prefix : IpPrefix) (entry : Logged)
      → counts later other prefix entry ≡ counts losses other prefix entry
  others-same other apart prefix entry =
      elim (eqb_tells entry.peer other) [
        | inl theirs ↦
            ap (λ (o : Option ℕ). is_of other prefix entry && option_map_or (λ lost. lost == entry.losses) o false)
            (ap (slice_get later) theirs.1 ∙ other-get other apart ∙ ap (slice_get losses) (sym theirs.1))
        | inr not_theirs ↦ rw not_theirs.0 refl
      ]

  module _ (logs : List Log) (are : AreLogs losses logs)
      (few : (octet : ℕ) → All (λ (entry : Logged). entry.peer ≡ peer → entry.losses < more) (get_or (lists_of logs) octet [])) where
    pub lost-logs : AreLogs later logs
    lost-logs = record {
      count = are.count;
      entries = λ octet k d within.
          let entry : Logged = get_or (get_or (lists_of logs) octet []) k d in
          let is : IsEntryOf losses octet entry = are.entries octet k d within in
          record {
            octet_is = is.octet_is;
            losses_are = elim (eqb_tells entry.peer peer) [
              | inl own ↦ subst (λ (p : ℕ). entry.losses ≤ get_or later p 0) (sym own.1)
                  (omega (arith, few octet k d within own.1, lost-count))
              | inr apart ↦ omega (arith, is.losses_are, other-count entry.peer apart.1)
            ];
          };
    }

    pub lost-routes : LosesTo peer losses logs later logs
    lost-routes other prefix =
        let octet = first_octet prefix in
        let entries = get_or (lists_of logs) octet [] in
        elim (eqb_tells peer other) [
          | inl own ↦
              rw own.0 (
              ap (λ (p : ℕ). left_in later entries p prefix) (sym own.1)
              ∙ left-none later peer prefix entries None (none-any (counts later peer prefix) entries
              (All-weaker (λ (entry : Logged). entry.peer ≡ peer → entry.losses < more) (λ entry. counts later peer prefix entry ≡ false)
              (none-own prefix) entries (few octet))))
          | inr apart ↦
              rw apart.0 (ap (λ (o : Option Logged). option_map_or entry_route o None)
              (find-agree (counts later other prefix) (counts losses other prefix) (others-same other (λ e. apart.1 (sym e)) prefix)
              (reverse entries)))
        ]

-- one loss more is above the count with which each entry came
pub few-before : (losses : List ℕ) (peer : ℕ) (logs : List Log) → AreLogs losses logs → (octet : ℕ)
    → All (λ (entry : Logged). entry.peer ≡ peer → entry.losses < get_or losses peer 0 + 1) (get_or (lists_of logs) octet [])
few-before losses peer logs are octet k d within own =
    let entry : Logged = get_or (get_or (lists_of logs) octet []) k d in
    let is : IsEntryOf losses octet entry = are.entries octet k d within in
    let few : entry.losses ≤ get_or losses peer 0 = subst (λ (p : ℕ). entry.losses ≤ get_or losses p 0) own is.losses_are in
    omega (arith, few)

-- ---- the entries of a peer are removed

module _ (losses : List ℕ) (peer : ℕ) (logs short : List Log) (count : length short ≡ length logs)
    (removed : (octet : ℕ) → get_or (lists_of short) octet [] ≡ of_others peer (get_or (lists_of logs) octet [])) where
  pub short-logs : AreLogs losses logs → AreLogs losses short
  short-logs are = record {
    count = count ∙ are.count;
    entries = λ octet. subst (All (IsEntryOf losses octet)) (sym (removed octet))
        (All-filter (λ (entry : Logged). not (entry.peer == peer)) (IsEntryOf losses octet) (get_or (lists_of logs) octet [])
        (are.entries octet));
  }

  -- so the count of the peer may become any
  pub none-left : (more octet : ℕ)
      → All (λ (entry : Logged). entry.peer ≡ peer → entry.losses < more) (get_or (lists_of short) octet [])
  none-left more octet =
      subst (All (λ (entry : Logged). entry.peer ≡ peer → entry.losses < more)) (sym (removed octet))
      (All-weaker (λ (entry : Logged). not (entry.peer == peer) ≡ true) (λ (entry : Logged). entry.peer ≡ peer → entry.losses < more)
      (λ entry theirs own. absurd (theirs_apart entry theirs own)) (of_others peer (get_or (lists_of logs) octet []))
      (filter_passes (λ (entry : Logged). not (entry.peer == peer)) (get_or (lists_of logs) octet [])))
    where
      theirs_apart : (entry : Logged) → not (entry.peer == peer) ≡ true → entry.peer ≡ peer → ⊥
      theirs_apart entry theirs own = cc (sym theirs ∙ ap not (eq-eqb entry.peer peer own))

  module _ (other : ℕ) (apart : other ≢ peer) (prefix : IpPrefix) where
    not_own : (entry : Logged) → entry.peer ≡ peer → counts losses other prefix entry ≡ false
    not_own entry own =
        elim (eqb_tells entry.peer other) [
          | inl theirs ↦ absurd (apart (sym theirs.1 ∙ own))
          | inr not_theirs ↦ rw not_theirs.0 refl
        ]

    same-over : (entries : List Logged) (before : Option RouteLeft)
        → left_over losses (of_others peer entries) other prefix before ≡ left_over losses entries other prefix before
    same-over [] before = refl
    same-over (entry ∷ rest) before =
        elim (eqb_tells entry.peer peer) [
          | inl own ↦ rw own.0 (same-over rest before
              ∙ sym (left-cons losses other prefix entry rest before
              ∙ ap (λ (b : Bool). left_over losses rest other prefix (cond b (entry_route entry) before)) (not_own entry own.1)))
          | inr theirs ↦ rw theirs.0 (left-cons losses other prefix entry (of_others peer rest) before
              ∙ same-over rest (cond (counts losses other prefix entry) (entry_route entry) before)
              ∙ sym (left-cons losses other prefix entry rest before))
        ]

    same-left : left_at losses short other prefix ≡ left_at losses logs other prefix
    same-left =
        ap (λ (entries : List Logged). left_in losses entries other prefix) (removed (first_octet prefix))
        ∙ same-over (get_or (lists_of logs) (first_octet prefix) []) None

  pub short-routes : (later : List ℕ) → LosesTo peer losses short later short → LosesTo peer losses logs later short
  short-routes later to other prefix =
      to other prefix ∙ elim (eqb_tells peer other) [
        | inl own ↦ rw own.0 refl
        | inr apart ↦ rw apart.0 (same-left other (λ e. apart.1 (sym e)) prefix)
      ]

-- ---- an entry is a change of its peer

-- a change that ends all routes of its peer
pub lost : (losses : List ℕ) (peer : ℕ) (later : List ℕ) (change : Change)
    → ((q : IpPrefix) (before : Option RouteLeft) → left_after change q before ≡ None) → (logs logs_later : List Log)
    → LosesTo peer losses logs later logs_later → GathersTo peer change losses logs later logs_later
lost losses peer later change ends logs logs_later to other prefix =
    let before = left_at losses logs other prefix in
    to other prefix ∙ ap (λ (o : Option RouteLeft). cond (peer == other) o before) (sym (ends prefix before))

current-now : (losses : List ℕ) (entry : Logged) → entry.peer < length losses → entry.losses ≡ get_or losses entry.peer 0
    → is_current losses entry ≡ true
current-now losses entry known now =
    ap (λ (o : Option ℕ). option_map_or (λ lost. lost == entry.losses) o false) (slice_get-get_or losses entry.peer 0 known)
    ∙ elim (eqb_tells (get_or losses entry.peer 0) entry.losses) [ inl same ↦ same.0 | inr apart ↦ absurd (apart.1 (sym now)) ]

pub entered : (losses : List ℕ) (entry : Logged) (change : Change) (logs later : List Log) → entry.peer < length losses
    → entry.losses ≡ get_or losses entry.peer 0
    → ((q : IpPrefix) (before : Option RouteLeft) → left_after change q before
    ≡ cond (same_prefix q entry.prefix) (entry_route entry) before)
    → IsAdded losses entry logs later → GathersTo entry.peer change losses logs losses later
entered losses entry change logs later known now makes is_added other prefix =
    let before = left_at losses logs other prefix in
    is_added other prefix
    ∙ ap (λ b. cond ((entry.peer == other && same_prefix prefix entry.prefix) && b) (entry_route entry) before)
    (current-now losses entry known now)
    ∙ by_both (entry.peer == other) (same_prefix prefix entry.prefix) (entry_route entry) before
    ∙ ap (λ (o : Option RouteLeft). cond (entry.peer == other) o before) (sym (makes prefix before))
  where
    by_both : (a b : Bool) (x y : Option RouteLeft) → cond ((a && b) && true) x y ≡ cond a (cond b x y) y
    by_both true true x y = refl
    by_both true false x y = refl
    by_both false true x y = refl
    by_both false false x y = refl

-- a change that makes nothing
pub idle : (losses : List ℕ) (peer : ℕ) (change : Change) (logs : List Log)
    → ((q : IpPrefix) (before : Option RouteLeft) → left_after change q before ≡ before)
    → GathersTo peer change losses logs losses logs
idle losses peer change logs stays other prefix =
    let before = left_at losses logs other prefix in
    by_test (peer == other) before ∙ ap (λ (o : Option RouteLeft). cond (peer == other) o before) (sym (stays prefix before))
  where
    by_test : (b : Bool) (x : Option RouteLeft) → x ≡ cond b x x
    by_test true x = refl
    by_test false x = refl

-- what holds anyway holds where there is an error
pub on_err-always : {T E P : Type 0} (r : Result T E) → P → OnErr r P
on_err-always (Ok x) always = _
on_err-always (Err e) always = always
