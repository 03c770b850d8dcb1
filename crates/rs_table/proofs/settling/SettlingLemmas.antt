-- Lists whose cells are made one after another: for `settle` of settling.rt.
use Rattle.std.proofs.Common.{◌≡◌, ℕ, ◌+◌, ◌<◌, ◌≤◌, true, false, ◌==◌, List, [], ◌∷◌, length, map, get_or, Option, Some, None, refl, sym}
use Rattle.std.proofs.Common.{ap, ◌∙◌, arith, inl, inr}
use Rattle.std.specs.Option.{option_map_or, option_or}
use Rattle.std.proofs.lemmas.Bool.{cases_lt, cases_eq, eq-eqb}
use Rattle.std.proofs.lemmas.List.{length-map, get_or_past}
use Rattle.std.proofs.lemmas.List.Elements.{All-weaker}
use Rattle.std.proofs.lemmas.Option.{slice_get_past}
use Rattle.rs_types.specs.IpPrefix.{IpPrefix}
use Rattle.rs_choice.specs.Decision.{SentRoute}
use Rattle.rs_choice.specs.Held.{sent_of_held}
use Rattle.rs_choice.specs.Plan.{Plan}
use Rattle.rs_table.specs.Logged.{Logged}
use Rattle.rs_table.specs.declared.log.Log.{Log}
use Rattle.rs_table.specs.ByPeer.{route_at}
use Rattle.rs_table.specs.Cell.{CellContent}
use Rattle.rs_table.specs.Cells.{Entries, cell_at, routes_at, routes_of, AreCells, AreJoined}
use Rattle.rs_table.specs.Left.{RouteLeft}
use Rattle.rs_table.specs.Gathered.{AreLogs, IsEntryOf, counts, first_octet, is_current, left_at, left_in, left_over, lists_of}
use Rattle.rs_table.proofs.cells.CellsLemmas.{cell-IsCell}
use Rattle.rs_table.proofs.log.ListLemmas.{left-none, none-any, uncounted-octet}

-- its peer is known
pub known-current : (losses : List ℕ) (entry : Logged) → is_current losses entry ≡ true → entry.peer < length losses
known-current losses entry current =
    elim (cases_lt entry.peer (length losses)) [
      | inl known ↦ known
      | inr past ↦
          let none : is_current losses entry ≡ false =
          ap (λ (o : Option ℕ). option_map_or (λ lost. lost == entry.losses) o false) (slice_get_past losses entry.peer past) in
          absurd (cc (sym none ∙ current))
    ]

-- ---- a cell has a route

no-routes : (routes : List SentRoute) → ((peer : ℕ) → route_at routes peer ≡ None) → routes ≡ []
no-routes [] none = refl
no-routes (route ∷ later) none = absurd (cc (rw (eq-eqb route.peer route.peer refl) at (none route.peer)))

no-cell : (plan : Plan) (entries : Entries) → AreCells plan entries → (prefix : IpPrefix)
    → ((peer : ℕ) → route_at (routes_at entries prefix) peer ≡ None) → cell_at entries prefix ≡ None
no-cell plan entries all prefix none = by_cell (cell_at entries prefix) refl none
  where
    by_cell : (o : Option CellContent) → cell_at entries prefix ≡ o → ((peer : ℕ) → route_at (routes_of o) peer ≡ None) → o ≡ None
    by_cell None is none = refl
    by_cell (Some cell) is none =
        let empty : map sent_of_held cell.held ≡ [] = no-routes (map sent_of_held cell.held) none in
        absurd (omega (
          arith,
          (cell-IsCell plan entries prefix cell all is).some,
          length-map cell.held sent_of_held,
          ap (λ (routes : List SentRoute). length routes) empty,
        ))

-- ---- list after list

-- the first lists were replayed: on prefixes of their octets peers have what they leave, and on others nothing
pub record IsReplayed (losses : List ℕ) (logs : List Log) (count : ℕ) (cells : Entries) : Type 0 where
  pub done : (peer : ℕ) (prefix : IpPrefix) → first_octet prefix < count
      → route_at (routes_at cells prefix) peer ≡ left_at losses logs peer prefix
  pub none : (peer : ℕ) (prefix : IpPrefix) → count ≤ first_octet prefix → route_at (routes_at cells prefix) peer ≡ None

module _ (losses : List ℕ) (logs : List Log) (are : AreLogs losses logs) where
  -- the entries of a list count on prefixes of its octet alone
  elsewhere : (octet : ℕ) (peer : ℕ) (prefix : IpPrefix) (before : Option RouteLeft) → (first_octet prefix ≡ octet → ⊥)
      → left_over losses (get_or (lists_of logs) octet []) peer prefix before ≡ before
  elsewhere octet peer prefix before apart =
      left-none losses peer prefix (get_or (lists_of logs) octet []) before
      (none-any (counts losses peer prefix) (get_or (lists_of logs) octet [])
      (All-weaker (IsEntryOf losses octet) (λ entry. counts losses peer prefix entry ≡ false)
      (λ entry is. uncounted-octet losses peer prefix entry octet is.octet_is apart)
      (get_or (lists_of logs) octet []) (are.entries octet)))

  -- the cells of the next list come to those of the lists before
  module _ (plan : Plan) (count : ℕ) (cells more joined : Entries) (replayed : IsReplayed losses logs count cells)
      (all : AreCells plan more) (join : AreJoined cells more joined)
      (leaves : (peer : ℕ) (prefix : IpPrefix) → route_at (routes_at more prefix) peer
      ≡ left_in losses (get_or (lists_of logs) count []) peer prefix) where
    joined-at : (prefix : IpPrefix) → routes_at joined prefix ≡ routes_of (option_or (cell_at more prefix) (cell_at cells prefix))
    joined-at prefix = ap routes_of (join prefix)

    here : (peer : ℕ) (prefix : IpPrefix) → route_at (routes_at cells prefix) peer ≡ None
        → route_at (routes_at joined prefix) peer ≡ route_at (routes_at more prefix) peer
    here peer prefix none = ap (λ routes. route_at routes peer) (joined-at prefix) ∙ by_cell (cell_at more prefix)
      where
        by_cell : (o : Option CellContent) → route_at (routes_of (option_or o (cell_at cells prefix))) peer ≡ route_at (routes_of o) peer
        by_cell (Some cell) = refl
        by_cell None = none

    there : (prefix : IpPrefix) → (first_octet prefix ≡ count → ⊥) → routes_at joined prefix ≡ routes_at cells prefix
    there prefix apart =
        joined-at prefix
        ∙ ap (λ (o : Option CellContent). routes_of (option_or o (cell_at cells prefix)))
        (no-cell plan more all prefix (λ peer. leaves peer prefix ∙ elsewhere count peer prefix None apart))

    pub replayed-more : IsReplayed losses logs (count + 1) joined
    replayed-more = record {
      done = λ peer prefix within. elim (cases_eq (first_octet prefix) count) [
        | inl now ↦
            here peer prefix (replayed.none peer prefix (omega (arith, now)))
            ∙ leaves peer prefix
            ∙ ap (λ (k : ℕ). left_in losses (get_or (lists_of logs) k []) peer prefix) (sym now)
        | inr before ↦ ap (λ routes. route_at routes peer) (there prefix before) ∙ replayed.done peer prefix (omega (arith, within, before))
      ];
      none = λ peer prefix past.
          ap (λ routes. route_at routes peer) (there prefix (λ e. absurd (omega (arith, past, e))))
          ∙ replayed.none peer prefix (omega (arith, past));
    }

  -- all were
  pub replayed-all : (cells : Entries) → IsReplayed losses logs (length logs) cells → (peer : ℕ) (prefix : IpPrefix)
      → route_at (routes_at cells prefix) peer ≡ left_at losses logs peer prefix
  replayed-all cells replayed peer prefix =
      elim (cases_lt (first_octet prefix) (length logs)) [
        | inl within ↦ replayed.done peer prefix within
        | inr past ↦
            replayed.none peer prefix past
            ∙ ap (λ (entries : List Logged). left_in losses entries peer prefix)
            (sym (get_or_past (lists_of logs) (first_octet prefix) []
            (omega (arith, past, length-map logs (λ (log : Log). log.entries.items)))))
      ]

pub replayed-none : (losses : List ℕ) (logs : List Log) (cells : Entries) → cells ≡ [] → IsReplayed losses logs 0 cells
replayed-none losses logs cells none = record {
  done = λ peer prefix within. absurd (omega (arith, within));
  none = λ peer prefix past. ap (λ (entries : Entries). route_at (routes_at entries prefix) peer) none;
}
