-- A turn of a dump: rows are taken from the front of those to come, and their records follow what waits.
use Rattle.std.proofs.Common.{◌≡◌, ℕ, ◌+◌, ◌<◌, ◌≤◌, ◌∙◌, List, [], ◌∷◌, ◌++◌, All, Option, None, Some, length, map, ap, sym, subst, append_assoc}
use Rattle.std.proofs.Common.{arith, length-append}
use Rattle.std.specs.Io.KnownBytes.{Appends}
use Rattle.std.proofs.lemmas.List.{append-nil, length-map, nil_from_length, take-append-le}
use Rattle.rs_mrt.specs.Stream.{AppendsBeginning}
use Rattle.rs_table.specs.declared.route.Row.{Row}
use Rattle.rs_table.specs.RouteView.{row_of}
use Rattle.rs_table.specs.Table.{TableRow}
use Rattle.rs_dump.specs.Dump.{spelled_rows}
use Rattle.rs_dump.specs.UnderWay.{IsUnderWay}
use Rattle.rs_dump.proofs.DumpLemmas.{All-before, All-behind, spelled-append}

-- a beginning of the front is a beginning of the whole
pub AppendsBeginning-front : (old now : Option (List ℕ)) (front rest all : List ℕ) → AppendsBeginning old now front → front ++ rest ≡ all
    → AppendsBeginning old now all
AppendsBeginning-front old now front rest all part is =
    let P : List ℕ → Type 0 = λ octets. AppendsBeginning old now octets in
    let Q : List ℕ → Type 0 = λ octets. Appends old now octets in
    let within : part.0 ≤ length (front ++ rest) = omega (arith, length-append front rest, part.1) in
    subst P is (part.0, within, subst Q (sym (take-append-le part.0 front rest part.1)) part.2)

-- nothing was sent yet
Appends-none : (now : Option (List ℕ)) → Appends now now []
Appends-none None = tt
Appends-none (Some octets) = sym (append-nil octets)

pub IsUnderWay-none : (now : Option (List ℕ)) (waiting whole : List ℕ) → waiting ≡ whole → IsUnderWay now now waiting whole
IsUnderWay-none now waiting whole same = record { sent = []; taken = Appends-none now; follows = same }

-- where no row is left, what waits is all
pub nothing-left : (time spelled : ℕ) (rows : List TableRow) (waiting : List ℕ) → length rows ≡ 0
    → waiting ++ spelled_rows time spelled rows ≡ waiting
nothing-left time spelled [] waiting none = append-nil waiting
nothing-left time spelled (row ∷ rows) waiting none = absurd (omega (arith, none))

module _ (time spelled : ℕ) (rows later : List TableRow) (turn : List Row) (taken : rows ≡ map row_of turn ++ later) where
  rows-counted : length rows ≡ length turn + length later
  rows-counted = omega (arith, ap length taken, length-append (map row_of turn) later, length-map turn row_of)

  -- where no row was left, none is
  pub none-later : rows ≡ [] → later ≡ rows
  none-later none = nil_from_length later (omega (arith, rows-counted, ap length none)) ∙ sym none

  pub some-fewer : 0 < length turn → length later < length rows
  some-fewer some = omega (arith, rows-counted, some)

  -- those that are spelled and those to come are as many as before
  pub same-count : (spelled + length turn) + length later ≡ spelled + length rows
  same-count = omega (arith, rows-counted)

  pub known-later : (P : TableRow → Type 0) → All P rows → All P later
  known-later P all =
      let Q : List TableRow → Type 0 = λ some. All P some in
      All-behind P (map row_of turn) later (subst Q taken all)

  pub known-turn : (P : TableRow → Type 0) → All P rows → All P (map row_of turn)
  known-turn P all =
      let Q : List TableRow → Type 0 = λ some. All P some in
      All-before P (map row_of turn) later (subst Q taken all)

  -- the records of the turn, and those behind it, follow what waits
  pub turn-then-rest : (waiting : List ℕ) → (waiting ++ spelled_rows time spelled (map row_of turn))
      ++ spelled_rows time (spelled + length turn) later ≡ waiting ++ spelled_rows time spelled rows
  turn-then-rest waiting =
      let behind = λ (count : ℕ). spelled_rows time (spelled + count) later in
      append_assoc waiting (spelled_rows time spelled (map row_of turn)) (behind (length turn))
      ∙ ap (λ count. waiting ++ (spelled_rows time spelled (map row_of turn) ++ behind count)) (sym (length-map turn row_of))
      ∙ ap (λ octets. waiting ++ octets) (sym (ap (spelled_rows time spelled) taken ∙ spelled-append time spelled (map row_of turn) later))
