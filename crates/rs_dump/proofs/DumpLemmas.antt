-- The octets of rows, part by part. The proofs of what writes rows rest on it: add_rows, write_dump and the turns of TableDump.
use Rattle.std.proofs.Common.{◌≡◌, ℕ, suc, ◌+◌, ◌∙◌, List, [], ◌∷◌, ◌++◌, All, length, map, take, drop, get_or, ◌<◌, ◌≤◌, length-take-le}
use Rattle.std.proofs.Common.{refl, ap, sym, subst, arith}
use Rattle.std.specs.List.{flat_map, enumerate_from}
use Rattle.std.proofs.lemmas.Grind.{flat_map-append}
use Rattle.std.proofs.lemmas.List.{append-nil, length-map, map-append, take_more, take-append-drop, take_at, drop_at}
use Rattle.std.proofs.lemmas.List.Elements.{All-drop, All-take}
use Rattle.rs_mrt.specs.Record.{record_spelling}
use Rattle.rs_choice.specs.Plan.{Plan}
use Rattle.rs_table.specs.declared.route.Row.{Row}
use Rattle.rs_table.specs.RouteView.{row_of}
use Rattle.rs_table.specs.Table.{TableRow}
use Rattle.rs_records.specs.PeerIndex.{index_record}
use Rattle.rs_dump.specs.Dump.{row_record, dumped, spelled_rows}

enumerate_from-append : {X : Type 0} (from : ℕ) (xs ys : List X)
    → enumerate_from from (xs ++ ys) ≡ enumerate_from from xs ++ enumerate_from (from + length xs) ys
enumerate_from-append from [] ys =
    let same : from + 0 ≡ from = omega arith in
    rw same refl
enumerate_from-append from (x ∷ xs) ys =
    let same : from + suc (length xs) ≡ from + 1 + length xs = omega arith in
    rw same (ap (λ more. (from, x) ∷ more) (enumerate_from-append (from + 1) xs ys))

-- rows, and others behind them
pub spelled-append : (time first : ℕ) (rows later : List TableRow)
    → spelled_rows time first (rows ++ later) ≡ spelled_rows time first rows ++ spelled_rows time (first + length rows) later
spelled-append time first rows later =
    let numbered = ap (λ numbered. flat_map record_spelling (map (row_record time) numbered)) (enumerate_from-append first rows later) in
    let mapped = ap (λ records. flat_map record_spelling records)
    (map-append (row_record time) (enumerate_from first rows) (enumerate_from (first + length rows) later)) in
    numbered ∙ mapped ∙ flat_map-append record_spelling (map (row_record time) (enumerate_from first rows))
    (map (row_record time) (enumerate_from (first + length rows) later))

-- the rows before a place, and the others
pub spelled-split : (time first : ℕ) (rows : List Row) (place : ℕ)
    → spelled_rows time first (map row_of rows) ≡ spelled_rows time first (map row_of (take place rows))
    ++ spelled_rows time (first + length (map row_of (take place rows))) (map row_of (drop place rows))
spelled-split time first rows place =
    ap (λ all. spelled_rows time first (map row_of all)) (sym (take-append-drop place rows))
    ∙ ap (λ mapped. spelled_rows time first mapped) (map-append row_of (take place rows) (drop place rows))
    ∙ spelled-append time first (map row_of (take place rows)) (map row_of (drop place rows))

-- the others are numbered from that place on
pub spelled-cut : (time first : ℕ) (rows : List Row) (place : ℕ) → place ≤ length rows
    → spelled_rows time first (map row_of rows) ≡ spelled_rows time first (map row_of (take place rows))
    ++ spelled_rows time (first + place) (map row_of (drop place rows))
spelled-cut time first rows place within =
    let before = map row_of (take place rows) in
    let count : length before ≡ place = length-map (take place rows) row_of ∙ length-take-le place rows within in
    spelled-split time first rows place
    ∙ ap (λ number. spelled_rows time first before ++ spelled_rows time (first + number) (map row_of (drop place rows))) count

-- one row more
pub spelled-next : (time first : ℕ) (rows : List Row) (place : ℕ) (row : Row) → place < length rows → row ≡ get_or rows place row
    → spelled_rows time first (map row_of (take (place + 1) rows)) ≡ spelled_rows time first (map row_of (take place rows))
    ++ record_spelling (row_record time (first + place, row_of row))
spelled-next time first rows place row bound is =
    let before = map row_of (take place rows) in
    let next : take (place + 1) rows ≡ take place rows ++ row ∷ [] =
    take_more rows place row bound ∙ ap (λ one. take place rows ++ one ∷ []) (sym is) in
    let within : place ≤ length rows = omega arith in
    let count : length before ≡ place = length-map (take place rows) row_of ∙ length-take-le place rows within in
    ap (λ first_rows. spelled_rows time first (map row_of first_rows)) next
    ∙ ap (λ mapped. spelled_rows time first mapped) (map-append row_of (take place rows) (row ∷ []))
    ∙ spelled-append time first before (row_of row ∷ [])
    ∙ ap (λ number. spelled_rows time first before ++ spelled_rows time (first + number) (row_of row ∷ [])) count
    ∙ ap (λ octets. spelled_rows time first before ++ octets) (append-nil (record_spelling (row_record time (first + place, row_of row))))

pub dumped-nil : (plan : Plan) (client time : ℕ) → dumped plan client [] time ≡ record_spelling (index_record plan client time)
unfolding dumped
dumped-nil plan client time = append-nil _

-- a dump is its first record and those of the rows
pub dumped-rows : (plan : Plan) (client : ℕ) (rows : List TableRow) (time : ℕ)
    → dumped plan client rows time ≡ dumped plan client [] time ++ spelled_rows time 0 rows
unfolding dumped
dumped-rows plan client rows time =
    ap (λ octets. octets ++ spelled_rows time 0 rows) (sym (append-nil (record_spelling (index_record plan client time))))

-- what holds of all rows holds of those before, and of the later ones
pub All-before : (P : TableRow → Type 0) (rows later : List TableRow) → All P (rows ++ later) → All P rows
All-before P rows later all =
    let Q : List TableRow → Type 0 = λ part. All P part in
    subst Q (take_at rows later (length rows) refl) (All-take P (length rows) (rows ++ later) all)

pub All-behind : (P : TableRow → Type 0) (rows later : List TableRow) → All P (rows ++ later) → All P later
All-behind P rows later all =
    let Q : List TableRow → Type 0 = λ part. All P part in
    subst Q (drop_at rows later (length rows) refl) (All-drop P (length rows) (rows ++ later) all)
