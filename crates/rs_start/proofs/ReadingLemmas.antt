-- The records of a table are read one after another.
use Rattle.std.proofs.Common.{◌≡◌, ℕ, zero, suc, ◌+◌, ◌<◌, ◌≤◌, ◌∙◌, true, List, [], ◌∷◌, ◌++◌, length, take, drop}
use Rattle.std.proofs.Common.{Ok, refl, ap, sym, subst}
use Rattle.std.proofs.Common.{append_assoc, length-append, arith}
use Rattle.std.specs.Prelude.{nat_le}
use Rattle.std.proofs.Math.Seq.{take-append-add}
use Rattle.std.proofs.lemmas.Bool.{and_from, le-leb}
use Rattle.std.proofs.lemmas.List.{append-nil, drop-append-le, drop_at, length-drop, take-append-le, take-take, take_at}
use Rattle.byteorder.specs.Endian.{big_number}
use Rattle.byteorder.specs.Numbers.{big_from-append}
use Rattle.rs_mrt.specs.Reader.{ReadEnd, FileEnds, ReadGives}
use Rattle.rs_mrt.specs.Record.{MrtRecord, after_record, front_record, has_record, headed, length_field, records_of, rest_of}
use Rattle.rs_mrt.specs.Record.{records_within, rest_within}
use Rattle.rs_start.specs.TableReading.{Came, Fills, Takes}
use Rattle.rs_mrt.proofs.FirstRecord.{records_of-first, rest_of-first}

-- ---- octets

pub came_nothing : (old : List ℕ → ReadEnd → Type 0) → Came old old []
came_nothing old later end may = may

pub came_then : (old mid new : List ℕ → ReadEnd → Type 0) (first second : List ℕ) → Came old mid first → Came mid new second
    → Came old new (first ++ second)
came_then old mid new first second before after later end may =
    subst (λ (octets : List ℕ). old octets end) (sym (append_assoc first second later)) (before (second ++ later) end (after later end may))

-- a call gave some octets to a part of a piece, behind those that came before; the rest of the piece stayed
pub came_given : (old mid new : List ℕ → ReadEnd → Type 0) (front part rest : List ℕ) (count n : ℕ) → length front ≡ count → 0 < n
    → n ≤ length part → Came old mid front → ReadGives mid new (Ok n) part → Came old new (take (count + n) (front ++ (part ++ rest)))
came_given old mid new front part rest count zero len some fits before given = absurd (omega arith)
came_given old mid new front part rest count (suc n) len some fits before given =
    let all : take (count + suc n) (front ++ (part ++ rest)) ≡ front ++ take (suc n) part =
    ap (λ (k : ℕ). take (k + suc n) (front ++ (part ++ rest))) (sym len) ∙ take-append-add front (part ++ rest) (suc n)
    ∙ ap (λ (octets : List ℕ). front ++ octets) (take-append-le (suc n) part rest fits) in
    subst (Came old new) (sym all) (came_then old mid new front (take (suc n) part) before given)

-- it gave none: the file could end
pub none_given : (old mid new : List ℕ → ReadEnd → Type 0) (front part : List ℕ) → 0 < length part → Came old mid front
    → ReadGives mid new (Ok 0) part → old front FileEnds
none_given old mid new front [] some before given = absurd (omega arith)
none_given old mid new front (octet ∷ octets) some before given =
    subst (λ (all : List ℕ). old all FileEnds) (append-nil front) (before [] FileEnds given)

-- ---- a record

module _ (header body later : List ℕ) (long : length header ≡ 12) (len : length body ≡ big_number 4 (drop 8 header)) where
  abbrev octets : List ℕ
  octets = header ++ (body ++ later)

  behind_header : drop 12 octets ≡ body ++ later
  behind_header = drop_at header (body ++ later) 12 long

  field : length_field octets ≡ length body
  field =
      ap (big_number 4) (drop-append-le 8 header (body ++ later) (omega (arith, long)))
      ∙ big_from-append 4 (drop 8 header) (body ++ later) (omega (arith, long, length-drop 8 header)) ∙ sym len

  stands : has_record octets ≡ true
  stands =
      and_from (nat_le 12 (length octets)) (nat_le (length_field octets) (length (drop 12 octets)))
      (le-leb 12 (length octets) (omega (arith, long, length-append header (body ++ later))))
      (le-leb (length_field octets) (length (drop 12 octets)) (omega (arith, field, ap length behind_header, length-append body later)))

  front : front_record octets ≡ headed header body
  front =
      let time : big_number 4 octets ≡ big_number 4 header = big_from-append 4 header (body ++ later) (omega (arith, long)) in
      let kind : big_number 2 (drop 4 octets) ≡ big_number 2 (drop 4 header) =
      ap (big_number 2) (drop-append-le 4 header (body ++ later) (omega (arith, long)))
      ∙ big_from-append 2 (drop 4 header) (body ++ later) (omega (arith, long, length-drop 4 header)) in
      let subtype : big_number 2 (drop 6 octets) ≡ big_number 2 (drop 6 header) =
      ap (big_number 2) (drop-append-le 6 header (body ++ later) (omega (arith, long)))
      ∙ big_from-append 2 (drop 6 header) (body ++ later) (omega (arith, long, length-drop 6 header)) in
      let same : take (length_field octets) (drop 12 octets) ≡ body =
      ap (take (length_field octets)) behind_header ∙ take_at body later (length_field octets) (sym field) in
      rw (time, kind, subtype, same) refl

  after : after_record octets ≡ later
  after = ap (drop (length_field octets)) behind_header ∙ drop_at body later (length_field octets) (sym field)

  one_record : records_of ((header ++ body) ++ later) ≡ headed header body ∷ records_of later
  one_record =
      ap records_of (append_assoc header body later) ∙ records_of-first octets stands
      ∙ ap (λ (r : MrtRecord). r ∷ records_of (after_record octets)) front
      ∙ ap (λ (rest : List ℕ). headed header body ∷ records_of rest) after

  one_rest : rest_of ((header ++ body) ++ later) ≡ rest_of later
  one_rest = ap rest_of (append_assoc header body later) ∙ rest_of-first octets stands ∙ ap rest_of after

-- ---- records

pub takes_one : (old mid new : List ℕ → ReadEnd → Type 0) (header body : List ℕ) → length header ≡ 12
    → length body ≡ big_number 4 (drop 8 header) → Came old mid header → Came mid new body → Takes old new (headed header body ∷ [])
takes_one old mid new header body long len before then =
    record {
      octets = header ++ body;
      came = came_then old mid new header body before then;
      are = λ later. one_record header body later long len;
      end = λ later. one_rest header body later long len;
    }

pub takes_nothing : (old : List ℕ → ReadEnd → Type 0) → Takes old old []
takes_nothing old = record { octets = []; came = came_nothing old; are = λ later. refl; end = λ later. refl }

pub takes_then : (old mid new : List ℕ → ReadEnd → Type 0) (records more : List MrtRecord) → Takes old mid records → Takes mid new more
    → Takes old new (records ++ more)
takes_then old mid new records more first second =
    record {
      octets = first.octets ++ second.octets;
      came = came_then old mid new first.octets second.octets first.came second.came;
      are = λ later.
          ap records_of (append_assoc first.octets second.octets later) ∙ first.are (second.octets ++ later)
          ∙ ap (λ (rs : List MrtRecord). records ++ rs) (second.are later) ∙ sym (append_assoc records more (records_of later));
      end = λ later.
          ap rest_of (append_assoc first.octets second.octets later) ∙ first.end (second.octets ++ later) ∙ second.end later;
    }

-- ---- a file that ends behind them

module _ (old new : List ℕ → ReadEnd → Type 0) (records : List MrtRecord) (takes : Takes old new records) where
  pub file_given : new [] FileEnds → old takes.octets FileEnds
  file_given ends = subst (λ (octets : List ℕ). old octets FileEnds) (append-nil takes.octets) (takes.came [] FileEnds ends)

  pub file_records : records_of takes.octets ≡ records
  unfolding records_of records_within
  file_records = ap records_of (sym (append-nil takes.octets)) ∙ takes.are [] ∙ append-nil records

  pub file_rest : rest_of takes.octets ≡ []
  unfolding rest_of rest_within
  file_rest = ap rest_of (sym (append-nil takes.octets)) ∙ takes.end []

-- ---- the front of a buffer

-- a piece stands at the front of a buffer that was filled
pub fills_front : (old new : List ℕ → ReadEnd → Type 0) (piece more : List ℕ) (all len n : ℕ) → len ≤ all → len ≤ length piece
    → Fills old new (take len piece) n → Fills old new (take len (take all (piece ++ more))) n
fills_front old new piece more all len n fits long fills =
    subst (λ (front : List ℕ). Fills old new front n)
    (sym (take-take len all (piece ++ more) fits ∙ take-append-le len piece more long)) fills
