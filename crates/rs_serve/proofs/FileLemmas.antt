-- What follows the record that ends a session says nothing: for AtHandLemmas.
use Rattle.std.proofs.Common.{◌≡◌, ◌∙◌, sym, ap, refl, ℕ, ◌+◌, ◌*◌, ◌^◌, ◌≤◌, zero, suc, arith, Bool, true, false, cond, not, List, [], ◌∷◌}
use Rattle.std.proofs.Common.{◌++◌, length, take, drop, length-append, length-drop, Option, Some}
use Rattle.std.specs.Prelude.{nat_le, slice_index, find, take_while, if◌then◌else◌}
use Rattle.std.specs.List.{list_any}
use Rattle.std.proofs.lemmas.List.Sums.{take_while-cons}
use Rattle.std.proofs.lemmas.Bool.{and_from, and_parts, le-leb, leb-true}
use Rattle.std.proofs.lemmas.List.{get_or_append_left, take-append-le, drop-append-le}
use Rattle.rs_mrt.specs.Source.{source_end}
use Rattle.rs_mrt.specs.declared.fault.SourceFault.{SourceFault}
use Rattle.rs_session.specs.Effect.{effect_of}
use Rattle.rs_session.specs.FileChanges.{ends, changes_of, passed_of, changes_in_by, passed_in_by}
use Rattle.rs_session.specs.Given.{has_end}
use Rattle.rs_types.specs.declared.peer_id.PeerId.{PeerId}
use Rattle.rs_update.specs.declared.errors.Errors.{Errors}
use Rattle.rs_mrt.specs.Record.{MrtRecord, records_within, records_of, end_of, has_record, front_record, after_record, length_field}

-- the number in n octets from place i, the highest first
abbrev big_from : ℕ → ℕ → List ℕ → ℕ
big_from i zero xs = 0
big_from i (suc n) xs = slice_index xs i * 256 ^ n + big_from (suc i) n xs

abbrev big_number : ℕ → List ℕ → ℕ
big_number n xs = big_from 0 n xs

-- a number in the octets at the front
same-number : (n i : ℕ) (xs rest : List ℕ) → i + n ≤ length xs → big_from i n (xs ++ rest) ≡ big_from i n xs
same-number zero i xs rest h = refl
same-number (suc n) i xs rest h =
    let here : slice_index (xs ++ rest) i ≡ slice_index xs i = get_or_append_left xs rest 0 i (omega arith) in
    let later : big_from (suc i) n (xs ++ rest) ≡ big_from (suc i) n xs = same-number n (suc i) xs rest (omega arith) in
    ap (λ (x : ℕ). x * 256 ^ n + big_from (suc i) n (xs ++ rest)) here ∙ ap (λ (m : ℕ). slice_index xs i * 256 ^ n + m) later

-- and behind some octets
same-behind : (n k : ℕ) (xs rest : List ℕ) → k + n ≤ length xs → big_number n (drop k (xs ++ rest)) ≡ big_number n (drop k xs)
same-behind n k xs rest h =
    ap (big_number n) (drop-append-le k xs rest (omega arith)) ∙ same-number n 0 (drop k xs) rest (omega (arith, length-drop k xs))

abbrev mk : ℕ → ℕ → ℕ → List ℕ → MrtRecord
mk time kind subtype body = record { time = time; kind = kind; subtype = subtype; body = body }

-- a record that stands at the front of some octets stands there with others behind them
record Stays (xs rest : List ℕ) : Type 0 where
  there : has_record (xs ++ rest) ≡ true
  front : front_record (xs ++ rest) ≡ front_record xs
  after : after_record (xs ++ rest) ≡ after_record xs ++ rest

stays : (xs rest : List ℕ) → has_record xs ≡ true → Stays xs rest
stays xs rest has = record { there = there; front = front; after = after }
  where
    parts : (nat_le 12 (length xs) ≡ true) × (nat_le (length_field xs) (length (drop 12 xs)) ≡ true)
    parts = and_parts (nat_le 12 (length xs)) (nat_le (length_field xs) (length (drop 12 xs))) has

    head : 12 ≤ length xs
    head = leb-true 12 (length xs) parts.0

    field : length_field (xs ++ rest) ≡ length_field xs
    field = same-behind 4 8 xs rest (omega (arith, head))

    behind : drop 12 (xs ++ rest) ≡ drop 12 xs ++ rest
    behind = drop-append-le 12 xs rest head

    room : length_field xs ≤ length (drop 12 xs)
    room = leb-true (length_field xs) (length (drop 12 xs)) parts.1

    there : has_record (xs ++ rest) ≡ true
    there = and_from (nat_le 12 (length (xs ++ rest))) (nat_le (length_field (xs ++ rest)) (length (drop 12 (xs ++ rest))))
        (le-leb 12 (length (xs ++ rest)) (omega (arith, length-append xs rest, head)))
        (le-leb (length_field (xs ++ rest)) (length (drop 12 (xs ++ rest)))
        (omega (arith, field, ap length behind, length-append (drop 12 xs) rest, room)))

    body : take (length_field (xs ++ rest)) (drop 12 (xs ++ rest)) ≡ take (length_field xs) (drop 12 xs)
    body = ap (λ (n : ℕ). take n (drop 12 (xs ++ rest))) field ∙ ap (take (length_field xs)) behind
        ∙ take-append-le (length_field xs) (drop 12 xs) rest room

    front : front_record (xs ++ rest) ≡ front_record xs
    front =
        ap (λ (t : ℕ). mk t (big_number 2 (drop 4 (xs ++ rest))) (big_number 2 (drop 6 (xs ++ rest)))
        (take (length_field (xs ++ rest)) (drop 12 (xs ++ rest)))) (same-number 4 0 xs rest (omega (arith, head)))
        ∙ ap (λ (k : ℕ). mk (big_number 4 xs) k (big_number 2 (drop 6 (xs ++ rest)))
        (take (length_field (xs ++ rest)) (drop 12 (xs ++ rest)))) (same-behind 2 4 xs rest (omega (arith, head)))
        ∙ ap (λ (s : ℕ). mk (big_number 4 xs) (big_number 2 (drop 4 xs)) s (take (length_field (xs ++ rest)) (drop 12 (xs ++ rest))))
        (same-behind 2 6 xs rest (omega (arith, head)))
        ∙ ap (λ (b : List ℕ). mk (big_number 4 xs) (big_number 2 (drop 4 xs)) (big_number 2 (drop 6 xs)) b) body

    after : after_record (xs ++ rest) ≡ after_record xs ++ rest
    after = ap (λ (n : ℕ). drop n (drop 12 (xs ++ rest))) field ∙ ap (drop (length_field xs)) behind
        ∙ drop-append-le (length_field xs) (drop 12 xs) rest room

within-zero : (xs : List ℕ) → records_within 0 xs ≡ []
unfolding records_within
within-zero xs = refl

within-suc : (n : ℕ) (xs : List ℕ) → records_within (suc n) xs
    ≡ (if has_record xs then front_record xs ∷ records_within n (after_record xs) else [])
unfolding records_within
within-suc n xs = refl

within-yes : (n : ℕ) (xs : List ℕ) → has_record xs ≡ true → records_within (suc n) xs ≡ front_record xs ∷ records_within n (after_record xs)
within-yes n xs has = within-suc n xs ∙ ap (λ (b : Bool). if b then front_record xs ∷ records_within n (after_record xs) else []) has

within-no : (n : ℕ) (xs : List ℕ) → has_record xs ≡ false → records_within (suc n) xs ≡ []
within-no n xs has = within-suc n xs ∙ ap (λ (b : Bool). if b then front_record xs ∷ records_within n (after_record xs) else []) has

-- the records of some octets come first, with others behind them
more-records : (n m : ℕ) (xs rest : List ℕ) → n ≤ m → (later : List MrtRecord)
    × (records_within m (xs ++ rest) ≡ records_within n xs ++ later)
more-records zero m xs rest h =
    (records_within m (xs ++ rest), sym (ap (λ (rs : List MrtRecord). rs ++ records_within m (xs ++ rest)) (within-zero xs)))
more-records (suc n) zero xs rest h = absurd (omega arith)
more-records (suc n) (suc m) xs rest h = by (has_record xs) refl (more-records n m (after_record xs) rest (omega arith))
  where
    by : (b : Bool) → has_record xs ≡ b → ((others : List MrtRecord)
        × (records_within m (after_record xs ++ rest) ≡ records_within n (after_record xs) ++ others)) → (later : List MrtRecord)
        × (records_within (suc m) (xs ++ rest) ≡ records_within (suc n) xs ++ later)
    by false is others = (
      records_within (suc m) (xs ++ rest),
      sym (ap (λ (rs : List MrtRecord). rs ++ records_within (suc m) (xs ++ rest))
          (within-no n xs is)),
    )
    by true is others =
        let s = stays xs rest is in (
          others.0,
          within-yes m (xs ++ rest) s.there
              ∙ ap (λ (r : MrtRecord). r ∷ records_within m (after_record (xs ++ rest))) s.front
              ∙ ap (λ (ys : List ℕ). front_record xs ∷ records_within m ys) s.after
              ∙ ap (λ (rs : List MrtRecord). front_record xs ∷ rs) others.1
              ∙ sym (ap (λ (rs : List MrtRecord). rs ++ others.0) (within-yes n xs is)),
        )

records-are : (file : List ℕ) → records_of file ≡ records_within (length file) file
unfolding records_of
records-are file = refl

pub records-front : (file rest : List ℕ) → (later : List MrtRecord) × (records_of (file ++ rest) ≡ records_of file ++ later)
records-front file rest =
    let more = more-records (length file) (length (file ++ rest)) file rest (omega (arith, length-append file rest)) in
    (more.0, records-are (file ++ rest) ∙ more.1 ∙ sym (ap (λ (rs : List MrtRecord). rs ++ more.0) (records-are file)))

-- ---- the record that ends a session

record Ended {X : Type 0} (p : X → Bool) (xs more : List X) : Type 0 where
  reads : take_while (λ x. not (p x)) (xs ++ more) ≡ take_while (λ x. not (p x)) xs
  last : X
  found_more : find p (xs ++ more) ≡ Some last
  found : find p xs ≡ Some last

goes-on : {X : Type 0} (p : X → Bool) (x : X) (xs : List X) → p x ≡ false
    → take_while (λ y. not (p y)) (x ∷ xs) ≡ x ∷ take_while (λ y. not (p y)) xs
goes-on {X} p x xs is =
    take_while-cons (λ (y : X). not (p y)) x xs ∙ ap (λ (b : Bool). cond (not b) (x ∷ take_while (λ (y : X). not (p y)) xs) []) is

ended : {X : Type 0} (p : X → Bool) (xs more : List X) → list_any p xs ≡ true → Ended p xs more
ended p [] more e = absurd cc
ended {X} p (x ∷ xs) more e = by (p x) refl (λ any. ended p xs more any)
  where
    by : (b : Bool) → p x ≡ b → (list_any p xs ≡ true → Ended p xs more) → Ended p (x ∷ xs) more
    by true is later = record { reads = rw is refl; last = x; found_more = rw is refl; found = rw is refl }
    by false is later =
        let any : list_any p xs ≡ true = rw is at e in
        let rest = later any in
        record {
          reads = goes-on p x (xs ++ more) is ∙ ap (λ (ys : List X). x ∷ ys) rest.reads
              ∙ sym (goes-on p x xs is);
          last = rest.last;
          found_more = rw is rest.found_more;
          found = rw is rest.found;
        }

changes-front : (errors : Errors) (peer : PeerId) (rs more : List MrtRecord) (end other : Option SourceFault)
    → list_any (λ r. ends (effect_of errors peer r)) rs ≡ true
    → changes_of errors peer (rs ++ more) end ≡ changes_of errors peer rs other
unfolding changes_of
changes-front errors peer rs more end other has =
    let e = ended (λ (r : MrtRecord). ends (effect_of errors peer r)) rs more has in
    rw (e.reads, e.found_more, e.found) refl

passed-front : (errors : Errors) (peer : PeerId) (rs more : List MrtRecord) → list_any (λ r. ends (effect_of errors peer r)) rs ≡ true
    → passed_of errors peer (rs ++ more) ≡ passed_of errors peer rs
unfolding passed_of
passed-front errors peer rs more has =
    let e = ended (λ (r : MrtRecord). ends (effect_of errors peer r)) rs more has in
    rw e.reads refl

-- octets behind the record that ends a session say nothing
pub front-says : (errors : Errors) (peer : PeerId) (file rest : List ℕ) → has_end errors peer file ≡ true
    → (changes_in_by errors peer (file ++ rest) ≡ changes_in_by errors peer file)
    × (passed_in_by errors peer (file ++ rest) ≡ passed_in_by errors peer file)
front-says errors peer file rest has =
    let more = records-front file rest in (
      ap (λ (rs : List MrtRecord). changes_of errors peer rs (source_end (end_of (file ++ rest)))) more.1
          ∙ changes-front errors peer (records_of file) more.0 (source_end (end_of (file ++ rest))) (source_end (end_of file)) has,
      ap (λ (rs : List MrtRecord). passed_of errors peer rs) more.1 ∙ passed-front errors peer (records_of file) more.0 has,
    )
