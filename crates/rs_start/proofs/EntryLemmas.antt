-- An entry of a record of routes is read as it is spelled.
use Rattle.std.proofs.Common.{◌≡◌, ℕ, false, List, ◌++◌, Some, length, take, drop, refl, ap, ◌∙◌, arith}
use Rattle.std.specs.Prelude.{nat_lt}
use Rattle.std.proofs.lemmas.Bool.{le-ltb}
use Rattle.std.proofs.lemmas.List.{length-append, take_at, drop_at}
use Rattle.byteorder.specs.Endian.{big_bytes, big_number}
use Rattle.byteorder.specs.Numbers.{big_number-reads_back}
use Rattle.rs_start.specs.Table.{IsEntry, TableEntry, entry_at, entry_spelling}

module _ (entry : TableEntry) (rest : List ℕ) (fits : IsEntry entry) where
  abbrev octets : List ℕ
  octets = entry_spelling entry ++ rest

  abbrev behind : List ℕ
  behind = entry.section ++ rest

  peer : big_number 2 octets ≡ entry.peer
  peer = big_number-reads_back 2 entry.peer (big_bytes 4 entry.time ++ big_bytes 2 (length entry.section) ++ behind) fits.peer

  time : big_number 4 (drop 2 octets) ≡ entry.time
  time = big_number-reads_back 4 entry.time (big_bytes 2 (length entry.section) ++ behind) fits.time

  count : big_number 2 (drop 6 octets) ≡ length entry.section
  count = big_number-reads_back 2 (length entry.section) behind fits.section

  head_is_there : nat_lt (length octets) 8 ≡ false
  head_is_there = le-ltb (length octets) 8 (omega arith)

  section_is_there : nat_lt (length (drop 8 octets)) (big_number 2 (drop 6 octets)) ≡ false
  section_is_there = le-ltb _ _ (omega (arith, count, length-append entry.section rest))

  section : take (big_number 2 (drop 6 octets)) (drop 8 octets) ≡ entry.section
  section = ap (λ (n : ℕ). take n behind) count ∙ take_at entry.section rest (length entry.section) refl

  left : drop (big_number 2 (drop 6 octets)) (drop 8 octets) ≡ rest
  left = ap (λ (n : ℕ). drop n behind) count ∙ drop_at entry.section rest (length entry.section) refl

  pub entry_is_read : entry_at (entry_spelling entry ++ rest) ≡ Some (entry, rest)
  unfolding entry_at
  entry_is_read = rw (head_is_there, section_is_there, peer, time, section, left) refl
