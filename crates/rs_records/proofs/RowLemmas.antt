-- The record of a row: its pieces, and how many octets it has.
use Rattle.std.proofs.Common.{ℕ, ◌+◌, ◌≤◌, ◌∙◌, ◌≡◌, List, ◌∷◌, ◌++◌, ap, append_assoc, arith, length, length-append, sym, take}
use Rattle.std.proofs.lemmas.List.{length-take-le}
use Rattle.std.specs.Global.{Vec}
use Rattle.std.specs.Prelude.{vec_len}
use Rattle.rs_mrt.specs.Endian.{big_bytes}
use Rattle.rs_choice.specs.Decision.{SentRoute}
use Rattle.rs_update.specs.IpPrefix.{IpPrefix}
use Rattle.rs_update.specs.Prefix.{octets_for, spelled_prefix}
use Rattle.rs_update.specs.Spelling.{written}
use Rattle.rs_records.specs.Buffer.{Gains}
use Rattle.rs_records.specs.Rib.{rib_entry, rib_ipv4_unicast}
use Rattle.rs_records.proofs.BufferLemmas.{Gains-append}

-- the pieces of a row's record: two in front, the prefix, and two behind
pub Gains-row : (old first second new : Vec ℕ) (header number prefix count entry : List ℕ) → Gains old first (header ++ number)
    → Gains first second prefix → Gains second new (count ++ entry)
    → Gains old new (header ++ (number ++ prefix ++ count ++ entry))
Gains-row old first second new header number prefix count entry before then after =
    let both = Gains-append old first second (header ++ number) prefix before then in
    let all = Gains-append old second new (header ++ number ++ prefix) (count ++ entry) both after in
    let inner : number ++ prefix ++ count ++ entry ≡ number ++ (prefix ++ (count ++ entry)) =
    append_assoc (number ++ prefix) count entry ∙ append_assoc number prefix (count ++ entry) in
    let same : header ++ number ++ prefix ++ (count ++ entry) ≡ header ++ (number ++ prefix ++ count ++ entry) =
    append_assoc (header ++ number) prefix (count ++ entry) ∙ append_assoc header number (prefix ++ (count ++ entry))
    ∙ ap (λ octets. header ++ octets) (sym inner) in
    record {
      items = all.items ∙ ap (λ octets. old.items ++ octets) same;
      len = all.len ∙ ap (λ octets. vec_len old + length octets) same;
      capacity = all.capacity;
    }

-- how many octets the body of a row's record has
pub row-length : (sequence : ℕ) (prefix : IpPrefix) (entry : SentRoute) (count attributes : ℕ)
    → count ≡ octets_for prefix.len → count ≤ 4 → attributes ≡ length (written entry.attributes)
    → 15 + count + attributes ≡ length (rib_ipv4_unicast sequence prefix entry)
row-length sequence prefix entry count attributes same fits written_len =
    let address = take (octets_for prefix.len) (big_bytes 4 prefix.address) in
    let short : length address ≡ octets_for prefix.len =
    length-take-le (octets_for prefix.len) (big_bytes 4 prefix.address) (omega (arith, same)) in
    omega (
      arith,
      same,
      written_len,
      short,
      length-append (big_bytes 4 sequence ++ spelled_prefix prefix ++ big_bytes 2 1) (rib_entry entry),
      length-append (big_bytes 4 sequence ++ spelled_prefix prefix) (big_bytes 2 1),
      length-append (big_bytes 4 sequence) (spelled_prefix prefix),
      length-append (big_bytes 2 entry.peer ++ big_bytes 4 entry.time ++ big_bytes 2 (length (written entry.attributes))) (written entry.attributes),
    )
