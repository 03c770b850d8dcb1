-- A prefix as it is written spells the prefix. For the laws of dumps, and of the beginnings of sessions.
use Rattle.std.proofs.Common.{◌≡◌, ℕ, zero, suc, ◌+◌, ◌-◌, ◌*◌, ◌/◌, ◌^◌, ◌<◌, ◌≤◌, ◌∙◌, length, take, refl, ap, sym, arith}
use Rattle.std.proofs.Common.{length-take-le}
use Rattle.std.proofs.Math.Nat.{div-div-eq-div-mul}
use Rattle.std.proofs.lemmas.Nat.{pow-add}
use Rattle.byteorder.specs.Endian.{big_bytes, big_number}
use Rattle.rs_types.specs.IpPrefix.{IpPrefix, IsPrefix}
use Rattle.rs_types.specs.Prefix.{octets_for, spelled_prefix, Spells}

-- the first octets of an address are the address without the others
first_octets : (count address : ℕ) → count ≤ 4 → address < 2 ^ 32
    → big_number count (take count (big_bytes 4 address)) ≡ address / 2 ^ (8 * (4 - count))
first_octets zero address few fits = omega arith
first_octets (suc zero) address few fits = omega arith
first_octets (suc (suc zero)) address few fits = omega arith
first_octets (suc (suc (suc zero))) address few fits = omega arith
first_octets (suc (suc (suc (suc zero)))) address few fits = omega arith
first_octets (suc (suc (suc (suc (suc count))))) address few fits = absurd (omega arith)

pub spelled_prefix-spells : (prefix : IpPrefix) → prefix.address < 2 ^ 32 → IsPrefix prefix.address prefix.len
    → Spells (spelled_prefix prefix) prefix
spelled_prefix-spells prefix fits is =
    let count = octets_for prefix.len in
    let few : count ≤ 4 = omega arith in
    let octets : length (take count (big_bytes 4 prefix.address)) ≡ count = length-take-le count (big_bytes 4 prefix.address) few in
    let bits : 8 * (4 - count) + (8 * count - prefix.len) ≡ 32 - prefix.len = omega arith in
    let same =
    ap (λ first. first / 2 ^ (8 * count - prefix.len)) (first_octets count prefix.address few fits)
    ∙ div-div-eq-div-mul prefix.address (2 ^ (8 * (4 - count))) (2 ^ (8 * count - prefix.len))
    ∙ ap (λ unit. prefix.address / unit) (sym (pow-add 2 (8 * (4 - count)) (8 * count - prefix.len)) ∙ ap (λ n. 2 ^ n) bits) in
    (refl, octets, same, is)
