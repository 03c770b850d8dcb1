-- The front of a record says what the record says: for `front_of_a_record_says_the_same` of laws.rt.
use Rattle.std.proofs.Common.{◌≡◌, ℕ, ◌+◌, ◌-◌, ◌≤◌, Bool, true, false, ◌&&◌, not, cond, eqb, ltb, List, length, take, drop, Result, Ok}
use Rattle.std.proofs.Common.{Err, lit≤, refl, ap, ◌∙◌, arith}
use Rattle.std.proofs.lemmas.Bool.{eqb-true}
use Rattle.std.proofs.lemmas.Bool.Decides.{nat_tests}
use Rattle.std.proofs.lemmas.List.{length-take, drop-take}
use Rattle.byteorder.specs.Endian.{big_number}
use Rattle.byteorder.specs.Numbers.{big_from-take}
use Rattle.rs_mrt.specs.declared.fault.MrtFault.{MrtFault}
use Rattle.rs_mrt.specs.declared.fault.MrtFault.TheVariants.{FieldsCutShort, MicrosecondsCutShort}
use Rattle.rs_mrt.specs.Entry.{Meaning, Message, State, Other, message_entry, state_entry, fields_entry, entry_of, cut_message}
use Rattle.rs_mrt.specs.Entry.{FrontSaysTheSame}

-- ---- the front of a list of octets

drop_front : (i n : ℕ) (octets : List ℕ) → i ≤ n → drop i (take n octets) ≡ take (n - i) (drop i octets)
drop_front i n octets h =
    let n-is : n ≡ i + (n - i) = omega arith in
    ap (λ (k : ℕ). drop i (take k octets)) n-is ∙ drop-take i (n - i) octets

front_number : (i k n : ℕ) (octets : List ℕ) → i + k ≤ n → big_number k (drop i (take n octets)) ≡ big_number k (drop i octets)
front_number i k n octets h =
    ap (big_number k) (drop_front i n octets (omega arith)) ∙ big_from-take 0 k (n - i) (drop i octets) (omega arith)

front_shorter : (k n : ℕ) (octets : List ℕ) → k ≤ n → ltb (length (take n octets)) k ≡ ltb (length octets) k
front_shorter k n octets h = grind (arith, nat_tests, length-take n octets)

-- ---- entries

cut_after_test : (short : Bool) (n peer_as peer : ℕ) (message : List ℕ)
    → cond short (Err FieldsCutShort) (Ok (Message peer_as peer (take n message)))
    ≡ cut_message n (cond short (Err FieldsCutShort) (Ok (Message peer_as peer message)))
cut_after_test short n peer_as peer message = grind arith

message_front : (n : ℕ) (fields : List ℕ) → 24 ≤ n → message_entry (take n fields) ≡ cut_message (n - 20) (message_entry fields)
message_front n fields h =
    let short = front_shorter 20 n fields (omega arith) in
    let peer_as = front_number 0 4 n fields (omega arith) in
    let peer = front_number 12 4 n fields (omega arith) in
    let message = drop_front 20 n fields (omega arith) in
    rw (short, peer_as, peer, message) (cut_after_test (ltb (length fields) 20) (n - 20) (big_number 4 fields)
    (big_number 4 (drop 12 fields)) (drop 20 fields))

cut_state : (short : Bool) (n peer_as peer old new : ℕ)
    → cond short (Err FieldsCutShort) (Ok (State peer_as peer old new))
    ≡ cut_message n (cond short (Err FieldsCutShort) (Ok (State peer_as peer old new)))
cut_state short n peer_as peer old new = grind arith

state_front : (n m : ℕ) (fields : List ℕ) → 24 ≤ n → state_entry (take n fields) ≡ cut_message m (state_entry fields)
state_front n m fields h =
    let short = front_shorter 24 n fields (omega arith) in
    let peer_as = front_number 0 4 n fields (omega arith) in
    let peer = front_number 12 4 n fields (omega arith) in
    let old = front_number 20 2 n fields (omega arith) in
    let new = front_number 22 2 n fields (omega arith) in
    rw (short, peer_as, peer, old, new) (cut_state (ltb (length fields) 24) m (big_number 4 fields) (big_number 4 (drop 12 fields))
    (big_number 2 (drop 20 fields)) (big_number 2 (drop 22 fields)))

-- ---- the tests before an entry

-- the tests of Subtype, length and family, and then one of two entries
abbrev tested : Bool → Bool → Bool → Bool → Result Meaning MrtFault → Result Meaning MrtFault → Result Meaning MrtFault
tested other short family message x y = cond other (Ok Other) (cond short (Err FieldsCutShort) (cond family (Ok Other) (cond message x y)))

cut_tested : (other short family message : Bool) (n : ℕ) (x y : Result Meaning MrtFault)
    → tested other short family message (cut_message n x) (cut_message n y) ≡ cut_message n (tested other short family message x y)
cut_tested other short family message n x y = grind arith

fields_front : (subtype n : ℕ) (fields : List ℕ) → 24 ≤ n
    → fields_entry subtype (take n fields) ≡ cut_message (n - 20) (fields_entry subtype fields)
unfolding fields_entry
fields_front subtype n fields h =
    let short = front_shorter 12 n fields (omega arith) in
    let family = front_number 10 2 n fields (omega arith) in
    let x = message_front n fields h in
    let y = state_front n (n - 20) fields h in
    rw (x, y, short, family)
    (cut_tested (not (eqb subtype 4) && not (eqb subtype 5)) (ltb (length fields) 12) (not (eqb (big_number 2 (drop 10 fields)) 1))
    (eqb subtype 4) (n - 20) (message_entry fields) (state_entry fields))

-- ---- the record

cut_microseconds : (short : Bool) (n : ℕ) (x : Result Meaning MrtFault)
    → cond short (Err MicrosecondsCutShort) (cut_message n x) ≡ cut_message n (cond short (Err MicrosecondsCutShort) x)
cut_microseconds short n x = grind arith

microseconds_front : (subtype : ℕ) (body : List ℕ)
    → cond (ltb (length (take 4121 body)) 4) (Err MicrosecondsCutShort) (fields_entry subtype (drop 4 (take 4121 body)))
    ≡ cut_message 4097 (cond (ltb (length body) 4) (Err MicrosecondsCutShort) (fields_entry subtype (drop 4 body)))
microseconds_front subtype body =
    let short = front_shorter 4 4121 body (lit≤ tt) in
    let fields = drop_front 4 4121 body (lit≤ tt) in
    let says = fields_front subtype 4117 (drop 4 body) (lit≤ tt) in
    rw (short, fields, says) (cut_microseconds (ltb (length body) 4) 4097 (fields_entry subtype (drop 4 body)))

-- by the tests of the Type, of which one holds at most
by_type : (plain extended : Bool) → (plain ≡ true → extended ≡ true → ⊥) → (subtype : ℕ) (body : List ℕ)
    → cond plain (fields_entry subtype (take 4121 body)) (cond extended
    (cond (ltb (length (take 4121 body)) 4) (Err MicrosecondsCutShort) (fields_entry subtype (drop 4 (take 4121 body)))) (Ok Other))
    ≡ cut_message (cond extended 4097 4101) (cond plain (fields_entry subtype body)
    (cond extended (cond (ltb (length body) 4) (Err MicrosecondsCutShort) (fields_entry subtype (drop 4 body))) (Ok Other)))
by_type true true one subtype body = absurd (one refl refl)
by_type true false one subtype body = fields_front subtype 4121 body (lit≤ tt)
by_type false true one subtype body = microseconds_front subtype body
by_type false false one subtype body = refl

pub front_says : FrontSaysTheSame
unfolding entry_of
front_says r =
    by_type (eqb r.kind 16) (eqb r.kind 17) (λ p q. let plain = eqb-true r.kind 16 p in let extended = eqb-true r.kind 17 q in omega arith)
    r.subtype r.body
