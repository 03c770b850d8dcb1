-- A dump that is being written, step by step.
use Rattle.std.proofs.Common.{◌≡◌, ℕ, ◌≤◌, ◌+◌, ◌∙◌, List, ◌++◌, length, take, Option, None, Some, Result, Ok, Err, OnErr, OnOk, refl, ap, sym}
use Rattle.std.proofs.Common.{subst, append_assoc, arith, length-append}
use Rattle.std.specs.Io.KnownBytes.{Appends}
use Rattle.std.proofs.lemmas.List.{take-append-le}
use Rattle.std.proofs.Math.Seq.{take-append-add}
use Rattle.rs_mrt.specs.Stream.{AppendsBeginning}
use Rattle.rs_dump.specs.UnderWay.{IsUnderWay}

-- of an error this holds at any rate
pub OnErr-always : {T E A : Type 0} (result : Result T E) → A → OnErr result A
OnErr-always (Ok x) held = tt
OnErr-always (Err e) held = held

-- what follows from what holds of an error
pub OnErr-then : {T E A B : Type 0} (result : Result T E) → (A → B) → OnErr result A → OnErr result B
OnErr-then (Ok x) follows held = tt
OnErr-then (Err e) follows held = follows held

-- what follows from what holds of an answer
pub OnOk-then : {T E A B : Type 0} (result : Result T E) → (A → B) → OnOk result A → OnOk result B
OnOk-then (Ok x) follows held = follows held
OnOk-then (Err e) follows held = tt

-- octets that are known grow twice
Appends-append : (old mid new : Option (List ℕ)) (first second : List ℕ) → Appends old mid first → Appends mid new second
    → Appends old new (first ++ second)
Appends-append None mid new first second before after = tt
Appends-append (Some xs) None new first second before after = absurd before
Appends-append (Some xs) (Some ys) None first second before after = absurd after
Appends-append (Some xs) (Some ys) (Some zs) first second before after =
    after ∙ ap (λ octets. octets ++ second) before ∙ append_assoc xs first second

-- more waits
pub IsUnderWay-more : (old now : Option (List ℕ)) (waiting more whole : List ℕ) → IsUnderWay old now waiting whole
    → IsUnderWay old now (waiting ++ more) (whole ++ more)
IsUnderWay-more old now waiting more whole before =
    record {
      sent = before.sent;
      taken = before.taken;
      follows = sym (append_assoc before.sent waiting more) ∙ ap (λ octets. octets ++ more) before.follows;
    }

-- a part of what waited is sent
pub IsUnderWay-then : (old mid now : Option (List ℕ)) (waiting later whole : List ℕ) → IsUnderWay old mid waiting whole
    → IsUnderWay mid now later waiting → IsUnderWay old now later whole
IsUnderWay-then old mid now waiting later whole before after =
    record {
      sent = before.sent ++ after.sent;
      taken = Appends-append old mid now before.sent after.sent before.taken after.taken;
      follows = append_assoc before.sent after.sent later ∙ ap (λ octets. before.sent ++ octets) after.follows ∙ before.follows;
    }

-- all that waited is sent
pub Appends-whole : (old mid now : Option (List ℕ)) (waiting whole : List ℕ) → IsUnderWay old mid waiting whole → Appends mid now waiting
    → Appends old now whole
Appends-whole old mid now waiting whole before after =
    let P : List ℕ → Type 0 = λ octets. Appends old now octets in
    subst P before.follows (Appends-append old mid now before.sent waiting before.taken after)

take-part : (sent waiting rest : List ℕ) (n : ℕ) → n ≤ length waiting
    → take (length sent + n) (sent ++ waiting ++ rest) ≡ sent ++ take n waiting
take-part sent waiting rest n bound =
    rw (append_assoc sent waiting rest, take-append-add sent (waiting ++ rest) n, take-append-le n waiting rest) refl

-- a beginning of what waited is sent, and the whole is the beginning of something
pub AppendsBeginning-part : (old mid now : Option (List ℕ)) (waiting whole rest all : List ℕ) → IsUnderWay old mid waiting whole
    → AppendsBeginning mid now waiting → all ≡ whole ++ rest → AppendsBeginning old now all
AppendsBeginning-part old mid now waiting whole rest all before part is =
    let count = length before.sent + part.0 in
    let same : all ≡ before.sent ++ waiting ++ rest = is ∙ ap (λ octets. octets ++ rest) (sym before.follows) in
    let bound : count ≤ length (before.sent ++ waiting ++ rest) =
    omega (arith, length-append (before.sent ++ waiting) rest, length-append before.sent waiting, part.1) in
    let P : List ℕ → Type 0 = λ octets. (count ≤ length octets) × Appends old now (take count octets) in
    let Q : List ℕ → Type 0 = λ octets. Appends old now octets in
    let taken = subst Q (sym (take-part before.sent waiting rest part.0 part.1))
    (Appends-append old mid now before.sent (take part.0 waiting) before.taken part.2) in
    let both = subst P (sym same) (bound, taken) in
    (count, both.0, both.1)

-- more is added to what waited
pub IsUnderWay-also : (old mid now : Option (List ℕ)) (waiting later whole more : List ℕ) → IsUnderWay old mid waiting whole
    → IsUnderWay mid now later (waiting ++ more) → IsUnderWay old now later (whole ++ more)
IsUnderWay-also old mid now waiting later whole more before after =
    IsUnderWay-then old mid now (waiting ++ more) later (whole ++ more) (IsUnderWay-more old mid waiting more whole before) after
