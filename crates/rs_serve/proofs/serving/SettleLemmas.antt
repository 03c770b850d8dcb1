-- The answer to a run of which all threads were joined: for `judge` and `settle` of serving.rt.
use Rattle.std.proofs.Common.{◌≡◌, ◌∙◌, sym, ap, subst, ℕ, zero, inl, inr, Bool, true, false, not, List, [], ◌∷◌, All, length, map}
use Rattle.std.proofs.Common.{Result, Ok, Err, Option, Some, None, refl, ◌<◌, cond, get_or, arith}
use Rattle.std.specs.Prelude.{IfErr, nat_lt, slice_get}
use Rattle.std.specs.Result.{IsErrAnd}
use Rattle.std.specs.List.{list_any, position, position_or_len}
use Rattle.std.proofs.lemmas.Bool.{ltb-false, ltb-true, not-false, not-true, or_parts}
use Rattle.std.proofs.lemmas.List.Elements.{All-nil, All-cons, All-head, All-map, All-tail}
use Rattle.std.proofs.lemmas.List.Sums.{fails_before_first, passes_at_first}
use Rattle.std.proofs.lemmas.Option.{get_or_from_slice_get}
use Rattle.rs_patience.proofs.PlaceLemmas.{get-map, some-at}
use Rattle.rs_choice.specs.Plan.{Plan}
use Rattle.rs_session.specs.Change.{is_read}
use Rattle.rs_table.specs.Content.{TablesContent}
use Rattle.rs_table.specs.Merge.{IsMerged}
use Rattle.rs_worker.specs.Worked.{is_memory}
use Rattle.rs_worker.specs.declared.crew.Joined.{Joined}
use Rattle.rs_serve.specs.Outcome.{IsFirst}
use Rattle.rs_serve.specs.Run.{CanMerge, IsRefusal, IsVerdictOn, IsWell}
use Rattle.rs_serve.specs.declared.fault.FloorRefused.{FloorRefused}
use Rattle.rs_serve.specs.declared.fault.FloorRefused.TheVariants.{Memory, Unsettled, Read}

-- ---- the least place

-- the first member that passes a test is the least place at which the list made of all members has a value
first-of : {X : Type 0} (p f : X → Bool) (value other : Bool) → ((x : X) → p x ≡ true → f x ≡ value)
    → ((x : X) → p x ≡ false → f x ≡ other) → (xs : List X) → IsFirst value other (map f xs) (position p xs)
first-of {X} p f value other passing failing xs = by (nat_lt (position_or_len p xs) (length xs)) refl
  where
    before : (k : ℕ) → k < position_or_len p xs → (x : X) → slice_get xs k ≡ Some x → f x ≡ other
    before k below x at =
        failing x (subst (λ (y : X). p y ≡ false) (get_or_from_slice_get xs k x x at) (fails_before_first p xs k x below))

    by : (b : Bool) → nat_lt (position_or_len p xs) (length xs) ≡ b → IsFirst value other (map f xs) (cond b (Some (position_or_len p xs)) None)
    by true is =
        let here = some-at xs (position_or_len p xs) (ltb-true (position_or_len p xs) (length xs) is) in
        let passes : p here.0 ≡ true =
        subst (λ (y : X). p y ≡ true) (get_or_from_slice_get xs (position_or_len p xs) here.0 here.0 here.1)
        (passes_at_first p xs here.0 (ltb-true (position_or_len p xs) (length xs) is)) in
        record {
          has = get-map f xs (position_or_len p xs) here.0 here.1 ∙ ap Some (passing here.0 passes);
          least = λ k below.
              let there = some-at xs k (omega (arith, below, ltb-true (position_or_len p xs) (length xs) is)) in
              get-map f xs k there.0 there.1 ∙ ap Some (before k below there.0 there.1);
        }
    by false is =
        All-map (λ v. v ≡ other) f xs
        (λ k d below. failing (get_or xs k d) (fails_before_first p xs k d (omega (arith, below, ltb-false (position_or_len p xs) (length xs) is))))

pub first-read : (ends : List Joined) (found : Option ℕ) → found ≡ position (λ end. is_read end.reason) ends
    → IsFirst true false (map (λ end. is_read end.reason) ends) found
first-read ends found is =
    subst (IsFirst true false (map (λ (end : Joined). is_read end.reason) ends)) (sym is)
    (first-of (λ (end : Joined). is_read end.reason) (λ (end : Joined). is_read end.reason) true false (λ x e. e) (λ x e. e) ends)

pub first-unsettled : (ends : List Joined) (found : Option ℕ) → found ≡ position (λ end. not end.settled) ends
    → IsFirst false true (map (λ end. end.settled) ends) found
first-unsettled ends found is =
    subst (IsFirst false true (map (λ (end : Joined). end.settled) ends)) (sym is)
    (first-of (λ (end : Joined). not end.settled) (λ (end : Joined). end.settled) false true (λ x e. not-true x.settled e)
    (λ x e. not-false x.settled e) ends)

-- ---- the answer

wells : (ends : List Joined) → list_any (λ end. is_memory end.reason) ends ≡ false
    → All (λ v. v ≡ false) (map (λ end. is_read end.reason) ends) → All (λ v. v ≡ true) (map (λ end. end.settled) ends) → All IsWell ends
wells [] none reads settled = All-nil IsWell
wells (e ∷ es) none reads settled =
    let parts = or_parts (is_memory e.reason) (list_any (λ (end : Joined). is_memory end.reason) es) none in
    All-cons IsWell e es (
      All-head (λ v. v ≡ true) e.settled (map (λ (end : Joined). end.settled) es) settled,
      parts.0,
      All-head (λ v. v ≡ false) (is_read e.reason) (map (λ (end : Joined). is_read end.reason) es) reads,
    )
    (wells es parts.1 (All-tail (λ v. v ≡ false) (is_read e.reason) (map (λ (end : Joined). is_read end.reason) es) reads)
    (All-tail (λ v. v ≡ true) e.settled (map (λ (end : Joined). end.settled) es) settled))

-- where the verdict is well, all is
pub all-well : (ends : List Joined) (whole : Bool) → IsVerdictOn ends whole (Ok tt) → (whole ≡ true) × All IsWell ends
all-well ends whole verdict =
    let parts = or_parts (list_any (λ (end : Joined). is_memory end.reason) ends) (not whole) verdict.0 in
    (not-false whole parts.1, wells ends parts.0 verdict.1 verdict.2)

-- tables made of parts that can be merged are over a plan of so many peers
pub merged-counted : (peers : ℕ) (parts : List TablesContent) (merged : TablesContent) → CanMerge peers parts → IsMerged parts merged
    → length merged.plan.peers ≡ peers
merged-counted peers parts merged can is =
    ap (λ (plan : Plan). length plan.peers) (is.plan zero merged can.some) ∙ can.counted zero merged can.some

remembers : (ends : List Joined) → list_any (λ end. is_memory end.reason) ends ≡ false → All (λ end. is_memory end.reason ≡ false) ends
remembers [] none = All-nil (λ end. is_memory end.reason ≡ false)
remembers (e ∷ es) none =
    let parts = or_parts (is_memory e.reason) (list_any (λ (end : Joined). is_memory end.reason) es) none in
    All-cons (λ end. is_memory end.reason ≡ false) e es parts.0 (remembers es parts.1)

no-reads : (ends : List Joined) → All (λ v. v ≡ false) (map (λ end. is_read end.reason) ends) → All (λ end. is_read end.reason ≡ false) ends
no-reads [] none = All-nil (λ end. is_read end.reason ≡ false)
no-reads (e ∷ es) none =
    All-cons (λ end. is_read end.reason ≡ false) e es
    (All-head (λ v. v ≡ false) (is_read e.reason) (map (λ (end : Joined). is_read end.reason) es) none)
    (no-reads es (All-tail (λ v. v ≡ false) (is_read e.reason) (map (λ (end : Joined). is_read end.reason) es) none))

-- where it isn't, the verdict says why
refusal : (ends : List Joined) (whole : Bool) (fault : FloorRefused) → IsVerdictOn ends whole (Err fault) → IsRefusal ends whole fault
refusal ends whole Memory verdict = inl verdict
refusal ends whole (Read peer) verdict =
    let parts = or_parts (list_any (λ (end : Joined). is_memory end.reason) ends) (not whole) verdict.0 in
    record { whole_is = not-false whole parts.1; remember = remembers ends parts.0; least = verdict.1 }
refusal ends whole (Unsettled peer) verdict =
    let parts = or_parts (list_any (λ (end : Joined). is_memory end.reason) ends) (not whole) verdict.0 in
    record {
      whole_is = not-false whole parts.1;
      remember = remembers ends parts.0;
      read = no-reads ends verdict.1;
      least = verdict.2;
    }
refusal ends whole fault verdict = absurd verdict

-- so the answer is refused, too
pub judge-refuses : {A : Type 0} (ends : List Joined) (whole : Bool) (fault : FloorRefused) (result : Result A FloorRefused)
    → IsErrAnd result (λ found. found ≡ fault) → IsVerdictOn ends whole (Err fault) → IfErr result (IsRefusal ends whole)
judge-refuses ends whole fault (Ok value) same verdict = absurd same
judge-refuses ends whole fault (Err found) same verdict =
    subst (IsRefusal ends whole) (sym same) (refusal ends whole fault verdict)

-- or all is well, and memory was refused to the answer
pub answer-refused : {A : Type 0} (ends : List Joined) (whole : Bool) (result : Result A FloorRefused)
    → IsErrAnd result (λ found. found ≡ Memory) → (whole ≡ true) × All IsWell ends → IfErr result (IsRefusal ends whole)
answer-refused ends whole (Ok value) same well = absurd same
answer-refused ends whole (Err found) same well = subst (IsRefusal ends whole) (sym same) (inr well)
