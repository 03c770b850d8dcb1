-- What calls of a writer, one after another, append: for `write_all` of stream.rt.
use Rattle.std.proofs.Common.{◌≡◌, ℕ, zero, suc, ◌-◌, List, [], ◌++◌, length, take, drop, Option, Some, None, Ok, refl, sym, ap, ◌∙◌}
use Rattle.std.proofs.Common.{append_assoc, arith}
use Rattle.std.specs.Io.KnownBytes.{Appends, Keeps}
use Rattle.std.proofs.lemmas.List.{append-nil, length-append, take_at, take_rest, take-append-drop}
use Rattle.rs_mrt.specs.Stream.{failed_calls, AppendsBeginning}

-- what two calls append
Appends-then : (a b c : Option (List ℕ)) (x y : List ℕ) → Appends a b x → Appends b c y → Appends a c (x ++ y)
Appends-then None b c x y p q = tt
Appends-then (Some s) None c x y p q = absurd p
Appends-then (Some s) (Some t) None x y p q = absurd q
Appends-then (Some s) (Some t) (Some u) x y p q = q ∙ ap (λ (z : List ℕ). z ++ y) p ∙ append_assoc s x y

-- nothing is appended by a call that keeps what is known
Appends-Keeps : (a b c : Option (List ℕ)) (x : List ℕ) → Appends a b x → Keeps b c → Appends a c x
Appends-Keeps None b c x p q = tt
Appends-Keeps (Some s) None c x p q = absurd p
Appends-Keeps (Some s) (Some t) None x p q = absurd q
Appends-Keeps (Some s) (Some t) (Some u) x p q = q ∙ p

-- a front of the piece was appended, and this is left of it
pub record Written (before now : Option (List ℕ)) (piece rest : List ℕ) : Type 0 where
  pub front : List ℕ
  pub parts : piece ≡ front ++ rest
  pub appended : Appends before now front

pub Written-more : (before now after : Option (List ℕ)) (piece rest : List ℕ) (n : ℕ) → Written before now piece rest
    → Appends now after (take n rest) → Written before after piece (take (length rest - n) (drop n rest))
Written-more before now after piece rest n so_far more =
    let all : take (length rest - n) (drop n rest) ≡ drop n rest = take_rest rest n in
    rw all
    record {
      front = so_far.front ++ take n rest;
      parts = so_far.parts ∙ ap (λ (z : List ℕ). so_far.front ++ z) (sym (take-append-drop n rest))
          ∙ sym (append_assoc so_far.front (take n rest) (drop n rest));
      appended = Appends-then before now after so_far.front (take n rest) so_far.appended more;
    }

pub Written-stopped : (before now after : Option (List ℕ)) (piece rest : List ℕ) → Written before now piece rest → Keeps now after
    → AppendsBeginning before after piece
Written-stopped before now after piece rest so_far kept =
    let whole = so_far.parts in (
      length so_far.front,
      rw whole (omega (arith, length-append so_far.front rest)),
      rw (whole, take_at so_far.front rest (length so_far.front) refl) (Appends-Keeps before now after so_far.front so_far.appended kept),
    )

-- a call that takes octets has not failed
pub took_some : (n : ℕ) (piece : List ℕ) → (n ≡ 0 → ⊥) → failed_calls (Ok n) piece ≡ 0
took_some zero piece some = absurd (some refl)
took_some (suc n) piece some = refl

-- nothing was taken
pub Keeps-from_nothing : (now after : Option (List ℕ)) → Appends now after [] → Keeps now after
Keeps-from_nothing None after p = tt
Keeps-from_nothing (Some s) None p = p
Keeps-from_nothing (Some s) (Some t) p = p ∙ append-nil s
