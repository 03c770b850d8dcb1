-- Where times go back with one record more.
use Rattle.std.proofs.Common.{◌≡◌, ◌≤◌, ◌∙◌, sym, ap, refl, ℕ, ◌+◌, nat_lt, List, [], ◌∷◌, ◌++◌, length, map}
use Rattle.std.proofs.Common.{Option, Some, None, option_map, arith, inl, inr, append_assoc, subst, ◌⊎◌, ltb-false, ltb-true}
use Rattle.std.proofs.lemmas.Bool.{cases_Bool}
use Rattle.std.proofs.lemmas.List.Elements.{All-contains}
use Rattle.rs_inventory.specs.Back.{GoesBack, NeverGoesBack, TellsBack, back_behind, first_back, tolerated}
use Rattle.rs_inventory.specs.Peer.{counted}
use Rattle.rs_inventory.specs.Times.{IsLatest, known_sum}
use Rattle.rs_inventory.specs.declared.back.Back.{Back}
use Rattle.rs_inventory.specs.declared.finding.Finding.{Finding}

-- what stands before one of some records and one more: all of those, or what stands before it among them
abbrev pub Split : List Finding → Finding → List Finding → Finding → Type 0
Split findings last before one =
    ((before ≡ findings) × (one ≡ last)) ⊎ ((rest : List Finding) × (findings ≡ before ++ one ∷ rest))

abbrev tail_of : List Finding → List Finding
tail_of [] = []
tail_of (f ∷ fs) = fs

abbrev head_or : Finding → List Finding → Finding
head_or other [] = other
head_or other (f ∷ fs) = f

pub not-empty : (before : List Finding) (one : Finding) (later : List Finding) → [] ≡ before ++ one ∷ later → (X : Type 0) → X
not-empty [] one later e X = absurd (cc e)
not-empty (b ∷ before) one later e X = absurd (cc e)

pub split-push : (findings : List Finding) (last : Finding) (before : List Finding) (one : Finding) (later : List Finding)
    → findings ++ last ∷ [] ≡ before ++ one ∷ later → Split findings last before one
split-push [] last [] one later e = inl (refl, ap (head_or one) (sym e))
split-push [] last (b ∷ before) one later e = not-empty before one later (ap tail_of e) (Split [] last (b ∷ before) one)
split-push (f ∷ findings) last [] one later e = inr (findings, ap (λ x. x ∷ findings) (ap (head_or one) e))
split-push (f ∷ findings) last (b ∷ before) one later e =
    let head : f ≡ b = ap (head_or f) e in
    elim (split-push findings last before one later (ap tail_of e)) [
      | inl is ↦ inl (ap (λ fs. b ∷ fs) is.0 ∙ ap (λ x. x ∷ findings) (sym head), is.1)
      | inr is ↦ inr (is.0, ap (λ x. x ∷ findings) head ∙ ap (λ fs. b ∷ fs) is.1)
    ]

-- among no records times go back nowhere
pub never_back : NeverGoesBack []
never_back before one later latest splits is = not-empty before one later splits (latest ≤ one.time + tolerated)

-- times still go back nowhere, where one record more is late enough
never-push : (findings : List Finding) (last : Finding) → NeverGoesBack findings
    → ((latest : ℕ) → IsLatest (map (λ f. f.time) findings) (Some latest) → latest ≤ last.time + tolerated)
    → NeverGoesBack (findings ++ last ∷ [])
never-push findings last never late = λ before one later latest splits is.
    elim (split-push findings last before one later splits) [
      | inl same ↦
          subst (λ (x : Finding). latest ≤ x.time + tolerated) (sym same.1)
          (late latest (subst (λ (fs : List Finding). IsLatest (map (λ f. f.time) fs) (Some latest)) same.0 is))
      | inr among ↦ never before one among.0 latest among.1 is
    ]

-- behind no record nothing is late
pub none-late : (times : List ℕ) (n : ℕ) → times ≡ [] → (latest : ℕ) → IsLatest times (Some latest) → latest ≤ n
none-late [] n empty latest is = absurd (omega (arith, is.0.1))
none-late (t ∷ times) n empty latest is = absurd (cc empty)

back-none : (findings : List Finding) (one : Finding) (last : Option ℕ) → NeverGoesBack findings
    → IsLatest (map (λ f. f.time) findings) last
    → TellsBack (findings ++ one ∷ [])
    (back_behind last one.time (counted (length findings)) (option_map counted (known_sum (map (λ f. f.octets) findings))))
back-none findings one None never is =
    never-push findings one never (none-late (map (λ f. f.time) findings) (one.time + tolerated) is)
back-none findings one (Some last) never is =
    elim (cases_Bool (nat_lt (one.time + tolerated) last)) [
      | inl far ↦
          rw far (record {
            before = findings;
            one = one;
            later = [];
            latest = last;
            splits = refl;
            last = is;
            far = ltb-true (one.time + tolerated) last far;
            seconds = omega (arith, ltb-true (one.time + tolerated) last far);
            records = refl;
            octet = refl;
          })
      | inr near ↦
          rw near (never-push findings one never (λ latest its.
          let most : latest ≤ last = All-contains (λ x. x ≤ last) (map (λ f. f.time) findings) latest is.1 its.0 in
          omega (arith, most, ltb-false (one.time + tolerated) last near)))
    ]

-- where times go back they still do
goes-push : (findings : List Finding) (one : Finding) (back : Back) → GoesBack findings back → GoesBack (findings ++ one ∷ []) back
goes-push findings one back goes = record {
  before = goes.before;
  one = goes.one;
  later = goes.later ++ one ∷ [];
  latest = goes.latest;
  splits = ap (λ fs. fs ++ one ∷ []) goes.splits ∙ append_assoc goes.before (goes.one ∷ goes.later) (one ∷ []);
  last = goes.last;
  far = goes.far;
  seconds = goes.seconds;
  records = goes.records;
  octet = goes.octet;
}

-- the answer about where times go back, after one more record
pub back-push : (findings : List Finding) (one : Finding) (back : Option Back) (last : Option ℕ) → TellsBack findings back
    → IsLatest (map (λ f. f.time) findings) last
    → TellsBack (findings ++ one ∷ []) (first_back back
    (back_behind last one.time (counted (length findings)) (option_map counted (known_sum (map (λ f. f.octets) findings)))))
back-push findings one None last never is = back-none findings one last never is
back-push findings one (Some back) last goes is = goes-push findings one back goes
