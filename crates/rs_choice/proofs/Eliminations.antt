-- What eliminations leave, by members: two in a row are one by both.
-- For the lemmas of choices, clients and groups, and those of rs_explain.
use Rattle.std.proofs.Common.{◌≡◌, ap, refl, arith, Bool, true, false, not, inl, inr, List, [], ◌∷◌, ◌++◌, Some}
use Rattle.std.specs.Prelude.{◌==◌, nat_lt}
use Rattle.std.specs.Bool.{Decides}
use Rattle.std.specs.List.{list_any}
use Rattle.std.proofs.lemmas.Bool.{not-true}
use Rattle.std.proofs.lemmas.Bool.Decides.{not_from_Decides, Decides-and, Decides-eqb, Decides-ltb}
use Rattle.rs_choice.specs.declared.candidate.Standing.{Standing}
use Rattle.rs_choice.specs.declared.step.Step.{Step}
use Rattle.rs_choice.specs.declared.step.Step.TheVariants as steps
use Rattle.rs_types.specs.Spelling.{origin_code}
use Rattle.rs_choice.specs.Decision.{beats, decision_steps, unbeaten, remaining, first_member, choice}
use Rattle.rs_choice.specs.Comparison.{FirstOrSecond, IsPreferred, IsAsPreferred, IsShorter, IsPreferredOrShorter, IsAsLong, HasLowerOrigin}
use Rattle.rs_choice.specs.Comparison.{IsAhead, IsLevel, HasLowerMed, IsAheadByMed, HasLowerId, HasSameId, HasLowerAddress, Precedes}
use Rattle.rs_choice.proofs.Members.{Mem, mem-filter, mem_of-filter, list_any-none, none-list_any}

-- x is in a set, and no member of the set beats it
pub record Unbeaten {M : Type 0} (Beats : M → M → Type 0) (In : M → Type 0) (x : M) : Type 0 where
  pub member : In x
  pub best : (w : M) → In w → Beats w x → ⊥

-- two sets have the same members
pub record Same {M : Type 0} (In Other : M → Type 0) : Type 0 where
  pub to : (x : M) → In x → Other x
  pub from : (x : M) → Other x → In x

pub same_then : {M : Type 0} (In Middle Other : M → Type 0) → Same In Middle → Same Middle Other → Same In Other
same_then In Middle Other a b = record { to = λ x h. b.to x (a.to x h); from = λ x h. a.from x (b.from x h) }

-- eliminations by one relation leave the same of the same sets
pub same_unbeaten : {M : Type 0} (Beats : M → M → Type 0) (In Other : M → Type 0) → Same In Other
    → Same (Unbeaten Beats In) (Unbeaten Beats Other)
same_unbeaten Beats In Other same = record {
  to = λ x left. record { member = same.to x left.member; best = λ w h. left.best w (same.from w h) };
  from = λ x left. record { member = same.from x left.member; best = λ w h. left.best w (same.to w h) };
}

-- one elimination after another removes what either removes, the second among equals by the first
pub same_both : {M : Type 0} (First Equal Second : M → M → Type 0) (In : M → Type 0)
    (equal : (w x : M) → (First w x → ⊥) → (First x w → ⊥) → Equal w x)
    (follows : (u w x : M) → Equal w x → First u w → First u x) →
    Same (Unbeaten Second (Unbeaten First In)) (Unbeaten (FirstOrSecond First Equal Second) In)
same_both First Equal Second In equal follows = record {
  to = λ x left. record {
    member = left.member.member;
    best = λ w h beaten. elim beaten [
      | inl first ↦ left.member.best w h first
      | inr second ↦ left.best w (record { member = h; best = λ u k first. left.member.best u k (follows u w x second.0 first) }) second.1
    ];
  };
  from = λ x left. record {
    member = record { member = left.member; best = λ w h first. left.best w h (inl first) };
    best = λ w h second.
        left.best w h.member (inr (equal w x (λ first. left.best w h.member (inl first)) (λ first. h.best x left.member first), second));
  };
}

-- one relation of standings, at members
abbrev pub By : {M : Type 0} → (M → Standing) → (Standing → Standing → Type 0) → M → M → Type 0
By standing Beats w x = Beats (standing w) (standing x)

pub is_false : (b : Bool) → (b ≡ true → ⊥) → b ≡ false
is_false true h = absurd (h refl)
is_false false h = refl

-- what a step compares
abbrev pub BeatsAt : Step → Standing → Standing → Type 0
BeatsAt steps.Preference = IsPreferred
BeatsAt steps.PathLength = IsShorter
BeatsAt steps.Origin = HasLowerOrigin
BeatsAt steps.Med = HasLowerMed
BeatsAt steps.Identifier = HasLowerId
BeatsAt steps.Address = HasLowerAddress

pub beats_tells : (step : Step) (one other : Standing) → Decides (beats step one other) (BeatsAt step one other)
beats_tells steps.Preference one other = Decides-ltb other.preference one.preference
beats_tells steps.PathLength one other = Decides-ltb one.path_length other.path_length
beats_tells steps.Origin one other = Decides-ltb (origin_code one.origin) (origin_code other.origin)
beats_tells steps.Med one other =
    Decides-and (one.neighbour == other.neighbour) (nat_lt one.med other.med) (Decides-eqb one.neighbour other.neighbour)
    (Decides-ltb one.med other.med)
beats_tells steps.Identifier one other = Decides-ltb one.id other.id
beats_tells steps.Address one other = Decides-ltb one.address other.address

pub equal_level : (w x : Standing) → (IsAhead w x → ⊥) → (IsAhead x w → ⊥) → IsLevel w x
equal_level w x a b = grind arith

pub follows_level : (u w x : Standing) → IsLevel w x → IsAhead u w → IsAhead u x
follows_level u w x e h = grind arith

-- what all members are judged by up to MED, and then by identifier and address
abbrev pub LeftByMed : {M : Type 0} → (M → Standing) → (M → Type 0) → M → Type 0
LeftByMed standing In = Unbeaten (By standing IsAheadByMed) In

abbrev pub Left : {M : Type 0} → (M → Standing) → (M → Type 0) → M → Type 0
Left standing In = Unbeaten (By standing Precedes) (LeftByMed standing In)

module _ {M : Type 0} (standing : M → Standing) where
  -- the members that a step leaves are those of the set that none of it beats
  pub unbeaten_means : (step : Step) (set : List M) (x : M) → Mem (unbeaten standing step set) x →
      Mem set x × ((w : M) → Mem set w → beats step (standing w) (standing x) ≡ false)
  unfolding unbeaten
  unbeaten_means step set x h =
      let kept = mem-filter (λ one. not (list_any (λ other. beats step (standing other) (standing one)) set)) set x h in
      let none = not-true (list_any (λ other. beats step (standing other) (standing x)) set) kept.1 in
      (kept.0, λ w k. list_any-none (λ other. beats step (standing other) (standing x)) set w none k)

  pub means_unbeaten : (step : Step) (set : List M) (x : M) → Mem set x
      → list_any (λ other. beats step (standing other) (standing x)) set ≡ false →
      Mem (unbeaten standing step set) x
  unfolding unbeaten
  means_unbeaten step set x h none =
      mem_of-filter (λ one. not (list_any (λ other. beats step (standing other) (standing one)) set)) set x (ap not none) h

  pub same_step : (step : Step) (set : List M) → Same (Mem (unbeaten standing step set)) (Unbeaten (By standing (BeatsAt step)) (Mem set))
  same_step step set = record {
    to = λ x h.
        let left = unbeaten_means step set x h in
        record {
          member = left.0;
          best = λ w k. not_from_Decides (beats step (standing w) (standing x))
              (beats_tells step (standing w) (standing x)) (left.1 w k);
        };
    from = λ x left.
        means_unbeaten step set x left.member (none-list_any (λ other. beats step (standing other) (standing x)) set
        (λ w k. is_false (beats step (standing w) (standing x))
        (λ beaten. left.best w k ((beats_tells step (standing w) (standing x)).0 beaten))));
  }

  -- a step after others leaves what both leave
  step_after : (First Equal : Standing → Standing → Type 0) (step : Step) (set reached : List M) →
      Same (Mem reached) (Unbeaten (By standing First) (Mem set)) →
      ((w x : Standing) → (First w x → ⊥) → (First x w → ⊥) → Equal w x) → ((u w x : Standing) → Equal w x → First u w → First u x) →
      Same (Mem (unbeaten standing step reached)) (Unbeaten (By standing (FirstOrSecond First Equal (BeatsAt step))) (Mem set))
  step_after First Equal step set reached same equal follows =
      let Second = By standing (BeatsAt step) in
      let After = Unbeaten Second (Unbeaten (By standing First) (Mem set)) in
      same_then (Mem (unbeaten standing step reached)) After (Unbeaten (By standing (FirstOrSecond First Equal (BeatsAt step))) (Mem set))
      (same_then (Mem (unbeaten standing step reached)) (Unbeaten Second (Mem reached)) After
      (same_step step reached) (same_unbeaten Second (Mem reached) (Unbeaten (By standing First) (Mem set)) same))
      (same_both (By standing First) (By standing Equal) Second (Mem set)
      (λ w x. equal (standing w) (standing x)) (λ u w x. follows (standing u) (standing w) (standing x)))

  module _ (set : List M) where
    abbrev s1 : List M
    s1 = unbeaten standing steps.Preference set

    abbrev s2 : List M
    s2 = unbeaten standing steps.PathLength s1

    abbrev s3 : List M
    s3 = unbeaten standing steps.Origin s2

    abbrev s4 : List M
    s4 = unbeaten standing steps.Med s3

    abbrev s5 : List M
    s5 = unbeaten standing steps.Identifier s4

    abbrev s6 : List M
    s6 = unbeaten standing steps.Address s5

    same2 : Same (Mem s2) (Unbeaten (By standing IsPreferredOrShorter) (Mem set))
    same2 = step_after IsPreferred IsAsPreferred steps.PathLength set s1 (same_step steps.Preference set) (λ w x a b. omega arith)
        (λ u w x e h. omega arith)

    pub same3 : Same (Mem s3) (Unbeaten (By standing IsAhead) (Mem set))
    same3 = step_after IsPreferredOrShorter IsAsLong steps.Origin set s2 same2 (λ w x a b. grind arith) (λ u w x e h. grind arith)

    same4 : Same (Mem s4) (LeftByMed standing (Mem set))
    same4 = step_after IsAhead IsLevel steps.Med set s3 same3 equal_level follows_level

    same6 : Same (Mem s6) (Left standing (Mem set))
    same6 =
        same_then (Mem s6) (Unbeaten (By standing Precedes) (Mem s4)) (Left standing (Mem set))
        (step_after HasLowerId HasSameId steps.Address s4 s5 (same_step steps.Identifier s4) (λ w x a b. omega arith)
        (λ u w x e h. omega arith))
        (same_unbeaten (By standing Precedes) (Mem s4) (LeftByMed standing (Mem set)) same4)

-- later steps only remove
pub remaining_among : {M : Type 0} (standing : M → Standing) (steps : List Step) (set : List M) (x : M)
    → Mem (remaining standing steps set) x → Mem set x
unfolding remaining
remaining_among standing [] set x h = h
remaining_among standing (step ∷ later) set x h =
    (unbeaten_means standing step set x (remaining_among standing later (unbeaten standing step set) x h)).0

-- steps after others remove of what those leave
pub remaining-append : {M : Type 0} (standing : M → Standing) (before after : List Step) (set : List M) →
    remaining standing (before ++ after) set ≡ remaining standing after (remaining standing before set)
unfolding remaining
remaining-append standing [] after set = refl
remaining-append standing (step ∷ before) after set = remaining-append standing before after (unbeaten standing step set)

-- what all six steps leave
pub same_remaining : {M : Type 0} (standing : M → Standing) (set : List M)
    → Same (Mem (remaining standing decision_steps set)) (Left standing (Mem set))
unfolding remaining
same_remaining standing set = same6 standing set

pub first-mem : {M : Type 0} (xs : List M) (first : M) → first_member xs ≡ Some first → Mem xs first
first-mem [] first is = absurd (cc (is))
first-mem (x ∷ xs) first is = inl (cc (is))

-- who is chosen is left by all steps
pub choice_left : {M : Type 0} (standing : M → Standing) (set : List M) (chosen : M) → choice standing set ≡ Some chosen →
    Mem (remaining standing decision_steps set) chosen
unfolding choice
choice_left standing set chosen e = first-mem (remaining standing decision_steps set) chosen e

-- two members that all steps leave are from one address
pub one_address : {M : Type 0} (standing : M → Standing) (set : List M) (one other : M) → Left standing (Mem set) one
    → Left standing (Mem set) other →
    (standing one).address ≡ (standing other).address
one_address standing set one other left_one left_other =
    neither_first (standing one) (standing other) (left_other.best one left_one.member) (left_one.best other left_other.member)
  where
    neither_first : (a b : Standing) → (Precedes a b → ⊥) → (Precedes b a → ⊥) → a.address ≡ b.address
    neither_first a b h k = grind arith
