-- The round times of an axis follow each other, a step apart.
use Rattle.std.proofs.Common.{◌≡◌, ℕ, zero, suc, ◌+◌, ◌-◌, ◌*◌, ◌<◌, ◌≤◌, ◌%◌, ◌∙◌, Bool, List, [], ◌∷◌, ◌++◌, filter, cond, min}
use Rattle.std.proofs.Common.{refl, ap, sym, arith, add-mul, mod-eq_of_lt, mul-le-mul_right, one-mul, zero-mul}
use Rattle.std.specs.Prelude.{◌==◌}
use Rattle.std.proofs.Math.Nat.{add-mul-mod_self_right, mod-add-mod}
use Rattle.std.specs.List.{range_with_len}
use Rattle.std.proofs.lemmas.Bool.{eq-eqb, ne_eqb}
use Rattle.std.proofs.lemmas.List.Elements.{filter-append}
use Rattle.rs_picture.specs.Marks.{round_times}
use Rattle.rs_picture.specs.Ticks.{IsFirstTick, most_ticks}

times_split : (from first second : ℕ)
    → range_with_len from (first + second) ≡ range_with_len from first ++ range_with_len (from + first) second
times_split from zero second =
    let sum : 0 + second ≡ second = omega arith in
    let at : from + 0 ≡ from = omega arith in
    rw (sum, at) refl
times_split from (suc first) second =
    let sum : suc first + second ≡ suc (first + second) = omega arith in
    let at : from + suc first ≡ from + 1 + first = omega arith in
    rw (sum, at) (ap (λ (times : List ℕ). from ∷ times) (times_split (from + 1) first second))

module _ (step : ℕ) where
  abbrev is_round : ℕ → Bool
  is_round time = time % step == 0

  -- two round times are no less than a step apart
  apart : (time later : ℕ) → time % step ≡ 0 → later % step ≡ 0 → time < later → later < time + step → ⊥
  apart time later round also behind near =
      let gap : later - time < step = omega (arith, behind, near) in
      let sum : time + (later - time) ≡ later = omega (arith, behind) in
      let none : later - time ≡ 0 + (later - time) = omega arith in
      let rest : later - time ≡ 0 =
      sym (mod-eq_of_lt gap) ∙ ap (λ (k : ℕ). k % step) none
      ∙ ap (λ (k : ℕ). (k + (later - time)) % step) (sym round) ∙ mod-add-mod time step (later - time)
      ∙ ap (λ (k : ℕ). k % step) sum ∙ also in
      omega (arith, behind, rest)

  none : (from count : ℕ) → ((time : ℕ) → from ≤ time → time < from + count → time % step ≡ 0 → ⊥)
      → filter is_round (range_with_len from count) ≡ []
  none from zero never = refl
  none from (suc count) never =
      ap (λ (b : Bool). cond b (from ∷ filter is_round (range_with_len (from + 1) count))
      (filter is_round (range_with_len (from + 1) count)))
      (ne_eqb (from % step) 0 (never from (omega arith) (omega arith)))
      ∙ none (from + 1) count (λ time low high. never time (omega (arith, low)) (omega (arith, high)))

  -- before the first one is none
  pub no_round : (first tick until : ℕ) → tick % step ≡ 0 → tick < first + step → until ≤ tick → round_times step first until ≡ []
  no_round first tick until round near short =
      none first (until - first) (λ time low high also.
      apart time tick also round (omega (arith, low, high, short)) (omega (arith, low, near)))

  -- one follows, and then none for a step
  pub next_round : (first time until : ℕ) → first ≤ time → time % step ≡ 0 → time < until → until ≤ time + step
      → round_times step first until ≡ round_times step first time ++ time ∷ []
  next_round first time until low round behind near =
      let count : until - first ≡ (time - first) + suc (until - (time + 1)) = omega (arith, low, behind) in
      let at : first + (time - first) ≡ time = omega (arith, low) in
      ap (λ (k : ℕ). filter is_round (range_with_len first k)) count
      ∙ ap (filter is_round) (times_split first (time - first) (suc (until - (time + 1))))
      ∙ filter-append is_round (range_with_len first (time - first))
      (range_with_len (first + (time - first)) (suc (until - (time + 1))))
      ∙ ap (λ (k : ℕ). round_times step first time ++ filter is_round (range_with_len k (suc (until - (time + 1))))) at
      ∙ ap (λ (times : List ℕ). round_times step first time ++ times) one
    where
      later : filter is_round (range_with_len (time + 1) (until - (time + 1))) ≡ []
      later =
          none (time + 1) (until - (time + 1)) (λ other after before also.
          apart time other round also (omega (arith, after)) (omega (arith, before, near, behind)))

      one : filter is_round (range_with_len time (suc (until - (time + 1)))) ≡ time ∷ []
      one =
          ap (λ (b : Bool). cond b (time ∷ filter is_round (range_with_len (time + 1) (until - (time + 1))))
          (filter is_round (range_with_len (time + 1) (until - (time + 1)))))
          (eq-eqb (time % step) 0 round)
          ∙ ap (λ (times : List ℕ). time ∷ times) later

-- ---- the round times of an axis, one by one from the first one on

module _ (step first tick last : ℕ) (is : IsFirstTick first step tick) where
  abbrev reach : ℕ → ℕ
  reach number = min (tick + number * step) (last + 1)

  -- so far: those before the one of a number, up to the end of the axis
  abbrev pub rounds : ℕ → List ℕ
  rounds number = round_times step first (reach number)

  pub no_rounds : rounds 0 ≡ []
  no_rounds =
      let none : 0 * step ≡ 0 = zero-mul step in
      no_round step first tick (reach 0) is.0 is.2 (omega (arith, none))

  more : (number : ℕ) → (number + 1) * step ≡ number * step + step
  more number = add-mul number 1 step ∙ ap (λ (k : ℕ). number * step + k) (one-mul step)

  pub one_round : (number : ℕ) → 0 < step → tick + number * step ≤ last
      → rounds (number + 1) ≡ rounds number ++ (tick + number * step) ∷ []
  one_round number some within =
      let time : ℕ = tick + number * step in
      let now : time ≡ reach number = omega (arith, within) in
      let round : (tick + number * step) % step ≡ 0 = add-mul-mod_self_right tick number step ∙ is.0 in
      next_round step first time (reach (number + 1)) (omega (arith, is.1)) round
      (omega (arith, within, some, more number)) (omega (arith, more number))
      ∙ ap (λ (until : ℕ). round_times step first until ++ time ∷ []) now

  pub same_rounds : (number : ℕ) → last < tick + number * step → rounds (number + 1) ≡ rounds number
  same_rounds number past =
      let same : reach (number + 1) ≡ reach number = omega (arith, past, more number) in
      ap (round_times step first) same

  pub all_rounds : (number : ℕ) → most_ticks ≤ number → last - first < most_ticks * step
      → rounds number ≡ round_times step first (last + 1)
  all_rounds number many few =
      let least : 8 * step ≤ number * step = mul-le-mul_right step many in
      let whole : reach number ≡ last + 1 = omega (arith, least, few, is.1) in
      ap (round_times step first) whole
