-- Times without any record, with one record more.
use Rattle.std.proofs.Common.{◌≡◌, ◌≤◌, ◌<◌, ◌∙◌, sym, ap, refl, ℕ, ◌+◌, ◌-◌, nat_lt, Bool, true, false, List, [], ◌∷◌, ◌++◌, length, map}
use Rattle.std.proofs.Common.{Option, Some, None, option_map, max, arith, inl, inr, append_assoc, subst, ltb-false, ltb-true}
use Rattle.std.specs.Option.{option_or}
use Rattle.std.specs.Prelude.{reverse}
use Rattle.std.proofs.lemmas.Bool.{cases_Bool}
use Rattle.std.proofs.lemmas.List.{reverse-append, reverse-reverse}
use Rattle.std.proofs.lemmas.List.Elements.{All-contains}
use Rattle.rs_inventory.specs.Peer.{counted}
use Rattle.rs_inventory.specs.Silence.{IsNeverSilent, IsSilent, TellsSilence, Watches, is_kept_up, is_noted_up, keeper_by, keeper_of}
use Rattle.rs_inventory.specs.Silence.{last_keeper, silence_behind, silence_while, wait_of, watch_with}
use Rattle.rs_inventory.specs.Times.{IsLatest, known_sum}
use Rattle.rs_inventory.specs.declared.finding.Finding.{Finding}
use Rattle.rs_inventory.specs.declared.silence.Silence.{Silence}
use Rattle.rs_inventory.specs.declared.silence.Watch.{Watch}
use Rattle.rs_inventory.proofs.BackLemmas.{not-empty, split-push}

-- ---- how long there may be no record, and who keeps a session up

wait-push : (findings : List Finding) (one : Finding) → wait_of (findings ++ one ∷ []) ≡ max (wait_of findings) one.hold
wait-push [] one = omega arith
wait-push (f ∷ findings) one = ap (max f.hold) (wait-push findings one) ∙ omega arith

keeper-push : (findings : List Finding) (one : Finding)
    → keeper_of (findings ++ one ∷ [])
    ≡ option_or (keeper_by (is_noted_up (findings ++ one ∷ []) one.note) one) (keeper_of findings)
keeper-push findings one =
    let turned : reverse (findings ++ one ∷ []) ≡ one ∷ reverse findings = reverse-append findings (one ∷ []) in
    let back : reverse (one ∷ reverse findings) ≡ findings ++ one ∷ [] =
    ap reverse (sym turned) ∙ reverse-reverse (findings ++ one ∷ []) in
    ap last_keeper turned
    ∙ ap (λ (fs : List Finding). option_or (keeper_by (is_noted_up fs one.note) one) (last_keeper (reverse findings))) back

-- ---- silence

-- before no record there is none
pub never_silent : IsNeverSilent []
never_silent before one later latest splits kept is = not-empty before one later splits (one.time ≤ latest + wait_of before)

-- there is still none, where one record more comes soon enough
never-push : (findings : List Finding) (last : Finding) → IsNeverSilent findings
    → ((latest : ℕ) → is_kept_up findings ≡ true → IsLatest (map (λ f. f.time) findings) (Some latest)
    → last.time ≤ latest + wait_of findings)
    → IsNeverSilent (findings ++ last ∷ [])
never-push findings last never soon = λ before one later latest splits kept is.
    elim (split-push findings last before one later splits) [
      | inl same ↦
          subst (λ (fs : List Finding). one.time ≤ latest + wait_of fs) (sym same.0)
          (subst (λ (x : Finding). x.time ≤ latest + wait_of findings) (sym same.1)
          (soon latest (subst (λ (fs : List Finding). is_kept_up fs ≡ true) same.0 kept)
          (subst (λ (fs : List Finding). IsLatest (map (λ f. f.time) fs) (Some latest)) same.0 is)))
      | inr among ↦ never before one among.0 latest among.1 kept is
    ]

-- behind no record nothing is awaited
none-soon : (findings : List Finding) (time : ℕ) → IsLatest (map (λ f. f.time) findings) None → (latest : ℕ)
    → is_kept_up findings ≡ true → IsLatest (map (λ f. f.time) findings) (Some latest) → time ≤ latest + wait_of findings
none-soon [] time empty latest kept is = absurd (omega (arith, is.0.1))
none-soon (f ∷ findings) time empty latest kept is = absurd (cc empty)

module _ (findings : List Finding) (one : Finding) where
  abbrev octets : Option ℕ
  octets = option_map counted (known_sum (map (λ f. f.octets) findings))

  long-one : (kept : Bool) (last : ℕ) → kept ≡ is_kept_up findings → IsNeverSilent findings
      → IsLatest (map (λ f. f.time) findings) (Some last) → last + wait_of findings < one.time
      → TellsSilence (findings ++ one ∷ []) (silence_while kept (Some (record {
        from = last;
        seconds = one.time - last;
        records = counted (length findings);
        octet = octets;
      })))
  long-one true last same never is long = record {
    before = findings;
    one = one;
    later = [];
    splits = refl;
    kept = sym same;
    last = is;
    long = long;
    seconds = omega (arith, long);
    records = refl;
    octet = refl;
  }
  long-one false last same never is long = never-push findings one never (λ latest kept its. absurd (cc (same ∙ kept)))

  silence-one : (kept : Bool) (last : Option ℕ) → kept ≡ is_kept_up findings → IsNeverSilent findings
      → IsLatest (map (λ f. f.time) findings) last
      → TellsSilence (findings ++ one ∷ [])
      (silence_while kept (silence_behind last one.time (wait_of findings) (counted (length findings)) octets))
  silence-one kept None same never is = never-push findings one never (none-soon findings one.time is)
  silence-one kept (Some last) same never is =
      elim (cases_Bool (nat_lt (last + wait_of findings) one.time)) [
        | inl long ↦ rw long (long-one kept last same never is (ltb-true (last + wait_of findings) one.time long))
        | inr soon ↦
            rw soon (never-push findings one never (λ latest its_kept its.
            let least : last ≤ latest = All-contains (λ x. x ≤ latest) (map (λ f. f.time) findings) last its.1 is.0 in
            omega (arith, least, ltb-false (last + wait_of findings) one.time soon)))
      ]

  -- where there was one, it stays
  silent-push : (silence : Silence) → IsSilent findings silence → IsSilent (findings ++ one ∷ []) silence
  silent-push silence was = record {
    before = was.before;
    one = was.one;
    later = was.later ++ one ∷ [];
    splits = ap (λ fs. fs ++ one ∷ []) was.splits ∙ append_assoc was.before (was.one ∷ was.later) (one ∷ []);
    kept = was.kept;
    last = was.last;
    long = was.long;
    seconds = was.seconds;
    records = was.records;
    octet = was.octet;
  }

  silence-push : (kept : Bool) (first : Option Silence) (last : Option ℕ) → kept ≡ is_kept_up findings → TellsSilence findings first
      → IsLatest (map (λ f. f.time) findings) last
      → TellsSilence (findings ++ one ∷ []) (option_or first
      (silence_while kept (silence_behind last one.time (wait_of findings) (counted (length findings)) octets)))
  silence-push kept None last same never is = silence-one kept last same never is
  silence-push kept (Some silence) last same was is = silent-push silence was

  -- what records tell of times without any, with one more
  pub watch-push : (watch : Watch) (last : Option ℕ) (kept up : Bool) → Watches findings watch
      → IsLatest (map (λ f. f.time) findings) last → kept ≡ is_kept_up findings → up ≡ is_noted_up (findings ++ one ∷ []) one.note
      → Watches (findings ++ one ∷ []) (watch_with one up
      (silence_while kept (silence_behind last one.time watch.wait (counted (length findings)) octets)) watch)
  watch-push watch last kept up is latest same noted = record {
    wait = ap (λ n. max n one.hold) is.wait ∙ sym (wait-push findings one);
    keeper = ap (λ b. option_or (keeper_by b one) watch.keeper) noted
        ∙ ap (λ k. option_or (keeper_by (is_noted_up (findings ++ one ∷ []) one.note) one) k) is.keeper ∙ sym (keeper-push findings one);
    first = subst (λ (n : ℕ). TellsSilence (findings ++ one ∷ []) (option_or watch.first
        (silence_while kept (silence_behind last one.time n (counted (length findings)) octets)))) (sym is.wait)
        (silence-push kept watch.first last same is.first latest);
  }
