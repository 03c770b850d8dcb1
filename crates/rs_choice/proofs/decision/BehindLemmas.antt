-- Candidates that do not matter to the choice: one that the first three steps remove, and one that another of its
-- neighbour AS outdoes. A route that is no candidate doesn't matter either. For `those_behind_are_no_matter` of
-- laws.rt, ContenderLemmas and StayLemmas.
use Rattle.std.proofs.Common.{◌≡◌, ◌∙◌, sym, ap, refl, arith, ℕ, ◌<◌, Bool, true, false, cond, not, ◌⊎◌, inl, inr, List, [], ◌∷◌, ◌++◌}
use Rattle.std.proofs.Common.{subst, Option}
use Rattle.std.specs.Prelude.{◌==◌, nat_lt, filter, ◌||◌, ◌&&◌}
use Rattle.std.specs.Bool.{Decides}
use Rattle.std.specs.List.{list_any}
use Rattle.std.specs.Option.{option_map}
use Rattle.std.proofs.lemmas.Bool.{cases_Bool}
use Rattle.std.proofs.lemmas.Bool.Decides.{not_from_Decides, Decides-and, Decides-eqb, Decides-like, Decides-ltb, Decides-or}
use Rattle.std.proofs.lemmas.List.Elements.{filter-append}
use Rattle.rs_choice.specs.declared.candidate.Standing.{Standing}
use Rattle.rs_choice.specs.declared.step.Step.TheVariants as steps
use Rattle.rs_choice.specs.Clients.{is_sent_to, chosen_for, peer_or_own}
use Rattle.rs_choice.specs.Comparison.{HasLowerMed, HasSameMed, IsAhead, IsAheadByMed, IsLevel, Outdoes, OutdoesByMed, Precedes}
use Rattle.rs_choice.specs.Decision.{SentRoute, beats, remaining, choice, standing_of}
use Rattle.rs_types.specs.Spelling.{origin_code}
use Rattle.rs_choice.specs.Eligibility.{is_eligible}
use Rattle.rs_choice.specs.Laws.{RemovedIsNoMatter, BehindIsNoMatter, OthersAreNoMatter, OutdoneIsNoMatter}
use Rattle.rs_choice.proofs.Members.{Mem, any_found, contains-mem, list_any-none, mem-append_right, mem-contains, mem_of-filter, mem_widen}
use Rattle.rs_choice.proofs.Eliminations.{Same, Unbeaten, Left, By, same3, beats_tells, follows_level, is_false}
use Rattle.rs_choice.proofs.decision.LawLemmas.{some_choice}
use Rattle.rs_choice.proofs.decision.ScanLemmas.{not_ahead_of_itself}
use Rattle.rs_choice.proofs.decision.ShareLemmas.{reaching_med, choice_stays}

-- ---- tests of what outdoes what

-- a test that answers whether something holds
abbrev Test : Type 0 → Type 0
Test P = (answer : Bool) × Decides answer P

either : {P Q : Type 0} → Test P → Test Q → Test (P ⊎ Q)
either p q = (p.0 || q.0, Decides-or p.0 q.0 p.1 q.1)

both : {P Q : Type 0} → Test P → Test Q → Test (P × Q)
both p q = (p.0 && q.0, Decides-and p.0 q.0 p.1 q.1)

below : (a b : ℕ) → Test (a < b)
below a b = (nat_lt a b, Decides-ltb a b)

equal : (a b : ℕ) → Test (a ≡ b)
equal a b = (a == b, Decides-eqb a b)

pub is_ahead : (one other : Standing) → Test (IsAhead one other)
is_ahead one other =
    either (either (below other.preference one.preference)
    (both (equal one.preference other.preference) (below one.path_length other.path_length)))
    (both (both (equal one.preference other.preference) (equal one.path_length other.path_length))
    (below (origin_code one.origin) (origin_code other.origin)))

precedes : (one other : Standing) → Test (Precedes one other)
precedes one other = either (below one.id other.id) (both (equal one.id other.id) (below one.address other.address))

outdoes_by_med : (one other : Standing) → Test (OutdoesByMed one other)
outdoes_by_med one other =
    either (both (equal one.neighbour other.neighbour) (below one.med other.med))
    (both (both (equal one.neighbour other.neighbour) (equal one.med other.med)) (precedes one other))

is_level : (one other : Standing) → Test (IsLevel one other)
is_level one other =
    let parts = both (equal one.preference other.preference)
    (both (equal one.path_length other.path_length) (equal (origin_code one.origin) (origin_code other.origin))) in
    (parts.0, Decides-like parts.0 (λ h. (h.0, h.1.0, h.1.1)) (λ h. (h.0, (h.1, h.2))) parts.1)

outdoes : (one other : Standing) → Test (Outdoes one other)
outdoes one other = either (is_ahead one other) (both (is_level one other) (outdoes_by_med one other))

does_not_outdo_itself : (one : Standing) → Outdoes one one → ⊥
does_not_outdo_itself one (inl ahead) = not_ahead_of_itself one ahead
does_not_outdo_itself one (inr (level, inl lower)) = absurd (omega (arith, lower.1))
does_not_outdo_itself one (inr (level, inr (med, inl id))) = absurd (omega (arith, id))
does_not_outdo_itself one (inr (level, inr (med, inr address))) = absurd (omega (arith, address.1))

-- what goes before one by the first four steps goes before each of its neighbour AS that is level with it and has no lower MED
ahead_by_med_of_level : (w one other : Standing) → IsLevel one other → HasSameMed one other → IsAheadByMed w one → IsAheadByMed w other
ahead_by_med_of_level w one other level med (inl ahead) = inl (follows_level w one other level ahead)
ahead_by_med_of_level w one other level med (inr (w_level, lower)) =
    inr ((w_level.0 ∙ level.0, w_level.1 ∙ level.1, w_level.2 ∙ level.2), (lower.0 ∙ med.0, omega (arith, lower.1, med.1)))

-- ---- a list with one member more

mem_more : {M : Type 0} (before after : List M) (one x : M) → Mem (before ++ after) x → Mem (before ++ one ∷ after) x
mem_more before after one x = mem_widen before after (one ∷ after) x inr

mem_fewer : {M : Type 0} (before after : List M) (one x : M) → Mem (before ++ one ∷ after) x → (one ≡ x) ⊎ Mem (before ++ after) x
mem_fewer [] after one x h = h
mem_fewer (y ∷ ys) after one x (inl same) = inr (inl same)
mem_fewer (y ∷ ys) after one x (inr h) = elim (mem_fewer ys after one x h) [ inl same ↦ inl same | inr member ↦ inr (inr member) ]

pub filter_with : {M : Type 0} (p : M → Bool) (before after : List M) (one : M) → p one ≡ true →
    filter p (before ++ one ∷ after) ≡ filter p before ++ one ∷ filter p after
filter_with p before after one passes =
    filter-append p before (one ∷ after) ∙ ap (λ b. filter p before ++ cond b (one ∷ filter p after) (filter p after)) passes

pub filter_without : {M : Type 0} (p : M → Bool) (before after : List M) (one : M) → p one ≡ false →
    filter p (before ++ one ∷ after) ≡ filter p (before ++ after)
filter_without p before after one fails =
    filter-append p before (one ∷ after) ∙ ap (λ b. filter p before ++ cond b (one ∷ filter p after) (filter p after)) fails
    ∙ sym (filter-append p before after)

-- ---- the choice without those that a member outdoes

module _ {M : Type 0} (standing : M → Standing) where
  abbrev is_kept : M → M → Bool
  is_kept other x = not (outdoes (standing other) (standing x)).0

  kept : (other x : M) → (Outdoes (standing other) (standing x) → ⊥) → is_kept other x ≡ true
  kept other x h = let test = outdoes (standing other) (standing x) in ap not (is_false test.0 (λ outdone. h (test.1.0 outdone)))

  reaching : (set : List M) → Same (Mem (reaching_med standing set)) (Unbeaten (By standing IsAhead) (Mem set))
  unfolding remaining
  reaching set = same3 standing set

  -- who is chosen isn't outdone
  chosen_is_kept : (set : List M) (other chosen : M) → Mem set other → Left standing (Mem set) chosen
      → Outdoes (standing other) (standing chosen) → ⊥
  chosen_is_kept set other chosen member left (inl ahead) = left.member.best other member (inl ahead)
  chosen_is_kept set other chosen member left (inr (level, inl lower)) = left.member.best other member (inr (level, lower))
  chosen_is_kept set other chosen member left (inr (level, inr (med, before))) =
      left.best other
      (record {
        member = member;
        best = λ w k ahead. left.member.best w k (ahead_by_med_of_level (standing w) (standing other) (standing chosen) level med ahead);
      })
      before

  -- whom one that is outdone removes by MED, the other one removes too
  removed_too : (set : List M) (other third one : M) → Mem set other → Mem (reaching_med standing set) third
      → Outdoes (standing other) (standing third) →
      HasLowerMed (standing third) (standing one) → Mem (reaching_med standing set) other × HasLowerMed (standing other) (standing one)
  removed_too set other third one member reached (inl ahead) lower = absurd (((reaching set).to third reached).best other member ahead)
  removed_too set other third one member reached (inr (level, by_med)) lower = (
    (reaching set).from other (record {
      member = member;
      best = λ w k ahead. ((reaching set).to third reached).best w k
          (follows_level (standing w) (standing other) (standing third) level ahead);
    }),
    elim by_med [
      | inl less ↦ (less.0 ∙ lower.0, omega (arith, less.1, lower.1))
      | inr same ↦ (same.0.0 ∙ lower.0, omega (arith, same.0.1, lower.1))
    ],
  )

  without_outdone : (set : List M) (other : M) → Mem set other → choice standing (filter (is_kept other) set) ≡ choice standing set
  without_outdone set other member =
      let found = some_choice standing set other member in
      choice_stays standing set (is_kept other) found.0 found.1
      (kept other found.0 (chosen_is_kept set other found.0 member found.2))
      (λ one third one_member stays third_member beaten. by_kept one third
      (outdoes (standing other) (standing third)).0 refl third_member beaten)
      ∙ sym found.1
    where
      by_kept : (one third : M) (b : Bool) → (outdoes (standing other) (standing third)).0 ≡ b → Mem (reaching_med standing set) third →
          beats steps.Med (standing third) (standing one) ≡ true →
          (x : M) × Mem (reaching_med standing set) x × (is_kept other x ≡ true) × (beats steps.Med (standing x) (standing one) ≡ true)
      by_kept one third false e reached beaten = (third, reached, ap not e, beaten)
      by_kept one third true e reached beaten =
          let also = removed_too set other third one member reached ((outdoes (standing other) (standing third)).1.0 e)
          ((beats_tells steps.Med (standing third) (standing one)).0 beaten) in (
            other,
            also.0,
            kept other other (does_not_outdo_itself (standing other)),
            (beats_tells steps.Med (standing other) (standing one)).1 also.1,
          )

  pub outdone : (before after : List M) (one other : M) → Mem (before ++ after) other → Outdoes (standing other) (standing one) →
      choice standing (before ++ one ∷ after) ≡ choice standing (before ++ after)
  outdone before after one other member behind =
      sym (without_outdone (before ++ one ∷ after) other (mem_more before after one other member))
      ∙ ap (choice standing) (filter_without (is_kept other) before after one
      (ap not ((outdoes (standing other) (standing one)).1.1 behind)))
      ∙ without_outdone (before ++ after) other member

  pub behind : (before after : List M) (one other : M) → Mem (before ++ after) other → IsAhead (standing other) (standing one) →
      choice standing (before ++ one ∷ after) ≡ choice standing (before ++ after)
  behind before after one other member ahead = outdone before after one other member (inl ahead)

  pub removed : (before after : List M) (one : M) → (Mem (reaching_med standing (before ++ one ∷ after)) one → ⊥) →
      choice standing (before ++ one ∷ after) ≡ choice standing (before ++ after)
  removed before after one gone =
      let set = before ++ one ∷ after in
      let is_ahead_of = λ (w : M). (is_ahead (standing w) (standing one)).0 in
      elim (cases_Bool (list_any is_ahead_of set)) [
        | inl some ↦
            let found = any_found is_ahead_of set some in
            let ahead = (is_ahead (standing found.0) (standing one)).1.0 found.2 in
            elim (mem_fewer before after one found.0 found.1) [
              | inl same ↦ absurd (not_ahead_of_itself (standing one) (rw (← same) at ahead))
              | inr member ↦ behind before after one found.0 member ahead
            ]
        | inr none ↦
            absurd (gone ((reaching set).from one (record {
              member = mem-append_right before (one ∷ after) one (inl refl);
              best = λ w member.
                  let test = is_ahead (standing w) (standing one) in
                  not_from_Decides test.0 test.1 (list_any-none is_ahead_of set w none member);
            })))
      ]

pub behind_is_no_matter : BehindIsNoMatter
behind_is_no_matter plan before after one other among ahead =
    behind (standing_of plan) before after one other (contains-mem (before ++ after) other among) ahead

pub outdone_is_no_matter : OutdoneIsNoMatter
outdone_is_no_matter plan before after one other among outdoes =
    outdone (standing_of plan) before after one other (contains-mem (before ++ after) other among) outdoes

pub removed_is_no_matter : RemovedIsNoMatter
removed_is_no_matter plan before after one gone =
    removed (standing_of plan) before after one
    (λ member. gone (mem-contains (reaching_med (standing_of plan) (before ++ one ∷ after)) one member))

-- ---- for a client

-- one that either test leaves out may go
pub no_candidate : {M : Type 0} (p q : M → Bool) (before after : List M) (one : M) → (p one ≡ false) ⊎ (q one ≡ false) →
    filter q (filter p (before ++ one ∷ after)) ≡ filter q (filter p (before ++ after))
no_candidate p q before after one (inl fails) = ap (filter q) (filter_without p before after one fails)
no_candidate p q before after one (inr fails) = elim (cases_Bool (p one)) [
  | inl passes ↦
      ap (filter q) (filter_with p before after one passes)
      ∙ filter_without q (filter p before) (filter p after) one fails
      ∙ ap (filter q) (sym (filter-append p before after))
  | inr also ↦ ap (filter q) (filter_without p before after one also)
]

pub candidates_with : {M : Type 0} (p q : M → Bool) (before after : List M) (one : M) → p one ≡ true → q one ≡ true →
    filter q (filter p (before ++ one ∷ after)) ≡ filter q (filter p before) ++ one ∷ filter q (filter p after)
candidates_with p q before after one eligible permitted =
    ap (filter q) (filter_with p before after one eligible) ∙ filter_with q (filter p before) (filter p after) one permitted

candidates_apart : {M : Type 0} (p q : M → Bool) (before after : List M) →
    filter q (filter p (before ++ after)) ≡ filter q (filter p before) ++ filter q (filter p after)
candidates_apart p q before after = ap (filter q) (filter-append p before after) ∙ filter-append q (filter p before) (filter p after)

-- one that another candidate outdoes may go
outdone_candidate : {M : Type 0} (standing : M → Standing) (p q : M → Bool) (before after : List M) (one other : M) →
    Mem (before ++ after) other → p other ≡ true → q other ≡ true → Outdoes (standing other) (standing one) →
    choice standing (filter q (filter p (before ++ one ∷ after))) ≡ choice standing (filter q (filter p (before ++ after)))
outdone_candidate standing p q before after one other among eligible permitted outdoes = elim (cases_Bool (p one)) [
  | inr fails ↦ ap (choice standing) (no_candidate p q before after one (inl fails))
  | inl one_eligible ↦ elim (cases_Bool (q one)) [
    | inr fails ↦ ap (choice standing) (no_candidate p q before after one (inr fails))
    | inl one_permitted ↦
        let candidate =
        mem_of-filter q (filter p (before ++ after)) other permitted (mem_of-filter p (before ++ after) other eligible among) in
        let apart = candidates_apart p q before after in
        ap (choice standing) (candidates_with p q before after one one_eligible one_permitted)
        ∙ outdone standing (filter q (filter p before)) (filter q (filter p after)) one other
        (subst (λ list. Mem list other) apart candidate) outdoes
        ∙ ap (choice standing) (sym apart)
  ]
]

pub others_are_no_matter : OthersAreNoMatter
others_are_no_matter plan client before after one nothing =
    let p = λ (sent : SentRoute). is_eligible plan sent.peer sent.attributes in
    let q = is_sent_to plan client in
    let same : chosen_for plan client (before ++ one ∷ after) ≡ chosen_for plan client (before ++ after) = elim nothing [
      | inl ineligible ↦ ap (choice (standing_of plan)) (no_candidate p q before after one (inl ineligible))
      | inr (inl refused) ↦ ap (choice (standing_of plan)) (no_candidate p q before after one (inr refused))
      | inr (inr found) ↦
          outdone_candidate (standing_of plan) p q before after one found.0 (contains-mem (before ++ after) found.0 found.1)
          found.2 found.3 found.4
    ] in
    ap (λ (found : Option SentRoute). peer_or_own (option_map (λ (sent : SentRoute). sent.peer) found) client) same
