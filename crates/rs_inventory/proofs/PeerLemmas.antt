-- What the records of a peer say with one record more.
use Rattle.std.proofs.Common.{◌≡◌, ◌∙◌, sym, ap, refl, ℕ, ◌+◌, Bool, true, false, cond, List, [], ◌∷◌, ◌++◌, Option, Some, None, arith, inl}
use Rattle.std.proofs.Common.{inr, append-nil, eqb-true, ◌-◌, length, slice_get, sub-one}
use Rattle.std.specs.List.{cons_option, filter_map, last_or, sum_by}
use Rattle.std.proofs.lemmas.Bool.{cases_Bool}
use Rattle.std.proofs.lemmas.List.Elements.{filter_map-append}
use Rattle.std.proofs.lemmas.List.Sums.{sum_by_push}
use Rattle.rs_inventory.specs.declared.finding.News.{News}
use Rattle.rs_inventory.specs.Peer.{Told, announced_by, changing, counted, event_at, identifier_in, is_faulty, is_message, is_same}
use Rattle.rs_inventory.specs.Peer.{is_state_change, peer_content, with_counts, with_course, with_event, with_identifier, with_next}
use Rattle.rs_inventory.specs.Peer.{with_session}
use Rattle.rs_inventory.specs.Peer.{withdrawn_by}
use Rattle.rs_inventory.specs.Sessions.{Event, Up, Shown, Down, sessions_of}
use Rattle.rs_inventory.proofs.CourseLemmas.{course-more}
use Rattle.rs_inventory.proofs.SessionLemmas.{sessions_of-up, sessions_of-shown, sessions_of-down}

-- a count that stopped stays so
pub counted-more : (n m : ℕ) → counted (n + m) ≡ counted (counted n + m)
counted-more n m = omega arith

sum-more : (f : Told → ℕ) (told : List Told) (one : Told)
    → counted (sum_by f (told ++ one ∷ [])) ≡ counted (counted (sum_by f told) + f one)
sum-more f told one = ap counted (sum_by_push f told one) ∙ counted-more (sum_by f told) (f one)

-- ---- numbers that differ from the one before

same : (before : Option ℕ) (n : ℕ) → is_same before n ≡ true → before ≡ Some n
same None n e = absurd (cc e)
same (Some m) n e = ap Some (eqb-true m n e)

changing-last : (before : Option ℕ) (numbers : List ℕ) → last_or before (changing before numbers) ≡ last_or before numbers
changing-last before [] = refl
changing-last before (n ∷ later) =
    elim (cases_Bool (is_same before n)) [
      | inl is ↦ rw is (ap (λ (b : Option ℕ). last_or b (changing (Some n) later)) (same before n is) ∙ changing-last (Some n) later)
      | inr isnt ↦ rw isnt (changing-last (Some n) later)
    ]

changing-push : (before : Option ℕ) (numbers : List ℕ) (n : ℕ)
    → changing before (numbers ++ n ∷ []) ≡ changing before numbers ++ cond (is_same (last_or before numbers) n) [] (n ∷ [])
changing-push before [] n = refl
changing-push before (m ∷ later) n =
    elim (cases_Bool (is_same before m)) [
      | inl is ↦ rw is (changing-push (Some m) later n)
      | inr isnt ↦ rw isnt (ap (λ (rest : List ℕ). m ∷ rest) (changing-push (Some m) later n))
    ]

appended : (b : Bool) (numbers : List ℕ) (n : ℕ) → numbers ++ cond b [] (n ∷ []) ≡ cond b numbers (numbers ++ n ∷ [])
appended true numbers n = append-nil numbers
appended false numbers n = refl

-- the last number
last-get : (n : ℕ) (later : List ℕ) → last_or (Some n) later ≡ slice_get (n ∷ later) (length later)
last-get n [] = refl
last-get n (m ∷ later) = last-get m later

last-is : (numbers : List ℕ) → last_or None numbers ≡ slice_get numbers (length numbers - 1)
last-is [] = refl
last-is (n ∷ later) = rw sub-one (last-get n later)

changing-more : (numbers : List ℕ) (one : Option ℕ) → changing None (numbers ++ cons_option one []) ≡ with_next (changing None numbers) one
changing-more numbers None = ap (changing None) (append-nil numbers)
changing-more numbers (Some n) =
    changing-push None numbers n
    ∙ appended (is_same (last_or None numbers) n) (changing None numbers) n
    ∙ ap (λ (l : Option ℕ). cond (is_same l n) (changing None numbers) (changing None numbers ++ n ∷ []))
    (sym (changing-last None numbers) ∙ last-is (changing None numbers))

-- ---- sessions

sessions-more : (events : List Event) (one : Option Event)
    → sessions_of (events ++ cons_option one []) ≡ with_event one (sessions_of events)
sessions-more events None = ap sessions_of (append-nil events)
sessions-more events (Some (Up time)) = sessions_of-up time events
sessions-more events (Some (Shown time)) = sessions_of-shown time events
sessions-more events (Some (Down time)) = sessions_of-down time events

-- ---- a peer

pub peer_content-more : (told : List Told) (time : ℕ) (one : News)
    → with_course time one (with_session time one (with_identifier one (with_counts one (peer_content told))))
    ≡ peer_content (told ++ (time, one) ∷ [])
unfolding peer_content
peer_content-more told time one =
    let messages = sum-more (λ t. cond (is_message t.1) 1 0) told (time, one) in
    let state_changes = sum-more (λ t. cond (is_state_change t.1) 1 0) told (time, one) in
    let faulty = sum-more (λ t. cond (is_faulty t.1) 1 0) told (time, one) in
    let announced = sum-more (λ t. announced_by t.1) told (time, one) in
    let withdrawn = sum-more (λ t. withdrawn_by t.1) told (time, one) in
    let identifiers =
    ap (changing None) (filter_map-append (λ t. identifier_in t.1) told ((time, one) ∷ []))
    ∙ changing-more (filter_map (λ t. identifier_in t.1) told) (identifier_in one) in
    let sessions = ap sessions_of (filter_map-append (λ t. event_at t.0 t.1) told ((time, one) ∷ []))
    ∙ sessions-more (filter_map (λ t. event_at t.0 t.1) told) (event_at time one) in
    rw (messages, state_changes, faulty, announced, withdrawn, identifiers, sessions, course-more told time one) refl
