-- The sessions of a peer with one event more.
use Rattle.std.proofs.Common.{◌≡◌, ◌∙◌, ap, refl, ℕ, ◌-◌, Bool, true, false, cond, List, [], ◌∷◌, ◌++◌, length, append-nil, slice_get}
use Rattle.std.proofs.Common.{Option, Some, None, sub-one}
use Rattle.std.specs.List.{last_or}
use Rattle.std.specs.Option.{option_or}
use Rattle.rs_inventory.specs.declared.sessions.SessionTimes.{SessionTimes}
use Rattle.rs_inventory.specs.Sessions.{Event, Up, Shown, Down, came_up, coming_up, end_by, ended_at, is_ended, is_known, sessions_of}
use Rattle.rs_inventory.specs.Sessions.{was_up, with_end, with_shown}

-- the last of the sessions ends
pub with_end-last : (time : ℕ) (sessions : List SessionTimes) (last : SessionTimes)
    → with_end time (sessions ++ last ∷ []) ≡ sessions ++ ended_at time last ∷ []
with_end-last time [] last = refl
with_end-last time (s ∷ []) last = refl
with_end-last time (s ∷ next ∷ later) last = ap (λ (rest : List SessionTimes). s ∷ rest) (with_end-last time (next ∷ later) last)

-- the last of the sessions, or the one before them
last-get : (s : SessionTimes) (later : List SessionTimes) → last_or (Some s) later ≡ slice_get (s ∷ later) (length later)
last-get s [] = refl
last-get s (next ∷ later) = last-get next later

last-is : (s : SessionTimes) (later : List SessionTimes)
    → last_or (Some s) later ≡ slice_get (s ∷ later) (length (s ∷ later) - 1)
last-is s later = rw sub-one (last-get s later)

appended : (b : Bool) (sessions : List SessionTimes) (one : SessionTimes)
    → sessions ++ cond b (one ∷ []) [] ≡ cond b (sessions ++ one ∷ []) sessions
appended true sessions one = refl
appended false sessions one = append-nil sessions

module _ (time : ℕ) where
  -- ---- a session comes up

  end_by-up : (events : List Event) → end_by (events ++ Up time ∷ []) ≡ end_by events
  end_by-up [] = refl
  end_by-up (Up t ∷ later) = refl
  end_by-up (Shown t ∷ later) = end_by-up later
  end_by-up (Down t ∷ later) = refl

  coming_up-up : (lost : Bool) (events : List Event)
      → coming_up lost (events ++ Up time ∷ []) ≡ coming_up lost events ++ came_up false time None ∷ []
  coming_up-up lost [] = refl
  coming_up-up lost (Up t ∷ later) = rw (end_by-up later, coming_up-up false later) refl
  coming_up-up true (Shown t ∷ later) = rw (end_by-up later, coming_up-up false later) refl
  coming_up-up false (Shown t ∷ later) = coming_up-up false later
  coming_up-up lost (Down t ∷ later) = coming_up-up true later

  pub sessions_of-up : (events : List Event) → sessions_of (events ++ Up time ∷ []) ≡ sessions_of events ++ came_up false time None ∷ []
  sessions_of-up [] = refl
  sessions_of-up (Up t ∷ later) = coming_up-up false (Up t ∷ later)
  sessions_of-up (Shown t ∷ later) = sessions_of-up later
  sessions_of-up (Down t ∷ later) = ap (λ (rest : List SessionTimes). was_up t ∷ rest) (coming_up-up true later)

  -- ---- a session goes down

  -- the session before the events, where it ended at a time or has no end so far
  abbrev before : Option ℕ → Bool → Option ℕ → List Event → SessionTimes
  before up shown fixed events = record { up = up; down = option_or fixed (end_by events); shown = shown }

  -- that one, and those that come up among the events
  abbrev open_before : Option ℕ → Bool → Option ℕ → List Event → List SessionTimes
  open_before up shown fixed events = before up shown fixed events ∷ coming_up (is_known fixed) events

  open_before-down : (up : Option ℕ) (shown : Bool) (fixed : Option ℕ) (events : List Event)
      → open_before up shown fixed (events ++ Down time ∷ []) ≡ with_end time (open_before up shown fixed events)
  open_before-down up shown None [] = refl
  open_before-down up shown (Some t) [] = refl
  open_before-down up shown None (Up t ∷ later) =
      ap (λ (rest : List SessionTimes). record { up = up; down = None; shown = shown } ∷ rest) (open_before-down (Some t) false None later)
  open_before-down up shown (Some e) (Up t ∷ later) =
      ap (λ (rest : List SessionTimes). record { up = up; down = Some e; shown = shown } ∷ rest) (open_before-down (Some t) false None later)
  open_before-down up shown None (Shown t ∷ later) = open_before-down up shown None later
  open_before-down up shown (Some e) (Shown t ∷ later) =
      ap (λ (rest : List SessionTimes). record { up = up; down = Some e; shown = shown } ∷ rest) (open_before-down (Some t) true None later)
  open_before-down up shown None (Down t ∷ later) = open_before-down up shown (Some t) later
  open_before-down up shown (Some e) (Down t ∷ later) = open_before-down up shown (Some e) later

  pub sessions_of-down : (events : List Event) → sessions_of (events ++ Down time ∷ []) ≡ with_end time (sessions_of events)
  sessions_of-down [] = refl
  sessions_of-down (Up t ∷ later) = open_before-down (Some t) false None later
  sessions_of-down (Shown t ∷ later) = sessions_of-down later
  sessions_of-down (Down t ∷ later) = open_before-down None false (Some t) later

  -- ---- an UPDATE shows a session

  end_by-shown : (events : List Event) → end_by (events ++ Shown time ∷ []) ≡ end_by events
  end_by-shown [] = refl
  end_by-shown (Up t ∷ later) = refl
  end_by-shown (Shown t ∷ later) = end_by-shown later
  end_by-shown (Down t ∷ later) = refl

  -- what it adds behind a session and others
  abbrev added : SessionTimes → List SessionTimes → List SessionTimes
  added session later = later ++ cond (is_ended (last_or (Some session) later)) (came_up true time None ∷ []) []

  coming_up-shown : (up : Option ℕ) (shown : Bool) (fixed : Option ℕ) (events : List Event)
      → coming_up (is_known fixed) (events ++ Shown time ∷ []) ≡ added (before up shown fixed events) (coming_up (is_known fixed) events)
  coming_up-shown up shown None [] = refl
  coming_up-shown up shown (Some e) [] = refl
  coming_up-shown up shown None (Up t ∷ later) = rw (end_by-shown later, coming_up-shown (Some t) false None later) refl
  coming_up-shown up shown (Some e) (Up t ∷ later) = rw (end_by-shown later, coming_up-shown (Some t) false None later) refl
  coming_up-shown up shown None (Shown t ∷ later) = coming_up-shown up shown None later
  coming_up-shown up shown (Some e) (Shown t ∷ later) = rw (end_by-shown later, coming_up-shown (Some t) true None later) refl
  coming_up-shown up shown None (Down t ∷ later) = coming_up-shown up shown (Some t) later
  coming_up-shown up shown (Some e) (Down t ∷ later) = coming_up-shown up shown (Some e) later

  -- so the last session is asked
  added-is : (session : SessionTimes) (later : List SessionTimes) → session ∷ added session later ≡ with_shown time (session ∷ later)
  added-is session later =
      appended (is_ended (last_or (Some session) later)) (session ∷ later) (came_up true time None)
      ∙ ap (λ (last : Option SessionTimes). cond (is_ended last) (session ∷ later ++ came_up true time None ∷ []) (session ∷ later))
      (last-is session later)

  pub sessions_of-shown : (events : List Event) → sessions_of (events ++ Shown time ∷ []) ≡ with_shown time (sessions_of events)
  sessions_of-shown [] = refl
  sessions_of-shown (Up t ∷ later) =
      ap (λ (down : Option ℕ). came_up false t down ∷ coming_up false (later ++ Shown time ∷ [])) (end_by-shown later)
      ∙ ap (λ (rest : List SessionTimes). came_up false t (end_by later) ∷ rest) (coming_up-shown (Some t) false None later)
      ∙ added-is (came_up false t (end_by later)) (coming_up false later)
  sessions_of-shown (Shown t ∷ later) = sessions_of-shown later
  sessions_of-shown (Down t ∷ later) =
      ap (λ (rest : List SessionTimes). was_up t ∷ rest) (coming_up-shown None false (Some t) later)
      ∙ added-is (was_up t) (coming_up true later)
