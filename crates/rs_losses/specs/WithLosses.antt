-- A source of records with the losses of a session put in, and its steps. Our choices: a loss is shown right before the
-- record that shows it. Records are shown as long as they take fewer than 2^50 octets in all.
use Rattle.std.specs.Prelude.{◌≡◌, ◌⊎◌, ℕ, zero, suc, ◌+◌, ◌-◌, ◌≤◌, nat_lt, Bool, true, false, if◌then◌else◌}
use Rattle.std.specs.Prelude.{List, [], ◌∷◌, Option, Some, None, Result, Ok, Err, refl}
use Rattle.std.specs.Option.{option_map}
use Rattle.rs_mrt.specs.declared.fault.SourceFault.{SourceFault}
use Rattle.rs_mrt.specs.declared.fault.SourceFault.TheVariants.{Read}
use Rattle.rs_mrt.specs.Record.{MrtRecord, octets_of}
use Rattle.rs_mrt.specs.RecordReading.{read_limit}
use Rattle.rs_mrt.specs.Source.{Advances, CountsFailure, SomethingComes, Stays, Stops}
use Rattle.rs_losses.specs.Losses.{before_record, behind_record, from_the_first, is_lost_before, loss_octets}
use Rattle.rs_losses.specs.Losses.{loss_record, lost, with_losses}
use Rattle.rs_losses.specs.declared.following.Followed.{Followed}
use Rattle.rs_mrt.specs.declared.losses.Losses.{Losses}
use Rattle.rs_mrt.specs.declared.losses.Losses.TheVariants as losses
use Rattle.rs_losses.specs.declared.losses.Sought.{Sought}

-- ---- the records

-- records, with a loss before each one that shows a loss
abbrev pub losses_along : Followed → List MrtRecord → List MrtRecord
losses_along f [] = []
losses_along f (r ∷ later) =
    if is_lost_before f r
    then loss_record f.who r ∷ r ∷ losses_along (behind_record (lost f) r) later
    else r ∷ losses_along (behind_record f r) later

-- at the limit the one value, and else the other
abbrev pub at_limit : {A : Type 0} → ℕ → A → A → A
at_limit zero limit below = limit
at_limit (suc left) limit below = below

-- the records that are shown, if all of them take fewer than so many octets
abbrev pub within : ℕ → List MrtRecord → List MrtRecord
within left [] = []
within left (r ∷ later) =
    if nat_lt (octets_of (Some r)) left then r ∷ within (left - octets_of (Some r)) later else []

-- the end behind them
abbrev pub end_within : ℕ → List MrtRecord → Option SourceFault → Option SourceFault
end_within left [] end = at_limit left (Some Read) end
end_within left (r ∷ later) end =
    if nat_lt (octets_of (Some r)) left then end_within (left - octets_of (Some r)) later end else Some Read

-- ---- a source with losses

-- A source with losses: the source, which losses are read, and the session behind the record that the source shows. A
-- loss before that record may be shown in its place. There is also the number of octets that are left to the limit.
pub record Inferring (S : Type 0) : Type 0 where
  pub source : S
  pub losses : Losses
  pub followed : Followed
  pub put_in : Bool
  pub left : ℕ

-- nothing was shown yet
abbrev pub unbegun : {S : Type 0} → S → Losses → Sought → Inferring S
unbegun source losses who =
    record { source = source; losses = losses; followed = from_the_first who; put_in = false; left = read_limit }

-- the loss before a record
abbrev pub loss_before : Sought → Option MrtRecord → Option MrtRecord
loss_before who shown = option_map (loss_record who) shown

-- the record that is shown, or the loss before it
abbrev pub loss_or : Bool → Sought → Option MrtRecord → Option MrtRecord
loss_or true who shown = loss_before who shown
loss_or false who shown = shown

-- the record behind a loss that is shown, and then the later ones
abbrev pub pending : Bool → Option MrtRecord → List MrtRecord → List MrtRecord
pending true (Some r) later = r ∷ later
pending true None later = later
pending false shown later = later

-- a last answer is repeated, but never that there is a record
abbrev pub repeated : Option (Result Bool SourceFault) → Option (Result Bool SourceFault)
repeated None = None
repeated (Some (Ok true)) = None
repeated (Some (Ok false)) = Some (Ok false)
repeated (Some (Err fault)) = Some (Err fault)

-- there is a record
abbrev pub IsThere : Option MrtRecord → Type 0
IsThere None = ⊥
IsThere (Some r) = Unit {0}

-- What is always true of a loss that is shown. Losses are inferred, and the source shows the record behind the loss. The
-- octets are those of the loss that this record tells of.
pub record HoldsLoss (by : Losses) (put_in : Bool) (shown : Option MrtRecord)
    (stopped : Option (Result Bool SourceFault)) (who : Sought) (octets : List ℕ) : Type 0 where
  pub same : put_in ≡ true → option_map (loss_octets who) shown ≡ Some octets
  pub inferred : put_in ≡ true → by ≡ losses.Inferred
  pub behind : put_in ≡ true → IsThere shown
  pub goes_on : put_in ≡ true → stopped ≡ None

-- ---- what is shown, and what may come

module _ {S : Type 0} where
  abbrev pub shown_of : (S → Option MrtRecord) → Inferring S → Option MrtRecord
  shown_of shows w = at_limit w.left None (loss_or w.put_in w.followed.who (shows w.source))

  abbrev pub shown_by : Losses → (S → Option MrtRecord) → Inferring S → Option MrtRecord
  shown_by losses.Recorded shows w = shows w.source
  shown_by losses.Inferred shows w = shown_of shows w

  abbrev pub stopped_of : (S → Option (Result Bool SourceFault)) → Inferring S → Option (Result Bool SourceFault)
  stopped_of stopped w = at_limit w.left (Some (Err Read)) (repeated (stopped w.source))

  abbrev pub stopped_by : Losses → (S → Option (Result Bool SourceFault)) → Inferring S
      → Option (Result Bool SourceFault)
  stopped_by losses.Recorded stopped w = stopped w.source
  stopped_by losses.Inferred stopped w = stopped_of stopped w

  -- the source takes no more octets, or the limit was met
  abbrev pub IsFull : (S → Type 0) → Inferring S → Type 0
  IsFull full w = full w.source ⊎ (w.left ≡ 0)

  abbrev pub IsFullBy : Losses → (S → Type 0) → Inferring S → Type 0
  IsFullBy losses.Recorded full w = full w.source
  IsFullBy losses.Inferred full w = IsFull full w

  abbrev pub room_by : Losses → (S → ℕ) → Inferring S → ℕ
  room_by losses.Recorded room w = room w.source
  room_by losses.Inferred room w = w.left

  -- These records may still come, and then this end: those of the source with the losses put in, up to the limit.
  pub record ComesInferred (shows : S → Option MrtRecord) (comes : S → List MrtRecord → Option SourceFault → Type 0)
      (w : Inferring S) (records : List MrtRecord) (end : Option SourceFault) : Type 0 where
    pub all : List MrtRecord
    pub last : Option SourceFault
    pub given : comes w.source all last
    pub cut : records ≡ within w.left (pending w.put_in (shows w.source) (losses_along w.followed all))
    pub ends : end ≡ end_within w.left (pending w.put_in (shows w.source) (losses_along w.followed all)) last

  abbrev pub ComesBy : Losses → (S → Option MrtRecord) → (S → List MrtRecord → Option SourceFault → Type 0)
      → Inferring S → List MrtRecord → Option SourceFault → Type 0
  ComesBy losses.Recorded shows comes w = comes w.source
  ComesBy losses.Inferred shows comes w = ComesInferred shows comes w

  -- there is always something that may come
  something_by : (by : Losses) (shows : S → Option MrtRecord)
      (comes : S → List MrtRecord → Option SourceFault → Type 0) (w : Inferring S) → SomethingComes (comes w.source)
      → SomethingComes (ComesBy by shows comes w)
  something_by losses.Recorded shows comes w some = some
  something_by losses.Inferred shows comes w some =
      let all = pending w.put_in (shows w.source) (losses_along w.followed some.0) in (
        within w.left all,
        end_within w.left all some.1,
        record { all = some.0; last = some.1; given = some.2; cut = refl; ends = refl },
      )

  pub something_comes : (shows : S → Option MrtRecord) (comes : S → List MrtRecord → Option SourceFault → Type 0)
      → ((source : S) → SomethingComes (comes source)) → (w : Inferring S)
      → SomethingComes (ComesBy w.losses shows comes w)
  something_comes shows comes some w = something_by w.losses shows comes w (some w.source)

-- ---- what may come before the first record is shown

-- the records of a source with the losses put in, up to the limit
pub record ComesWith (who : Sought) (comes : List MrtRecord → Option SourceFault → Type 0) (records : List MrtRecord)
    (end : Option SourceFault) : Type 0 where
  pub all : List MrtRecord
  pub last : Option SourceFault
  pub given : comes all last
  pub cut : records ≡ within read_limit (with_losses who all)
  pub ends : end ≡ end_within read_limit (with_losses who all) last

-- what comes of a source, if these losses of the peer are read
abbrev pub ComesFirst : Losses → Sought → (List MrtRecord → Option SourceFault → Type 0) → List MrtRecord
    → Option SourceFault → Type 0
ComesFirst losses.Recorded who comes = comes
ComesFirst losses.Inferred who comes = ComesWith who comes

-- ---- the steps

-- what is shown first of a record that is met: the loss before it, or the record
abbrev pub met_first : Bool → Sought → MrtRecord → MrtRecord
met_first true who r = loss_record who r
met_first false who r = r

-- how many octets that takes
abbrev pub octets_first : Followed → MrtRecord → ℕ
octets_first f r = octets_of (Some (met_first (is_lost_before f r) f.who r))

module _ {S : Type 0} where
  -- a record of so many octets is shown; at the limit none is, from then on
  abbrev pub counted : Inferring S → ℕ → Inferring S
  counted w octets =
      if nat_lt octets w.left then record w { left = w.left - octets } else record w { put_in = false; left = 0 }

  -- the record that the source shows is met: the record is shown, or the loss before it
  abbrev pub met : Inferring S → MrtRecord → Inferring S
  met w r =
      record w {
        followed = behind_record (before_record w.followed r) r;
        put_in = is_lost_before w.followed r;
      }

-- the answer if a record of so many octets is shown
abbrev pub answer_within : ℕ → ℕ → Result Bool SourceFault
answer_within octets left = if nat_lt octets left then Ok true else Err Read

-- what a call does to a source that puts losses in
module _ {S : Type 0} (shows : S → Option MrtRecord) (comes : S → List MrtRecord → Option SourceFault → Type 0)
    (stopped : S → Option (Result Bool SourceFault)) (failures : S → ℕ) (full : S → Type 0) where
  pub record GoesOn (old new : Inferring S) (result : Result Bool SourceFault) : Type 0 where
    pub records : Advances (ComesInferred shows comes) old new (shown_of shows new) result
    pub room : new.left + octets_of (shown_of shows new) ≤ old.left
    pub counts : CountsFailure (failures old.source) (failures new.source) (IsFull full new) (stopped_of stopped old)
        result
    pub stays : Stays (stopped_of stopped old) (failures old.source) (failures new.source) result
    pub stops : Stops (stopped_of stopped new) result
    pub losses : new.losses ≡ old.losses
