-- The records that a peer takes of a shared reading.
use Rattle.std.specs.Prelude.{◌≡◌, ◌⊎◌, ℕ, ◌+◌, ◌-◌, ◌≤◌, ◌^◌, true, All, Bool, List, [], ◌∷◌, ◌++◌, Option, Some, None}
use Rattle.std.specs.Prelude.{Result, drop, slice_get, refl}
use mathlib.Core.Logic.{inl, inr}
use Rattle.std.specs.Option.{option_map}
use Rattle.rs_mrt.specs.Leniency.{answer_at_end}
use Rattle.rs_mrt.specs.Record.{MrtRecord, octets_of}
use Rattle.rs_mrt.specs.RecordReading.{ComesUnless, fault_of}
use Rattle.rs_mrt.specs.Source.{Advances, SomethingComes, Stops}
use Rattle.rs_mrt.specs.declared.fault.SourceFault.{SourceFault}
use Rattle.rs_mrt.specs.declared.fault.SourceFault.TheVariants.{Read}
use Rattle.rs_types.specs.declared.peer_id.PeerId.{PeerId}
use Rattle.rs_share.specs.Batches.{Heard}
use Rattle.rs_share.specs.Own.{heard, is_for, own}
use Rattle.rs_share.specs.Telling.{Comes, IsTold, octets_in, told, told_in}
use Rattle.rs_share.specs.declared.part.Begin.{Begin}
use Rattle.rs_share.specs.declared.part.Last.{Last}
use Rattle.rs_share.specs.declared.part.Part.{Part}

-- What a peer takes: the source as it was before it was read, the peer, what it was told so far, and what of this is
-- not shown yet. Then the record that is shown, how many records of others come right before it, and the answer that is
-- repeated from now on.
pub record Taking (S : Type 0) : Type 0 where
  pub source : S
  pub peer : PeerId
  pub told : List MrtRecord
  pub left : List MrtRecord
  pub shown : Option MrtRecord
  pub others : ℕ
  pub stopped : Option (Result Bool SourceFault)

module _ {S : Type 0} (comes : Comes S) (t : Taking S) where
  -- The peer may still hear this, and then this end: what it was told and this are what it hears of records that the
  -- source may give.
  pub record IsHeard (later : List MrtRecord) (end : Option SourceFault) : Type 0 where
    pub records : List MrtRecord
    pub given : comes t.source records end
    pub more : List MrtRecord
    pub splits : heard t.peer records ≡ t.told ++ more
    pub is_later : later ≡ t.left ++ more

  -- these are all records of the peer that may still be heard
  pub record ComesWhole (records : List MrtRecord) (end : Option SourceFault) : Type 0 where
    pub later : List MrtRecord
    pub hears : IsHeard later end
    pub are : records ≡ own t.peer later

  -- these are the first of them
  pub record Begins (records : List MrtRecord) : Type 0 where
    pub later : List MrtRecord
    pub end : Option SourceFault
    pub hears : IsHeard later end
    pub rest : List MrtRecord
    pub splits : own t.peer later ≡ records ++ rest

  -- a beginning of the records comes, perhaps none, and then a failed read: the reader may end at any time
  pub record ComesInPart (records : List MrtRecord) (end : Option SourceFault) : Type 0 where
    pub begins : (records ≡ []) ⊎ Begins records
    pub fails : end ≡ Some Read

  abbrev pub ComesOpen : List MrtRecord → Option SourceFault → Type 0
  ComesOpen records end = ComesWhole records end ⊎ ComesInPart records end

  -- These records may still come, and then this end.
  abbrev pub MayCome : List MrtRecord → Option SourceFault → Type 0
  MayCome = ComesUnless t.stopped ComesOpen

-- there is always something that may come
something-unless : {S : Type 0} (comes : Comes S) (t : Taking S) (stopped : Option (Result Bool SourceFault))
    → SomethingComes (ComesUnless stopped (ComesOpen comes t))
something-unless comes t None = ([], Some Read, inr (record { begins = inl refl; fails = refl }))
something-unless comes t (Some answer) = ([], fault_of answer, (refl, refl))

pub something_comes : {S : Type 0} (comes : Comes S) (t : Taking S) → SomethingComes (MayCome comes t)
something_comes comes t = something-unless comes t t.stopped

-- at most so many octets: those of the source that were not told yet, and those that were told but not shown
abbrev pub room_left : {S : Type 0} → (S → ℕ) → Taking S → ℕ
room_left room t = (room t.source - octets_in t.told) + octets_in t.left

-- ---- the peer's side by its fields

-- what was told in the last part and is not shown yet
abbrev pub left_in : List Heard → ℕ → Option Last → List MrtRecord
left_in batch at last = told_in (drop at batch) last

-- the record that is shown
abbrev pub shown_in : List Heard → Option ℕ → Option MrtRecord
shown_in batch None = None
shown_in batch (Some at) = option_map (λ (h : Heard). h.own) (slice_get batch at)

-- the answer that is repeated
abbrev pub stopped_by : Option (Option SourceFault) → Option (Result Bool SourceFault)
stopped_by stopped = option_map answer_at_end stopped

-- the first part says of which source the parts are, and whose
pub record IsBegun {S : Type 0} (source : S) (peer : PeerId) (parts : List (Part S)) : Type 0 where
  pub first : Part S
  pub begin : Begin S
  pub rest : List (Part S)
  pub splits : parts ≡ first ∷ rest
  pub begins : first.begin ≡ Some begin
  pub source_is : begin.source.value ≡ source
  pub peer_is : begin.peer ≡ peer

-- what is always true of the peer's side: the parts that were received, the last one of them, and how far it is shown
pub record HasTaken {S : Type 0} (comes : Comes S) (room : S → ℕ) (source : S) (peer : PeerId) (parts : List (Part S))
    (batch : List Heard) (at : ℕ) (last : Option Last) : Type 0 where
  pub begun : IsBegun source peer parts
  pub is_told : IsTold comes source peer (told parts) last
  pub own : All (λ (h : Heard). is_for peer h.own ≡ true) batch
  pub octets : octets_in (told parts) ≤ room source
  pub left : octets_in (left_in batch at last) ≤ octets_in (told parts)
  pub few : room source ≤ 2 ^ 50

-- ---- the steps

module _ {S : Type 0} (comes : Comes S) (room : S → ℕ) where
  -- what a call of `advance` does to an open source
  pub record GoesOn (old new : Taking S) (result : Result Bool SourceFault) : Type 0 where
    pub records : Advances (MayCome comes) old new new.shown result
    pub fits : room_left room new + octets_of new.shown ≤ room_left room old
    pub stops : Stops new.stopped result

  -- a step within a part: it goes on, or the part is used up
  abbrev pub Steps : Taking S → Taking S → Option (Result Bool SourceFault) → Type 0
  Steps old new None = (new ≡ record old { shown = None }) × (old.left ≡ [])
  Steps old new (Some result) = GoesOn old new result

  -- whatever may come now might have come before
  pub record Carries (old new : Taking S) : Type 0 where
    pub goes : new.stopped ≡ None
    pub keeps : (records : List MrtRecord) (end : Option SourceFault) → MayCome comes new records end
        → MayCome comes old records end
    pub fits : room_left room new ≤ room_left room old
