-- What goes from the reader of a shared recording to one peer.
use Rattle.std.specs.Prelude.{◌≡◌, ℕ, ◌-◌, ◌≤◌, true, All, List, [], ◌∷◌, ◌++◌, Option, None, length}
use Rattle.rtrb.specs.Ring.{sent}
use Rattle.rs_mrt.specs.Record.{MrtRecord}
use Rattle.rs_mrt.specs.declared.fault.SourceFault.{SourceFault}
use Rattle.rs_share.specs.Batches.{Heard, silences, spread}
use Rattle.rs_share.specs.Own.{heard, is_for}
use Rattle.rs_share.specs.Taking.{IsBegun}
use Rattle.rs_share.specs.Telling.{Comes, octets_in, told}
use Rattle.rs_share.specs.declared.line.Line.{Line}
use Rattle.rs_share.specs.declared.part.Last.{Last}
use Rattle.rs_share.specs.declared.part.Part.{Part}

module _ {S : Type 0} where
  -- of these records of the source the peer was told all that it hears of them, but for the records that wait, and for
  -- the records of others behind these
  pub record Tells (line : Line S) (given : List MrtRecord) : Type 0 where
    pub begun : IsBegun line.source.value line.id (sent line.parts)
    pub splits : heard line.id given
        ≡ told (sent line.parts) ++ (spread line.batch ++ silences (length given - line.seen))
    pub seen : line.seen ≤ length given
    pub own : All (λ (h : Heard). is_for line.id h.own ≡ true) line.batch

  -- the same, as long as more can be sent
  abbrev pub TellsOn : Line S → List MrtRecord → Type 0
  TellsOn line given = line.open ≡ true → Tells line given

  -- the source may give these records, and others behind them
  pub record MayGive (comes : Comes S) (room : S → ℕ) (source : S) (given : List MrtRecord) : Type 0 where
    pub later : List MrtRecord
    pub end : Option SourceFault
    pub come : comes source (given ++ later) end
    pub octets : octets_in given ≤ room source

  -- the records that were read so far, so many
  pub record IsAt (comes : Comes S) (room : S → ℕ) (line : Line S) (count : ℕ) : Type 0 where
    pub given : List MrtRecord
    pub may : MayGive comes room line.source.value given
    pub tells : TellsOn line given
    pub counted : length given ≡ count

  -- a part of the records that wait
  abbrev pub part_of : Line S → Option Last → Part S
  part_of line last = record { begin = None; batch = line.batch; last = last }

  -- the line stays of the same source and peer
  pub record IsSameLine (old new : Line S) : Type 0 where
    pub source : new.source.value ≡ old.source.value
    pub id : new.id ≡ old.id
    pub seen : new.seen ≡ old.seen

  -- a part was sent, unless the peer is gone
  pub record HasSent (old new : Line S) (part : Part S) : Type 0 where
    pub same : IsSameLine old new
    pub sent_is : new.open ≡ true → (old.open ≡ true) × (sent new.parts ≡ sent old.parts ++ part ∷ [])

  -- the records of the source that were read are all of it, so many, and they end so
  pub record IsEnded (comes : Comes S) (room : S → ℕ) (line : Line S) (count : ℕ) (end : Option SourceFault) : Type 0 where
    pub given : List MrtRecord
    pub come : comes line.source.value given end
    pub octets : octets_in given ≤ room line.source.value
    pub tells : TellsOn line given
    pub counted : length given ≡ count

  -- the records that were read so far, so many, and one more behind them
  pub record MayGo (comes : Comes S) (room : S → ℕ) (line : Line S) (count : ℕ) (r : MrtRecord) : Type 0 where
    pub given : List MrtRecord
    pub may : MayGive comes room line.source.value given
    pub more : MayGive comes room line.source.value (given ++ r ∷ [])
    pub tells : TellsOn line given
    pub counted : length given ≡ count
