-- Which recorded files a reader may give to a session (RFC 6396, section 2). A reader is not a file: the octets to
-- come are unknown, so statements speak of each file that the reader may give. Our choices: a session reads no
-- further than the record that ends it, and takes at most 2^50 octets of a reader.
use Rattle.std.specs.Prelude.{◌≡◌, ◌<◌, ◌≤◌, ◌⊎◌, ℕ, Bool, true, false, List, [], ◌++◌, length, take, slice_get, Some}
use Rattle.std.specs.List.{list_any}
use Rattle.rs_mrt.specs.Reader.{ReadEnd, FileEnds, ReadFails}
use Rattle.rs_mrt.specs.Record.{records_of}
use Rattle.rs_mrt.specs.RecordReading.{read_limit}
use Rattle.rs_mrt.specs.declared.fault.SourceFault.TheVariants as faults
use Rattle.rs_change.specs.Change.{Change}
use Rattle.rs_session.specs.Effect.{effect_of}
use Rattle.rs_session.specs.FileChanges.{ends, changes_of, passed_of, changes_in_by, passed_in_by}
use Rattle.rs_types.specs.declared.peer_id.PeerId.{PeerId}
use Rattle.rs_update.specs.declared.errors.Errors.{Errors}

-- ---- one for each peer

-- each member of the last list is so for the peer and the reader at its place
pub record AreEach {R D : Type 0} (Is : PeerId → R → D → Type 0) (peers : List PeerId) (readers : List R)
    (all : List D) : Type 0 where
  pub as_many : length all ≡ length readers
  pub each : (place : ℕ) (peer : PeerId) (reader : R) (one : D) → slice_get peers place ≡ Some peer
      → slice_get readers place ≡ Some reader → slice_get all place ≡ Some one → Is peer reader one

-- the reader at this place may fail, and there is a member for each reader before it
pub record FailsFirstAt {R D : Type 0} (Is : PeerId → R → D → Type 0) (Fails : PeerId → R → Type 0)
    (peers : List PeerId) (readers : List R) (place : ℕ) : Type 0 where
  pub peer : PeerId
  pub reader : R
  pub before_it : List D
  pub peer_is : slice_get peers place ≡ Some peer
  pub reader_is : slice_get readers place ≡ Some reader
  pub fails : Fails peer reader
  pub before : AreEach Is (take place peers) (take place readers) before_it

-- ---- files

-- whether some record in these octets ends the session of the peer: because a message is at fault, or the record is
abbrev pub has_end : Errors → PeerId → List ℕ → Bool
has_end errors peer octets = list_any (λ r. ends (effect_of errors peer r)) (records_of octets)

module _ {R : Type 0} (gives : R → List ℕ → ReadEnd → Type 0) (errors : Errors) where
  -- ---- one reader

  -- the reader may give exactly this file, to its end
  pub record IsGivenWhole (reader : R) (file : List ℕ) : Type 0 where
    pub given : gives reader file FileEnds
    pub fits : length file < read_limit

  -- The reader may give more than this file, but a record in the file ends the session of the peer. The octets
  -- behind the file make no difference.
  pub record IsGivenToClose (peer : PeerId) (reader : R) (file : List ℕ) : Type 0 where
    pub later : List ℕ
    pub end : ReadEnd
    pub given : gives reader (file ++ later) end
    pub fits : length file ≤ read_limit
    pub closes : has_end errors peer file ≡ true

  -- the reader may give this file, as far as the session of the peer depends on the file
  abbrev pub IsGiven : PeerId → R → List ℕ → Type 0
  IsGiven peer reader file = IsGivenWhole reader file ⊎ IsGivenToClose peer reader file

  -- The reader may give these octets, and no record in them ends the session. Then the next read fails, or the limit
  -- of 2^50 octets is reached.
  pub record FailsBehind (peer : PeerId) (reader : R) (came : List ℕ) : Type 0 where
    pub later : List ℕ
    pub end : ReadEnd
    pub given : gives reader (came ++ later) end
    pub fails : ((later ≡ []) × (end ≡ ReadFails)) ⊎ (length came ≡ read_limit)
    pub no_end : has_end errors peer came ≡ false

  -- a read may fail while the session of the peer is open
  abbrev pub MayFail : PeerId → R → Type 0
  MayFail peer reader = (came : List ℕ) × FailsBehind peer reader came

  -- ---- the whole list of changes of a session

  -- the changes are those of a file that the reader may give, and so many of its records are passed over
  pub record SaysGiven (peer : PeerId) (reader : R) (changes : List Change) (passed : ℕ) : Type 0 where
    pub file : List ℕ
    pub given : IsGiven peer reader file
    pub says : changes ≡ changes_in_by errors peer file
    pub counts : passed ≡ passed_in_by errors peer file

  -- a read failed: the changes are those of the whole records before it, and then a close for that reason
  pub record SaysFailed (peer : PeerId) (reader : R) (changes : List Change) (passed : ℕ) : Type 0 where
    pub came : List ℕ
    pub fails : FailsBehind peer reader came
    pub says : changes ≡ changes_of errors peer (records_of came) (Some faults.Read)
    pub counts : passed ≡ passed_of errors peer (records_of came)

  -- the changes of a session over a reader: those of a file that the reader may give, or those up to a failed read
  abbrev pub IsRead : PeerId → R → List Change → ℕ → Type 0
  IsRead peer reader changes passed = SaysGiven peer reader changes passed ⊎ SaysFailed peer reader changes passed

  -- ---- a reader for each peer

  -- each reader may give the file of its peer
  abbrev pub AreGiven : List PeerId → List R → List (List ℕ) → Type 0
  AreGiven = AreEach IsGiven

  -- there are files that the readers may give, one for each peer, for which the statement is true
  abbrev pub OverGivenFiles : List PeerId → List R → (List (List ℕ) → Type 0) → Type 0
  OverGivenFiles peers readers Holds = (files : List (List ℕ)) × AreGiven peers readers files × Holds files

  -- the reader at this place may fail, and the readers before it may give files
  abbrev pub MayFailAt : List PeerId → List R → ℕ → Type 0
  MayFailAt = FailsFirstAt IsGiven MayFail
