-- The recorded sessions of all peers, and what was read of each.
use Rattle.std.specs.Prelude.{◌≡◌, ℕ, ◌<◌, List, Result, Ok, Err, Some, slice_get}
use Rattle.rs_choice.specs.Plan.{Peer, Plan, id_of}
use Rattle.rs_table.specs.Content.{TablesContent, rib_of}
use Rattle.rs_glass.specs.declared.fault.GlassFault.{GlassFault}
use Rattle.rs_glass.specs.declared.fault.GlassFault.TheVariants.{Memory, Read}
use Rattle.rs_glass.specs.declared.hearing.Heard.{Heard}
use Rattle.rs_glass.specs.declared.recording.Recording.{Recording}
use Rattle.rs_glass.specs.declared.said.Said.{Said}

-- the recorded session of the peer that has this number
pub record IsRecording {S : Type 0} (plan : Plan) (sources : List S) (number : ℕ) (one : Recording S) : Type 0 where
  pub number_is : one.peer ≡ number
  pub peer : Peer
  pub peer_is : slice_get plan.peers number ≡ Some peer
  pub id_is : one.id ≡ id_of peer
  pub source_is : slice_get sources number ≡ Some one.source

abbrev pub AreRecordings : {S : Type 0} → Plan → List S → List (Recording S) → Type 0
AreRecordings {S} plan sources all =
    (number : ℕ) (one : Recording S) → slice_get all number ≡ Some one → IsRecording plan sources number one

-- the tables have the routes that were read of this peer, and the answer is what was read of it
pub record IsHeard (all : List (Result Heard GlassFault)) (number : ℕ) (tables : TablesContent) (said : Said)
    : Type 0 where
  pub heard : Heard
  pub heard_is : slice_get all number ≡ Some (Ok heard)
  pub routes : (rib_of tables number).routes ≡ heard.routes
  pub said_is : heard.said ≡ said

abbrev pub AreHeard : List (Result Heard GlassFault) → ℕ → TablesContent → List Said → Type 0
AreHeard all count tables said =
    (number : ℕ) → number < count → (one : Said) → slice_get said number ≡ Some one → IsHeard all number tables one

-- a fault that was found for some peer, or memory was refused
abbrev pub IsFaultHeard : List (Result Heard GlassFault) → GlassFault → Type 0
IsFaultHeard all Memory = Unit {0}
IsFaultHeard all (Read faulty) = (number : ℕ) × (slice_get all number ≡ Some (Err (Read faulty)))
