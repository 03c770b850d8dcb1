-- Laws of what a configuration sets up.
use Rattle.std.specs.Prelude.{◌≡◌, ℕ, List, length}
use Rattle.toml.specs.Data.{Members}
use Rattle.rs_choice.specs.Plan.{Plan}
use Rattle.rs_setup.specs.Setup.{AreBegins, IsSetup}

-- a configuration sets up at most one plan, and at most one file for each peer
abbrev pub SetsUpOnce : Type 0
SetsUpOnce =
    (keys : Members) (plan other : Plan) (files others : List (List ℕ)) → IsSetup keys plan files
    → IsSetup keys other others →
    (plan ≡ other) × (files ≡ others)

-- a configuration names at most one list of files that are read before the recorded file of each peer
abbrev pub BeginsOnce : Type 0
BeginsOnce =
    (keys : Members) (begins others : List (List (List ℕ))) → AreBegins keys begins → AreBegins keys others → begins ≡ others

-- a configuration sets up as many recorded files as peers
abbrev pub HasFileForEachPeer : Type 0
HasFileForEachPeer =
    (keys : Members) (plan : Plan) (files : List (List ℕ)) → IsSetup keys plan files → length files ≡ length plan.peers
