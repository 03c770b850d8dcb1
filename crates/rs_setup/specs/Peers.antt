-- The peers of a configuration that were read so far.
use Rattle.std.specs.Prelude.{◌≡◌, ℕ, List, [], ◌∷◌, ◌++◌, map, string_bytes}
use Rattle.toml.specs.Data.{Data}
use Rattle.rs_choice.specs.Plan.{Peer, peer_of}
use Rattle.rs_setup.specs.Import.{AreLists}
use Rattle.rs_setup.specs.Setup.{IsBegin, IsPeer, texts_in}
use Rattle.rs_setup.specs.declared.import_setup.PeerLists.{PeerLists}
use Rattle.rs_setup.specs.declared.peers.Peers.{Peers}

-- a peer's table has given one more peer, with its files and its lists
pub record IsAdded (before after : Peers) (value : Data) : Type 0 where
  pub peer : Peer
  pub file : List ℕ
  pub begin : List (List ℕ)
  pub lists : PeerLists
  pub peers : map peer_of after.specs.items ≡ map peer_of before.specs.items ++ peer ∷ []
  pub files : map string_bytes after.files.items ≡ map string_bytes before.files.items ++ file ∷ []
  pub begins : map texts_in after.begins.items ≡ map texts_in before.begins.items ++ begin ∷ []
  pub all_lists : after.lists.items ≡ before.lists.items ++ lists ∷ []
  pub is_peer : IsPeer value peer file
  pub is_begin : IsBegin value begin
  pub are_lists : AreLists value lists
