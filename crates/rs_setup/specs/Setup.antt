-- What a configuration sets up: the server, its peers and their recorded files (our choice: RFC 4271 leaves
-- configuration to the implementation).
use Rattle.std.specs.Prelude.{◌≡◌, ℕ, Bool, false, List, [], ◌∷◌, codes, map, None, String, string_bytes}
use Rattle.std.specs.Global.{Global, Vec}
use Rattle.toml.specs.Data.{Data, table, array, Items, no_items, item, Members}
use Rattle.rs_choice.specs.Import.{no_import}
use Rattle.rs_choice.specs.Plan.{Peer, Plan}
use Rattle.rs_choice.specs.declared.plan.Local.{Local}
use Rattle.rs_setup.specs.Import.{IsImportSetup, paths_of}
use Rattle.rs_setup.specs.Lists.{Holding, IsPolicy}
use Rattle.rs_setup.specs.Values.{HasOnly, IsAddress, IsBoolean, IsSomeSubnet, IsText, IsTexts, IsWholeNumber}
use Rattle.rs_setup.specs.Values.{AreListed, MayHave, Needs}
use Rattle.rs_setup.specs.declared.import_setup.ImportSetup.{ImportSetup}

-- the keys of a configuration, of its server and of a peer
abbrev pub top_keys : List (List ℕ)
top_keys = codes "import" ∷ codes "peer" ∷ codes "server" ∷ []

abbrev pub server_keys : List (List ℕ)
server_keys =
    codes "address" ∷ codes "as" ∷ codes "id" ∷ codes "large_communities" ∷ codes "subnet" ∷ []

abbrev pub peer_keys : List (List ℕ)
peer_keys =
    codes "address" ∷ codes "as" ∷ codes "as_list" ∷ codes "begin" ∷ codes "file" ∷ codes "id" ∷ codes "import"
    ∷ codes "name" ∷ codes "preference" ∷ codes "prefix_list" ∷ codes "refuse_from" ∷ []

-- the preference of a peer if none is configured
abbrev pub default_preference : ℕ
default_preference = 100

-- The server by its keys, and whether large communities (RFC 8092) count in export policy. If no identifier is
-- configured, it is the server's address. Large communities count only if that is configured.
pub record IsServerOf (keys : Members) (server : Local) (counted : Bool) : Type 0 where
  pub known : HasOnly server_keys keys
  pub asn : Needs keys (codes "as") IsWholeNumber server.asn
  pub address : Needs keys (codes "address") IsAddress server.address
  pub id : MayHave keys (codes "id") IsAddress server.address server.id
  pub subnet : MayHave keys (codes "subnet") IsSomeSubnet None server.subnet
  pub large_communities : MayHave keys (codes "large_communities") IsBoolean false counted

-- A peer and the path of its recorded file, by the peer's keys. If no identifier is configured, it is the peer's
-- address. If no preference is configured, it is the default, and if no refusals are configured, the peer refuses no
-- routes.
pub record IsPeerOf (keys : Members) (peer : Peer) (path : List ℕ) : Type 0 where
  pub known : HasOnly peer_keys keys
  pub name : Needs keys (codes "name") IsText peer.name
  pub asn : Needs keys (codes "as") IsWholeNumber peer.asn
  pub address : Needs keys (codes "address") IsAddress peer.address
  pub id : MayHave keys (codes "id") IsAddress peer.address peer.id
  pub preference : MayHave keys (codes "preference") IsWholeNumber default_preference peer.preference
  pub refuse_from : MayHave keys (codes "refuse_from") IsTexts [] peer.refuse_from
  pub file : Needs keys (codes "file") IsText path

-- a table that is the server's, and says whether large communities count
abbrev pub IsServer : Data → Local × Bool → Type 0
IsServer value (server, counted) = (keys : Members) × (value ≡ table keys) × IsServerOf keys server counted

-- a table that is a peer's
abbrev pub IsPeer : Data → Peer → List ℕ → Type 0
IsPeer value peer file = (keys : Members) × (value ≡ table keys) × IsPeerOf keys peer file

-- there are as many peers and files as items, each from the item at its place
abbrev pub ArePeers : Items → List Peer → List (List ℕ) → Type 0
ArePeers no_items [] [] = Unit {0}
ArePeers (item value values) (peer ∷ peers) (file ∷ files) = IsPeer value peer file × ArePeers values peers files
ArePeers _ _ _ = ⊥

-- a list of peers' tables
abbrev pub ArePeersOf : Data → List Peer × List (List ℕ) → Type 0
ArePeersOf value (peers, files) = (values : Items) × (value ≡ array values) × ArePeers values peers files

-- texts as lists of octets
abbrev pub texts_in : Vec (String Global) → List (List ℕ)
texts_in texts = map string_bytes texts.items

-- a peer's table, and the paths of the files that are read before its recorded file: none if none are configured
abbrev pub IsBegin : Data → List (List ℕ) → Type 0
IsBegin value paths = (keys : Members) × (value ≡ table keys) × MayHave keys (codes "begin") IsTexts [] paths

-- The paths of the files that are read before the recorded file of each peer, in the order of the peers.
abbrev pub AreBegins : Members → List (List (List ℕ)) → Type 0
AreBegins keys begins = MayHave keys (codes "peer") (AreListed IsBegin) [] begins

-- What the table of a configuration sets up: the plan of the exchange, and the path of each peer's recorded file, in
-- the order of the peers. Import policy asks nothing.
pub record IsSetup (keys : Members) (plan : Plan) (files : List (List ℕ)) : Type 0 where
  pub known : HasOnly top_keys keys
  pub server : Needs keys (codes "server") IsServer (plan.local, plan.large_communities)
  pub peers : MayHave keys (codes "peer") ArePeersOf ([], []) (plan.peers, files)
  pub import : plan.import ≡ no_import

-- These are the paths of the lists of a configuration.
abbrev pub AreListPaths : Members → List (List ℕ) → Type 0
AreListPaths keys paths = (import : ImportSetup) × IsImportSetup keys import × (paths ≡ paths_of import)

-- What the table of a configuration sets up with its lists: the same, but for import policy, which is that of the
-- configuration. The relation tells which octets the file at a path has.
abbrev pub IsWholeSetup : Holding → Members → Plan → List (List ℕ) → Type 0
IsWholeSetup Holds keys plan files =
    IsSetup keys (record plan { import = no_import }) files
    × ((import : ImportSetup) × IsImportSetup keys import × IsPolicy Holds import plan.import)
