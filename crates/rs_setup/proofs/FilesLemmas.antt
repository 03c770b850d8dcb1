-- A configuration sets up one recorded file for each peer.
use Rattle.std.proofs.Common.{◌≡◌, ◌∙◌, List, [], ◌∷◌, length, suc, ap, sym, refl, ℕ, Option, None, Some}
use Rattle.toml.specs.Data.{Data, Items, no_items, item, Members, get_member}
use Rattle.rs_choice.specs.Plan.{Peer, Plan}
use Rattle.rs_setup.specs.Setup.{ArePeers, ArePeersOf, IsSetup}
use Rattle.std.specs.Prelude.{codes, MatchOption}

as_many : (values : Items) (peers : List Peer) (files : List (List ℕ)) → ArePeers values peers files → length files ≡ length peers
as_many no_items [] [] all = refl
as_many (item value values) (peer ∷ peers) (file ∷ files) all = ap suc (as_many values peers files all.1)
as_many values peers files all = absurd all

pub one_for_each : (keys : Members) (plan : Plan) (files : List (List ℕ)) → IsSetup keys plan files → length files ≡ length plan.peers
one_for_each keys plan files set_up = found (get_member (codes "peer") keys) set_up.peers
  where
    found : (value : Option Data) → MatchOption value (◌≡◌ {A = List Peer × List (List ℕ)} (plan.peers, files) ([], []))
        (λ value. ArePeersOf value (plan.peers, files)) → length files ≡ length plan.peers
    found None none = ap (λ both. length both.1) none ∙ sym (ap (λ both. length both.0) none)
    found (Some value) some = as_many some.0 plan.peers files some.2
