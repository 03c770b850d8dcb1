-- Which clients refuse all routes of which senders, by name (our choice).
use Rattle.std.specs.Prelude.{◌≡◌, ℕ, Bool, List, map, Some, slice_get}
use Rattle.std.specs.List.{list_any}
use Rattle.std.specs.Str.{bytes_eq}
use Rattle.rs_choice.specs.Plan.{Peer}

-- whether a client refuses all routes of a sender, by the sender's name (our choice)
abbrev pub refuses : Peer → Peer → Bool
refuses client sender = list_any (λ name. bytes_eq name sender.name) client.refuse_from

-- for each client and each peer, whether the client refuses the peer's routes
abbrev pub refusals_of : List Peer → List (List Bool)
refusals_of peers = map (λ client. map (refuses client) peers) peers

-- whether some peer refuses all routes of a sender
abbrev pub is_refused : List Peer → Peer → Bool
is_refused peers sender = list_any (λ client. refuses client sender) peers

-- for each peer, whether some peer refuses its routes
abbrev pub refused_of : List Peer → List Bool
refused_of peers = map (is_refused peers) peers

-- the answer says whether the client of one number refuses the sender of another
abbrev pub IsRefusal : List Peer → ℕ → ℕ → Bool → Type 0
IsRefusal peers client sender answer =
    (one other : Peer) → slice_get peers client ≡ Some one → slice_get peers sender ≡ Some other
    → answer ≡ refuses one other

-- the answer says whether some peer refuses the sender of this number
abbrev pub IsRefusedSender : List Peer → ℕ → Bool → Type 0
IsRefusedSender peers number answer =
    (sender : Peer) → slice_get peers number ≡ Some sender → answer ≡ is_refused peers sender
