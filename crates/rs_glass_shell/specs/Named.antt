-- Which peer a word of a command line names (docs/LOOKING_GLASS.md, "Names of peers"); our choice.
use Rattle.std.specs.Prelude.{◌≡◌, ◌⊎◌, ◌+◌, ◌++◌, ◌<◌, ◌≤◌, ℕ, List, Some, codes, length, slice_get}
use Rattle.std.specs.Fmt.{decimal}
use Rattle.std.specs.Int.{w32, to_be_bytes}
use Rattle.std.specs.Net.Text.{ipv4_text}
use Rattle.rs_choice.specs.Plan.{Peer}

-- the statement is true of no number from one on and below another
abbrev pub NoneFrom : (ℕ → Type 0) → ℕ → ℕ → Type 0
NoneFrom Holds from to = (number : ℕ) → from ≤ number → number < to → ¬ (Holds number)

-- this is the first number, from one on, of which the statement is true
abbrev pub IsFirstFrom : (ℕ → Type 0) → ℕ → ℕ → Type 0
IsFirstFrom Holds from number = Holds number × NoneFrom Holds from number

-- the word is the name of the peer that has this number
abbrev pub IsNameOf : List ℕ → List Peer → ℕ → Type 0
IsNameOf word peers number = (peer : Peer) × (slice_get peers number ≡ Some peer) × (peer.name ≡ word)

-- the word is an AS number in decimal digits, after `AS` or `as` or alone
abbrev pub WritesAs : List ℕ → ℕ → Type 0
WritesAs word asn = (word ≡ decimal asn) ⊎ (word ≡ codes "AS" ++ decimal asn) ⊎ (word ≡ codes "as" ++ decimal asn)

-- the word is the address or the AS number of the peer that has this number
abbrev pub IsOf : List ℕ → List Peer → ℕ → Type 0
IsOf word peers number =
    (peer : Peer) × (slice_get peers number ≡ Some peer)
    × ((word ≡ ipv4_text (to_be_bytes w32 peer.address)) ⊎ WritesAs word peer.asn)

-- the word is the address or the AS number of this peer, and of no other
abbrev pub IsOfJust : List ℕ → List Peer → ℕ → Type 0
IsOfJust word peers number =
    IsFirstFrom (IsOf word peers) 0 number × NoneFrom (IsOf word peers) (number + 1) (length peers)

-- A word names a peer if it is the peer's name. If it is the name of no peer, it may be the address or the AS number
-- of exactly this peer.
abbrev pub Names : List ℕ → List Peer → ℕ → Type 0
Names word peers number =
    IsNameOf word peers number
    ⊎ (NoneFrom (IsNameOf word peers) 0 (length peers) × IsOfJust word peers number)
