-- Where the times of records go back (RFC 6396, section 2). Our choice: going back by up to a minute is tolerated.
use Rattle.std.specs.Prelude.{◌≡◌, ◌<◌, ◌≤◌, ℕ, ◌+◌, ◌-◌, nat_lt, if◌then◌else◌, List, ◌∷◌, ◌++◌, length, map, Option, Some, None}
use Rattle.std.specs.Option.{option_map}
use Rattle.rs_inventory.specs.Peer.{counted}
use Rattle.rs_inventory.specs.Times.{IsLatest, known_sum}
use Rattle.rs_inventory.specs.declared.back.Back.{Back}
use Rattle.rs_inventory.specs.declared.finding.Finding.{Finding}

-- how many seconds a record may be earlier than the latest record before it
abbrev pub tolerated : ℕ
tolerated = 60

-- Times go back at a record: it is earlier than the latest record before it, by more than is tolerated. So many
-- records are before it, and so many octets.
pub record GoesBack (findings : List Finding) (back : Back) : Type 0 where
  pub before : List Finding
  pub one : Finding
  pub later : List Finding
  pub latest : ℕ
  pub splits : findings ≡ before ++ one ∷ later
  pub last : IsLatest (map (λ f. f.time) before) (Some latest)
  pub far : one.time + tolerated < latest
  pub seconds : back.seconds + one.time ≡ latest
  pub records : back.records ≡ counted (length before)
  pub octet : back.octet ≡ option_map counted (known_sum (map (λ f. f.octets) before))

-- times go back at no record
abbrev pub NeverGoesBack : List Finding → Type 0
NeverGoesBack findings =
    (before : List Finding) → (one : Finding) → (later : List Finding) → (latest : ℕ) → findings ≡ before ++ one ∷ later
    → IsLatest (map (λ f. f.time) before) (Some latest) → latest ≤ one.time + tolerated

-- the answer is the first record at which times go back; None says that there is no such record
abbrev pub TellsBack : List Finding → Option Back → Type 0
TellsBack findings None = NeverGoesBack findings
TellsBack findings (Some back) = GoesBack findings back

-- ---- one more record

-- whether times go back at one more record
abbrev pub back_behind : Option ℕ → ℕ → ℕ → Option ℕ → Option Back
back_behind None time records octet = None
back_behind (Some last) time records octet =
    if nat_lt (time + tolerated) last then Some (record { seconds = last - time; records = records; octet = octet }) else None

-- the first of two answers, if there is one
abbrev pub first_back : Option Back → Option Back → Option Back
first_back None other = other
first_back (Some back) other = Some back
