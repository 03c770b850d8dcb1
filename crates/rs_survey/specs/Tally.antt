-- Counts of findings (our choice).
use Rattle.std.specs.Prelude.{◌≡◌, ◌≤◌, ◌+◌, ◌-◌, ◌*◌, ◌^◌, ℕ, List, All, length, count_by, min, slice_index_or, refl}
use Rattle.std.specs.Coded.{Coded, code_by, coded×, coded_ℕ, coded_list}
use Rattle.rs_survey.specs.declared.finding.Finding.{Finding}
use Rattle.rs_survey.specs.declared.finding.Key.{Key}
use Rattle.rs_survey.specs.declared.tally.Tally.TheInside.{Inside}
use Rattle.rs_survey.specs.Findings.{IsKnown, is_same, key_of}

-- the number of peers whose findings are counted, and the counts
pub record TallyContent : Type 0 where
  pub peers : ℕ
  pub counts : List ℕ

abbrev pub tally_code : Coded TallyContent
tally_code =
    code_by (ℕ × List ℕ) (coded× coded_ℕ (coded_list coded_ℕ)) (λ t. (t.peers, t.counts))
    (λ p. record { peers = p.0; counts = p.1 }) (λ _. refl)

abbrev pub tally_view : Inside → TallyContent
tally_view fields = record { peers = fields.peers; counts = fields.counts.items }

-- each digit of a place is below this: it is a peer's number, or that of one of twenty reasons, eight filters, six
-- steps or three conditions
abbrev pub digits : ℕ → ℕ
digits peers = peers + 20

-- the place of a finding's count: its key as a number of three digits
abbrev pub place_in : ℕ → Key → ℕ
place_in width key = (key.kind * width + key.first) * width + key.second

abbrev pub room_for : ℕ → ℕ
room_for width = 9 * width * width

-- there is a count for each finding
pub record HasRoom (fields : Inside) : Type 0 where
  pub bound : fields.peers ≤ 256
  pub room : length fields.counts.items ≡ room_for (digits fields.peers)

-- counts do not exceed the greatest number of 64 bits
abbrev pub most : ℕ
most = 2 ^ 64 - 1

-- the counts of some findings: for each known finding, how often it is among them
pub record IsTally (tally : TallyContent) (findings : List Finding) : Type 0 where
  pub known : All (IsKnown tally.peers) findings
  pub counted : (finding : Finding) → IsKnown tally.peers finding
      → slice_index_or tally.counts (place_in (digits tally.peers) (key_of finding)) 0
      ≡ min (count_by (is_same finding) findings) most
