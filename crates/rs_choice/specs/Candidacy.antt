-- What decisions need of one route by itself, without the other routes (RFC 4271, sections 9.1.1 and 9.1.2; RFC 7947,
-- section 2.3).
use Rattle.std.specs.Prelude.{◌≡◌, Bool, true, false}
use Rattle.rs_types.specs.declared.values.Origin.{Origin}
use Rattle.rs_types.specs.declared.values.Origin.TheVariants.{Igp, Egp, Incomplete}
use Rattle.rs_choice.specs.declared.candidacy.Candidacy.{Candidacy}
use Rattle.rs_choice.specs.declared.candidacy.Candidacy.TheVariants as is

-- import policy takes the route in
abbrev pub is_taken_in : Candidacy → Bool
is_taken_in is.Filtered = false
is_taken_in is.Ineligible = true
is_taken_in is.PlainRestrictedIgp = true
is_taken_in is.PlainRestrictedEgp = true
is_taken_in is.PlainRestrictedIncomplete = true
is_taken_in is.PlainOpenIgp = true
is_taken_in is.PlainOpenEgp = true
is_taken_in is.PlainOpenIncomplete = true
is_taken_in is.RestrictedIgp = true
is_taken_in is.RestrictedEgp = true
is_taken_in is.RestrictedIncomplete = true
is_taken_in is.OpenIgp = true
is_taken_in is.OpenEgp = true
is_taken_in is.OpenIncomplete = true

-- the route is taken in and eligible: it may be a candidate
abbrev pub is_candidate : Candidacy → Bool
is_candidate is.Filtered = false
is_candidate is.Ineligible = false
is_candidate is.PlainRestrictedIgp = true
is_candidate is.PlainRestrictedEgp = true
is_candidate is.PlainRestrictedIncomplete = true
is_candidate is.PlainOpenIgp = true
is_candidate is.PlainOpenEgp = true
is_candidate is.PlainOpenIncomplete = true
is_candidate is.RestrictedIgp = true
is_candidate is.RestrictedEgp = true
is_candidate is.RestrictedIncomplete = true
is_candidate is.OpenIgp = true
is_candidate is.OpenEgp = true
is_candidate is.OpenIncomplete = true

-- the route may be a candidate, and every client but its sender may get it
abbrev pub is_open_candidate : Candidacy → Bool
is_open_candidate is.Filtered = false
is_open_candidate is.Ineligible = false
is_open_candidate is.PlainRestrictedIgp = false
is_open_candidate is.PlainRestrictedEgp = false
is_open_candidate is.PlainRestrictedIncomplete = false
is_open_candidate is.PlainOpenIgp = true
is_open_candidate is.PlainOpenEgp = true
is_open_candidate is.PlainOpenIncomplete = true
is_open_candidate is.RestrictedIgp = false
is_open_candidate is.RestrictedEgp = false
is_open_candidate is.RestrictedIncomplete = false
is_open_candidate is.OpenIgp = true
is_open_candidate is.OpenEgp = true
is_open_candidate is.OpenIncomplete = true

-- the route may be a candidate, its neighbour AS is its sender's AS, and its MED is 0 or missing
abbrev pub is_plain_candidate : Candidacy → Bool
is_plain_candidate is.Filtered = false
is_plain_candidate is.Ineligible = false
is_plain_candidate is.PlainRestrictedIgp = true
is_plain_candidate is.PlainRestrictedEgp = true
is_plain_candidate is.PlainRestrictedIncomplete = true
is_plain_candidate is.PlainOpenIgp = true
is_plain_candidate is.PlainOpenEgp = true
is_plain_candidate is.PlainOpenIncomplete = true
is_plain_candidate is.RestrictedIgp = false
is_plain_candidate is.RestrictedEgp = false
is_plain_candidate is.RestrictedIncomplete = false
is_plain_candidate is.OpenIgp = false
is_plain_candidate is.OpenEgp = false
is_plain_candidate is.OpenIncomplete = false

-- the origin of a route that may be a candidate
abbrev pub origin_of_candidacy : Candidacy → Origin
origin_of_candidacy is.Filtered = Incomplete
origin_of_candidacy is.Ineligible = Incomplete
origin_of_candidacy is.PlainRestrictedIgp = Igp
origin_of_candidacy is.PlainRestrictedEgp = Egp
origin_of_candidacy is.PlainRestrictedIncomplete = Incomplete
origin_of_candidacy is.PlainOpenIgp = Igp
origin_of_candidacy is.PlainOpenEgp = Egp
origin_of_candidacy is.PlainOpenIncomplete = Incomplete
origin_of_candidacy is.RestrictedIgp = Igp
origin_of_candidacy is.RestrictedEgp = Egp
origin_of_candidacy is.RestrictedIncomplete = Incomplete
origin_of_candidacy is.OpenIgp = Igp
origin_of_candidacy is.OpenEgp = Egp
origin_of_candidacy is.OpenIncomplete = Incomplete

-- A route of this origin that may be a candidate has this candidacy. It says whether every client but the sender may get the
-- route, and whether the route is plain.
pub record CandidacyOf (unrestricted : Bool) (origin : Origin) (plain : Bool) (candidacy : Candidacy) : Type 0 where
  pub taken : is_taken_in candidacy ≡ true
  pub candidate : is_candidate candidacy ≡ true
  pub open_agrees : is_open_candidate candidacy ≡ unrestricted
  pub plain_agrees : is_plain_candidate candidacy ≡ plain
  pub origin_agrees : origin_of_candidacy candidacy ≡ origin
