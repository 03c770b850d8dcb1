-- The decision process (RFC 4271, sections 9.1.1 and 9.1.2.2).
use Rattle.std.specs.Prelude.{ℕ, ◌==◌, nat_lt, Bool, not, ◌&&◌, List, [], ◌∷◌, filter, Option, None, Some, slice_get}
use Rattle.std.specs.Prelude.{unwrap_or}
use Rattle.std.specs.List.{list_any, enumerate_from}
use Rattle.std.specs.Option.{option_map, option_map_or}
use Rattle.rs_types.specs.declared.values.Origin.TheVariants.{Igp}
use Rattle.rs_types.specs.PathAttributes.{PathAttributes}
use Rattle.rs_types.specs.AsPath.{path_length_of, neighbour_of}
use Rattle.rs_types.specs.Spelling.{origin_code}
use Rattle.rs_choice.specs.declared.candidate.Candidate.{Candidate}
use Rattle.rs_choice.specs.declared.candidate.Standing.{Standing}
use Rattle.rs_choice.specs.declared.step.Step.{Step}
use Rattle.rs_choice.specs.declared.step.Step.TheVariants as steps
use Rattle.rs_choice.specs.Plan.{Peer, Plan}

-- At a step, a route removes another one by these comparisons. All peers are external and no interior cost is known,
-- so steps d and e remove nothing.
-- - Preference: a higher configured preference of the sending peer (section 9.1.1).
-- - Path length: fewer AS numbers in AS_PATH, an AS_SET counting 1 (section 9.1.2.2, a).
-- - Origin: a lower ORIGIN (section 9.1.2.2, b).
-- - MED: the same neighbour AS and a lower MED (section 9.1.2.2, c).
-- - Identifier: a lower BGP Identifier of the sending peer (section 9.1.2.2, f).
-- - Address: a lower address of the sending peer (section 9.1.2.2, g).
abbrev pub beats : Step → Standing → Standing → Bool
beats steps.Preference one other = nat_lt other.preference one.preference
beats steps.PathLength one other = nat_lt one.path_length other.path_length
beats steps.Origin one other = nat_lt (origin_code one.origin) (origin_code other.origin)
beats steps.Med one other = one.neighbour == other.neighbour && nat_lt one.med other.med
beats steps.Identifier one other = nat_lt one.id other.id
beats steps.Address one other = nat_lt one.address other.address

-- the steps in their order
abbrev pub decision_steps : List Step
decision_steps = steps.Preference ∷ steps.PathLength ∷ steps.Origin ∷ steps.Med ∷ steps.Identifier ∷ steps.Address ∷ []

-- the members of a set that no other member beats at a step
unfoldable pub unbeaten : {M : Type 0} → (M → Standing) → Step → List M → List M
unbeaten standing step set =
    filter (λ one. not (list_any (λ other. beats step (standing other) (standing one)) set)) set

-- what is left of a set after some steps; each step looks at the whole set that the step before left
unfoldable pub remaining : {M : Type 0} → (M → Standing) → List Step → List M → List M
remaining standing [] set = set
remaining standing (step ∷ later) set = remaining standing later (unbeaten standing step set)

-- the first member of a list
abbrev pub first_member : {M : Type 0} → List M → Option M
first_member [] = None
first_member (first ∷ later) = Some first

-- The choice among the members of a set: the member that all steps leave; None for an empty set. Exactly one member
-- is left. Each step leaves at least one member, and the last step leaves those of the lowest address. No two peers
-- of a plan have the same address, and a peer has one route on a prefix.
unfoldable pub choice : {M : Type 0} → (M → Standing) → List M → Option M
choice standing set = first_member (remaining standing decision_steps set)

-- the place of the choice in a list of members; the first place if several are left
unfoldable pub place_of_choice : {M : Type 0} → (M → Standing) → List M → Option ℕ
place_of_choice standing members =
    option_map (λ (place, member). place) (choice (λ (place, member). standing member) (enumerate_from 0 members))

-- the member at a place of a list; None if there is no place
abbrev pub member_at : {M : Type 0} → List M → Option ℕ → Option M
member_at members None = None
member_at members (Some place) = slice_get members place

-- what the decision process compares of a route; a missing MED counts as 0 (section 9.1.2.2, c)
abbrev pub standing_from : Peer → PathAttributes → Standing
standing_from sender attributes = record {
  preference = sender.preference;
  path_length = path_length_of attributes.path;
  origin = attributes.origin;
  neighbour = neighbour_of attributes.path sender.asn;
  med = unwrap_or attributes.med 0;
  id = sender.id;
  address = sender.address;
}

-- a route that a peer sent: the peer's number, the time of the announcement in seconds, and the attributes
pub record SentRoute : Type 0 where
  pub peer : ℕ
  pub time : ℕ
  pub attributes : PathAttributes

-- the standing for a number that no peer has
abbrev pub no_standing : Standing
no_standing = record { preference = 0; path_length = 0; origin = Igp; neighbour = 0; med = 0; id = 0; address = 0 }

-- what the decision process compares of attributes that a peer sent; it never compares times
abbrev pub standing_by : Plan → ℕ → PathAttributes → Standing
standing_by plan peer attributes =
    option_map_or (λ sender. standing_from sender attributes) (slice_get plan.peers peer) no_standing

-- what the decision process compares of a route
abbrev pub standing_of : Plan → SentRoute → Standing
standing_of plan route = standing_by plan route.peer route.attributes

abbrev pub standing_of_candidate : Plan → Candidate → Standing
standing_of_candidate plan candidate = standing_by plan candidate.peer candidate.attributes.now
