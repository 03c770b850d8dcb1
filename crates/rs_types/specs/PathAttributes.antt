-- The path attributes of a route, as callers see them (RFC 4271, section 5; RFC 6793; RFC 1997).
use Rattle.std.specs.Prelude.{ℕ, Bool, List, Option}
use Rattle.rs_types.specs.declared.values.Origin.{Origin}
use Rattle.rs_types.specs.declared.values.Aggregator.{Aggregator}

-- a segment of an AS_PATH: a set or a sequence of AS numbers (section 4.3; RFC 6793)
pub data PathSegment : Type 0 where
  AsSet : List ℕ → PathSegment
  AsSequence : List ℕ → PathSegment

-- COMMUNITIES (RFC 1997): the values in the order received, and whether the Partial bit was set
pub record CommunityList : Type 0 where
  pub partial : Bool
  pub values : List ℕ

-- an unrecognized optional transitive attribute: its type and the octets of its value (RFC 4271, section 5)
pub record PassedOn : Type 0 where
  pub kind : ℕ
  pub value : List ℕ

-- the path attributes that a route keeps: ORIGIN, AS_PATH, NEXT_HOP, MED, ATOMIC_AGGREGATE, AGGREGATOR, COMMUNITIES
-- and others
pub record PathAttributes : Type 0 where
  pub origin : Origin
  pub path : List PathSegment
  pub next_hop : ℕ
  pub med : Option ℕ
  pub atomic : Bool
  pub aggregator : Option Aggregator
  pub communities : Option CommunityList
  pub others : List PassedOn
