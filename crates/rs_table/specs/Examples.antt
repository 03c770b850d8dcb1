-- Examples of the definitions, computed.
use Rattle.std.specs.Prelude.{◌≡◌, ℕ, false, List, [], ◌∷◌, Option, Some, None}
use Rattle.std.specs.FinMap.{get}
use Rattle.std.specs.Option.{option_map}
use Rattle.rs_types.specs.declared.values.Origin.TheVariants.{Igp}
use Rattle.rs_types.specs.IpPrefix.{IpPrefix}
use Rattle.rs_types.specs.PathAttributes.{PathAttributes, AsSequence, CommunityList}
use Rattle.rs_change.specs.declared.word.Reason.TheVariants.{EndOfFile, Bgp}
use Rattle.rs_change.specs.Change.{Change, Announced, Withdrawn, Lost, Closed}
use Rattle.rs_choice.specs.Import.{no_import}
use Rattle.rs_choice.specs.Plan.{Peer, Plan}
use Rattle.rs_table.specs.declared.why.Why.TheVariants.{Own, Absent, Ineligible, Refused, Best, Lost}
use Rattle.rs_table.specs.Content.{RibContent, TablesContent}
use Rattle.rs_table.specs.Left.{RouteLeft, Leaves, left}
use Rattle.rs_table.specs.Table.{best_of, why_of}

-- 10.0.0.0/8, 10.0.0.0/16 and 203.0.113.0/24
abbrev pub ten : IpPrefix
ten = record { address = 167772160; len = 8 }

abbrev pub ten_long : IpPrefix
ten_long = record { address = 167772160; len = 16 }

abbrev pub documentation : IpPrefix
documentation = record { address = 3405803776; len = 24 }

abbrev pub announced : ℕ → IpPrefix → PathAttributes → Change
announced time prefix attributes = record { time = time; body = Announced prefix attributes }

abbrev pub withdrawn : ℕ → IpPrefix → Change
withdrawn time prefix = record { time = time; body = Withdrawn prefix }

abbrev pub lost : Change
lost = record { time = 103; body = Lost }

abbrev pub ended : Change
ended = record { time = 0; body = Closed EndOfFile }

abbrev pub at_fault : Change
at_fault = record { time = 104; body = Closed (Bgp 3 6) }

-- the route that changes leave on 10.0.0.0/8
abbrev pub left_on_ten : List Change → Option RouteLeft
left_on_ten changes = get (left changes) ten

pub record LeftExamples : Type 0 where
  pub nothing : left_on_ten [] ≡ None
  pub one : (a : PathAttributes) → left_on_ten (announced 100 ten a ∷ []) ≡ Some (record { time = 100; attributes = a })
  pub replaced : (a b : PathAttributes)
      → left_on_ten (announced 100 ten a ∷ announced 101 ten b ∷ []) ≡ Some (record { time = 101; attributes = b })
  pub removed : (a : PathAttributes) → left_on_ten (announced 100 ten a ∷ withdrawn 101 ten ∷ []) ≡ None
  pub again : (a b : PathAttributes)
      → left_on_ten (announced 100 ten a ∷ withdrawn 101 ten ∷ announced 102 ten b ∷ [])
      ≡ Some (record { time = 102; attributes = b })
  pub of_another_length : (a : PathAttributes)
      → left_on_ten (announced 100 ten a ∷ withdrawn 101 ten_long ∷ []) ≡ Some (record { time = 100; attributes = a })
  pub of_another_prefix : (a : PathAttributes) → left_on_ten (announced 100 documentation a ∷ []) ≡ None
  pub at_the_end : (a : PathAttributes)
      → left_on_ten (announced 100 ten a ∷ ended ∷ []) ≡ Some (record { time = 100; attributes = a })
  pub after_a_fault : (a : PathAttributes) → left_on_ten (announced 100 ten a ∷ at_fault ∷ []) ≡ None
  pub after_a_loss : (a : PathAttributes) → left_on_ten (announced 100 ten a ∷ lost ∷ []) ≡ None
  pub since_a_loss : (a b : PathAttributes)
      → left_on_ten (announced 100 ten a ∷ lost ∷ announced 104 ten b ∷ ended ∷ [])
      ≡ Some (record { time = 104; attributes = b })
  pub not_where_another_came_back : (a b : PathAttributes)
      → left_on_ten (announced 100 ten a ∷ lost ∷ announced 104 documentation b ∷ []) ≡ None
  pub by_its_last_place : (a : PathAttributes)
      → Leaves (announced 100 ten a ∷ ended ∷ []) ten (record { time = 100; attributes = a })
  pub not_by_an_earlier_place : (a : PathAttributes)
      → Leaves (announced 100 ten a ∷ withdrawn 101 ten ∷ []) ten (record { time = 100; attributes = a }) → ⊥
  pub not_before_a_loss : (a : PathAttributes)
      → Leaves (announced 100 ten a ∷ lost ∷ []) ten (record { time = 100; attributes = a }) → ⊥
  pub not_after_a_fault : (a : PathAttributes)
      → Leaves (announced 100 ten a ∷ at_fault ∷ []) ten (record { time = 100; attributes = a }) → ⊥

-- the exchange of AS 64500 at 192.0.2.1 in 192.0.2.0/24; its peers have AS 64501 and on, at 192.0.2.11 and on
abbrev pub peer_at : ℕ → ℕ → Peer
peer_at asn address =
    record { name = []; asn = asn; address = address; id = address; preference = 100; refuse_from = [] }

abbrev pub four_peers : Plan
four_peers = record {
  local =
      record {
        asn = 64500;
        address = 3221225985;
        id = 3221225985;
        subnet = Some (record { address = 3221225984; len = 24 });
      };
  peers =
      peer_at 64501 3221225995 ∷ peer_at 64502 3221225996 ∷ peer_at 64503 3221225997 ∷ peer_at 64504 3221225998 ∷ [];
  large_communities = false;
  import = no_import;
}

-- attributes with this path, NEXT_HOP 192.0.2.11 and these communities
abbrev pub attributes_of : List ℕ → Option CommunityList → PathAttributes
attributes_of path communities = record {
  origin = Igp;
  path = AsSequence path ∷ [];
  next_hop = 3221225995;
  med = None;
  atomic = false;
  aggregator = None;
  communities = communities;
  others = [];
}

abbrev pub after_changes : List Change → RibContent
after_changes changes = record { routes = left changes; closed = false }

-- the first peer's route is refused to the second peer by the community (0, 64502); the third peer's path is longer
abbrev pub hidden : TablesContent
hidden = record {
  plan = four_peers;
  ribs =
      after_changes (announced 100 documentation
      (attributes_of (64501 ∷ []) (Some (record { partial = false; values = 64502 ∷ [] }))) ∷ [])
      ∷ after_changes []
      ∷ after_changes (announced 101 documentation (attributes_of (64503 ∷ 65010 ∷ []) None) ∷ [])
      ∷ after_changes [] ∷ [];
}

-- the second route of the first peer has the server's AS in its path
abbrev pub ineligible : TablesContent
ineligible = record {
  plan = four_peers;
  ribs =
      after_changes (announced 100 documentation (attributes_of (64501 ∷ []) None)
      ∷ announced 101 documentation (attributes_of (64501 ∷ 64500 ∷ []) None) ∷ [])
      ∷ after_changes [] ∷ after_changes [] ∷ after_changes [] ∷ [];
}

-- the peer whose route a client gets
abbrev pub winner : TablesContent → ℕ → Option ℕ
winner tables client = option_map (λ route. route.peer) (best_of tables client documentation)

pub record TableExamples : Type 0 where
  pub others_route : winner hidden 0 ≡ Some 2
  pub not_hidden : winner hidden 1 ≡ Some 2
  pub never_its_own : winner hidden 2 ≡ Some 0
  pub shorter_path : winner hidden 3 ≡ Some 0
  pub unknown_client : winner hidden 4 ≡ None
  pub own : why_of hidden 0 0 documentation ≡ Own
  pub absent : why_of hidden 0 1 documentation ≡ Absent
  pub refused : why_of hidden 1 0 documentation ≡ Refused
  pub best : why_of hidden 3 0 documentation ≡ Best
  pub lost : why_of hidden 3 2 documentation ≡ Lost
  pub no_older_route : winner ineligible 1 ≡ None
  pub not_eligible : why_of ineligible 1 0 documentation ≡ Ineligible
