-- Messages by hand, each with what it says.
use Rattle.std.proofs.Common.{◌≡◌, List, ℕ, [], ◌∷◌, ◌++◌, map, replicate, Result, Some, None, false, Ok, Err, refl}
use Rattle.rs_update.specs.declared.fault.MessageFault.{MessageFault}
use Rattle.rs_update.specs.declared.fault.MessageFault.TheVariants.{Bgp}
use Rattle.rs_types.specs.declared.values.Origin.TheVariants.{Igp}
use Rattle.rs_types.specs.PathAttributes.{PathAttributes, AsSequence}
use Rattle.rs_update.specs.Message.{MessageContent, IsUpdate, IsKeepAlive, update_of, message_of}
use Rattle.rs_types.specs.Parts.{parts_within}
use Rattle.rs_types.specs.Section.{item_at, first_item_fault}
use Rattle.rs_types.specs.Gathered.{attributes_of, others_of}
use Rattle.rs_types.specs.PathSegments.{segment_at}
use Rattle.rs_types.specs.Numbers.{numbers_at}
use Rattle.rs_types.specs.Prefix.{prefix_at}
use Rattle.rs_update.proofs.section.SectionExamples.{mandatory}

abbrev marker : List ℕ
marker = replicate 16 0xFF

-- what the mandatory attributes say
abbrev said : PathAttributes
said = record {
  origin = Igp;
  path = AsSequence (64501 ∷ []) ∷ [];
  next_hop = 3221225995;
  med = None;
  atomic = false;
  aggregator = None;
  communities = None;
  others = [];
}

abbrev messages : List (List ℕ × Result MessageContent MessageFault)
messages = (
  marker ++ 0x00 ∷ 0x2F ∷ 0x02 ∷ 0x00 ∷ 0x00 ∷ 0x00 ∷ 0x14 ∷ (mandatory ++ 0x18 ∷ 0xCB ∷ 0x00 ∷ 0x71 ∷ []),
  Ok (IsUpdate (record { withdrawn = []; attributes = Some said; nlri = record { address = 3405803776; len = 24 } ∷ [] })),
)
    ∷ (marker ++ 0x00 ∷ 0x13 ∷ 0x04 ∷ [], Ok IsKeepAlive)
    ∷ (marker ++ 0x00 ∷ 0x1B ∷ 0x02 ∷ 0x00 ∷ 0x00 ∷ 0x00 ∷ 0x05 ∷ 0x40 ∷ 0x01 ∷ 0x01 ∷ 0x00 ∷ [], Err (Bgp 3 1))  -- lengths past the end
    ∷ (
      marker ++ 0x00 ∷ 0x1B ∷ 0x02 ∷ 0x00 ∷ 0x00 ∷ 0x00 ∷ 0x04 ∷ 0x40 ∷ 0x01 ∷ 0x01 ∷ 0x00 ∷ [],
      Ok (IsUpdate (record { withdrawn = []; attributes = None; nlri = [] })),
    )
    ∷ (marker ++ 0x00 ∷ 0x1F ∷ 0x02 ∷ 0x00 ∷ 0x00 ∷ 0x00 ∷ 0x08 ∷ 0x40 ∷ 0x63 ∷ 0x01 ∷ 0x00 ∷ 0x40 ∷ 0x01 ∷ 0x01 ∷ 0x03 ∷ [], Err (Bgp 3 2))
    -- an unknown well-known attribute before an unknown origin
    ∷ (marker ++ 0x00 ∷ 0x1C ∷ 0x02 ∷ 0x00 ∷ 0x01 ∷ 0x21 ∷ 0x00 ∷ 0x04 ∷ 0x40 ∷ 0x01 ∷ 0x01 ∷ 0x03 ∷ [], Err (Bgp 3 6))
    -- attributes before withdrawn routes
    ∷ (marker ++ 0x00 ∷ 0x18 ∷ 0x02 ∷ 0x00 ∷ 0x01 ∷ 0x21 ∷ 0x00 ∷ 0x00 ∷ [], Err (Bgp 3 10))  -- withdrawn routes at fault
    ∷ (marker ++ 0x00 ∷ 0x1F ∷ 0x02 ∷ 0x00 ∷ 0x00 ∷ 0x00 ∷ 0x04 ∷ 0x40 ∷ 0x01 ∷ 0x01 ∷ 0x00 ∷ 0x18 ∷ 0xCB ∷ 0x00 ∷ 0x71 ∷ [], Err (Bgp 3 3))
    -- a mandatory attribute misses
    ∷ (marker ++ 0x00 ∷ 0x1F ∷ 0x02 ∷ 0x00 ∷ 0x00 ∷ 0x00 ∷ 0x08 ∷ 0x40 ∷ 0x01 ∷ 0x01 ∷ 0x00 ∷ 0x40 ∷ 0x01 ∷ 0x01 ∷ 0x03 ∷ [], Err (Bgp 3 1))
    -- a type stood earlier
    ∷ (0x00 ∷ (replicate 15 0xFF ++ 0x00 ∷ 0x13 ∷ 0x04 ∷ []), Err (Bgp 1 1))  -- not synchronized
    ∷ (marker ++ 0x00 ∷ 0x14 ∷ 0x04 ∷ 0x00 ∷ [], Err (Bgp 1 2))  -- a longer KEEPALIVE
    ∷ (marker ++ 0x00 ∷ 0x13 ∷ 0x06 ∷ [], Err (Bgp 1 3))  -- of type 6
    ∷ (marker ++ 0x00 ∷ 0x30 ∷ 0x02 ∷ 0x00 ∷ 0x00 ∷ 0x00 ∷ 0x14 ∷ (mandatory ++ 0x18 ∷ 0xCB ∷ 0x00 ∷ 0x71 ∷ []), Err (Bgp 1 2))
    -- Length past the end
    ∷ ([], Err (Bgp 1 2))
    ∷ []

pub what_messages_say : map (λ row. message_of row.0) messages ≡ map (λ row. row.1) messages
unfolding message_of update_of parts_within item_at first_item_fault attributes_of others_of segment_at numbers_at prefix_at
what_messages_say = refl
