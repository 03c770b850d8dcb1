-- What the standards say of a message, from its header to its attributes:
pub mod Header  -- its Marker, Length and Type
pub mod Message  -- a message, and its first fault
pub mod Fault  -- faults by error code and subcode
pub mod Handling  -- what RFC 7606 does at each fault
pub mod Treating  -- a message by RFC 4271 or by RFC 7606
pub mod Concerns  -- the messages that may concern a prefix
pub mod Laws  -- what holds of all of these
-- What the bodies keep:
pub mod Found  -- what was found in a section, by type
-- What the contracts name of the crate below:
pub use Rattle.rs_types.specs.AsPath
pub use Rattle.rs_types.specs.AttributeType
pub use Rattle.rs_types.specs.AttributesView
pub use Rattle.rs_types.specs.Community
pub use Rattle.rs_types.specs.Covering
pub use Rattle.rs_types.specs.FirstFault
pub use Rattle.rs_types.specs.Gathered
pub use Rattle.rs_types.specs.IpPrefix
pub use Rattle.rs_types.specs.Items
pub use Rattle.rs_types.specs.Numbers
pub use Rattle.rs_types.specs.OriginOrder
pub use Rattle.rs_types.specs.Parts
pub use Rattle.rs_types.specs.PathAttributes
pub use Rattle.rs_types.specs.PathSegments
pub use Rattle.rs_types.specs.Prefix
pub use Rattle.rs_types.specs.PrefixOrder
pub use Rattle.rs_types.specs.Section
pub use Rattle.rs_types.specs.Segments
pub use Rattle.rs_types.specs.Shapes
pub use Rattle.rs_types.specs.Spelling
