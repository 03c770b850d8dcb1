-- What the standards say of prefixes, and of the path attributes of a route:
pub mod IpPrefix  -- an address prefix
pub mod Prefix  -- the fields that list prefixes
pub mod PrefixOrder  -- prefixes by address, then by length
pub mod Covering  -- the prefixes that cover one
pub mod OriginOrder  -- origins by their codes
pub mod Section  -- a section of path attributes, and its first fault
pub mod AttributeType  -- a row for each type of attribute
pub mod FirstFault  -- the first fault that tests find
pub mod PathAttributes  -- the attributes of a route
pub mod AsPath  -- the length of AS_PATH, its neighbour AS, its members
pub mod Community  -- communities by their halves
pub mod Spelling  -- the written form of attributes
-- What recordings and lists name:
pub mod Peer  -- a peer as records name it
-- How octets are taken apart:
pub mod Numbers  -- numbers of four octets
pub mod Parts  -- parts one after another
pub mod Items  -- attributes where they stand
pub mod Segments  -- segments of AS_PATH where they stand
pub mod PathSegments  -- segments by their values
pub mod Shapes  -- attributes by their values, where they stand
-- What the bodies keep:
pub mod Gathered  -- the attributes that a section gives
pub mod AttributesView  -- attributes by their written form
