-- A table of a configuration, as contracts see it.
use Rattle.toml.specs.Data.{Members}
use Rattle.toml.specs.View.{table_view}
use Rattle.rs_setup.specs.declared.keys.Section.{Section}

-- the keys of a table and their values
abbrev pub members_in : Section → Members
members_in section = table_view section.table.now
