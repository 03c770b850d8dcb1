use Rattle.std.proofs.Common.{subst, sym}
use Rattle.rs_table.specs.Table.{IsTable, table_of}
use Rattle.rs_table.proofs.listing.TableLemmas.{table_of-IsTable, same_tables}
use Rattle.rs_table.proofs.laws.table_is_computed.Goals as goal

pub returns : goal.returns
returns c = λ tables client rows. (
  λ is. same_tables tables client rows (table_of tables client) is (table_of-IsTable tables client),
  λ same. subst (IsTable tables client) (sym same) (table_of-IsTable tables client),
)
