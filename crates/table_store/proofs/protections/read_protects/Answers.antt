use Rattle.std.proofs.Common.{sym}
use denote.Enum.Bare.{differs_true}
use Rattle.db_records.specs.contracts.table.TableId.{the_type}
use Rattle.table_store.proofs.OtherTables.{none_told}
use Rattle.table_store.proofs.protections.read_protects.Goals as goal

pub returns-then-ne : goal.returns-then-ne
returns-then-ne c = none_told c.args.table (differs_true the_type _ _ (sym c.if-ne.ensures)) c.args.rows c.requires c.empty.result c.empty.ensures
