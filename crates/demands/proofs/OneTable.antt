-- The table says what the rows say.
use Rattle.command.proofs.EntryLaws.{table-long, table-says, entry-says}
use Rattle.demands.specs.OneTable.{OneTable}

pub one_table : OneTable
one_table = record { size = table-long; says = table-says; found = entry-says }
