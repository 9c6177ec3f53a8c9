-- The whole claim on one page: what each field says stands in the module that it comes from.
use Rattle.board.proofs.Exported.{AllExported}
use Rattle.demands.specs.Unique.{Unique}
use Rattle.demands.specs.EndsProperly.{EndsProperly}
use Rattle.demands.specs.Faults.{SaysWhere}
use Rattle.demands.specs.Room.{Room}
use Rattle.demands.specs.Stored.{Stored}
use Rattle.demands.specs.AsListed.{AnswersAsListed}
use Rattle.demands.specs.OneTable.{OneTable}
use Rattle.demands.specs.Boards.{WrongShutOut, KindsExist}
use Rattle.demands.specs.Examples.{starred, ExamplesHold}
use Rattle.demands.specs.Reader.{ReaderEnds, ReadsAsListed}
use Rattle.demands.specs.ReadBack.{ReadBack, SomethingSaid}
use Rattle.demands.specs.Premise.{ComparedExactly}
use Rattle.demands.specs.Secrecy.{OneCall, NothingTold, NothingToldUsedUp, PremiseMet, PremiseNeeded}

pub record Claim : Type 1 where
  -- the contracts as they are made from the source, and that each allows one outcome
  pub exported : AllExported
  pub unique : Unique
  -- 1: every call ends properly, and says where a record is bad
  pub ends : EndsProperly
  pub says_where : SaysWhere
  pub room : Room
  -- 2: the board answers as the tables say
  pub stored : Stored
  pub answers : AnswersAsListed
  pub table : OneTable
  pub shut_out : WrongShutOut
  pub kinds : KindsExist
  pub examples : ExamplesHold starred
  -- 3: nothing is told of the code
  pub compared : ComparedExactly
  pub one_call : OneCall
  pub nothing_told : NothingTold
  pub used_up : NothingToldUsedUp
  pub premise_met : PremiseMet
  pub premise_needed : PremiseNeeded
  -- the reader: it ends properly, reads as the page says, and reads back what a board means; it has no record, so 3 does not speak of it
  pub reader_ends : ReaderEnds
  pub reads : ReadsAsListed
  pub read_back : ReadBack
  pub something_said : SomethingSaid
