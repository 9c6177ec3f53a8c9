-- The whole claim, each part from its proof.
use Rattle.board.proofs.Exported.{all-exported}
use Rattle.claim.specs.Claim.{Claim}
use Rattle.demands.proofs.Unique.{unique}
use Rattle.demands.proofs.EndsProperly.{ends-properly}
use Rattle.demands.proofs.Faults.{says_where}
use Rattle.demands.proofs.Room.{room}
use Rattle.demands.proofs.Stored.{stored}
use Rattle.demands.proofs.AsListed.{answers-as-listed}
use Rattle.demands.proofs.OneTable.{one_table}
use Rattle.demands.proofs.Boards.{wrong-shut-out, kinds-exist}
use Rattle.demands.proofs.Examples.{starred-hold}
use Rattle.demands.proofs.Reader.{reader_ends, reads-as-listed}
use Rattle.demands.proofs.ReadBack.{read_back, something_said}
use Rattle.demands.proofs.Secrecy.{compared, one_call, nothing_told, nothing-told-used-up, premise_met, premise_needed}

pub claim : Claim
claim = record {
  exported = all-exported;
  unique = unique;
  ends = ends-properly;
  says_where = says_where;
  room = room;
  stored = stored;
  answers = answers-as-listed;
  table = one_table;
  shut_out = wrong-shut-out;
  kinds = kinds-exist;
  examples = starred-hold;
  compared = compared;
  one_call = one_call;
  nothing_told = nothing_told;
  used_up = nothing-told-used-up;
  premise_met = premise_met;
  premise_needed = premise_needed;
  reader_ends = reader_ends;
  reads = reads-as-listed;
  read_back = read_back;
  something_said = something_said;
}
