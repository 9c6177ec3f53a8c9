-- The contracts of the calls as C has them: each asks nothing and says what the call of that name in `board` says.
use mathlib.Core.Path.{refl}
use mathlib.Core.List.{[]}
use Rattle.call.specs.Outcome.{Outcome, Allows}
use Rattle.call.proofs.InOrder.{allowed-is}
use Rattle.call.proofs.ReadEnds.{read-allowed-is}
use Rattle.call.specs.Calls.{factory_call, power_on_call, bytes_call, samples_call}
use Rattle.call.specs.Read.{ReadOutcome, read_call, ReadAllows}
use Rattle.board.proofs.Exported.{Exported, exported}
use Rattle.board_c.proofs.board_factory.Reads as factory
use Rattle.board_c.proofs.board_factory.Kinds as factory-kinds
use Rattle.board_c.proofs.board_power_on.Reads as power-on
use Rattle.board_c.proofs.board_power_on.Kinds as power-on-kinds
use Rattle.board_c.proofs.board_bytes.Reads as bytes
use Rattle.board_c.proofs.board_bytes.Kinds as bytes-kinds
use Rattle.board_c.proofs.board_samples.Reads as samples
use Rattle.board_c.proofs.board_samples.Kinds as samples-kinds
use Rattle.board_c.proofs.board_read.Reads as read
use Rattle.board_c.proofs.board_read.Kinds as read-kinds

-- κs are lifetimes and play no part; a is what the call is lent, r its result, s the buffers when it ends. `.0`, `.1 .0` and `.1 .1 .0` are the first, second and third of them: record, input, output.
pub record AllAsC : Type 1 where
  pub factory : Exported factory-kinds.ps factory-kinds.r Outcome Allows factory.Pre factory.Post (λ κs a. factory_call a.0.now) (λ κs r s. record { answer = r; kept = s.0.now; output = [] })
  pub power-on : Exported power-on-kinds.ps power-on-kinds.r Outcome Allows power-on.Pre power-on.Post (λ κs a. power_on_call a.0.now) (λ κs r s. record { answer = r; kept = s.0.now; output = [] })
  pub bytes : Exported bytes-kinds.ps bytes-kinds.r Outcome Allows bytes.Pre bytes.Post (λ κs a. bytes_call a.0.now a.1.0.now a.1.1.0.now) (λ κs r s. record { answer = r; kept = s.0.now; output = s.1.1.0.now })
  pub samples : Exported samples-kinds.ps samples-kinds.r Outcome Allows samples.Pre samples.Post (λ κs a. samples_call a.0.now a.1.0.now a.1.1.0.now) (λ κs r s. record { answer = r; kept = s.0.now; output = s.1.1.0.now })
  -- without a record: the first is the capture, the second the list
  pub read : Exported read-kinds.ps read-kinds.r ReadOutcome ReadAllows read.Pre read.Post (λ κs a. read_call a.0.now a.1.0.now) (λ κs r s. record { answer = r; list = s.1.0.now })

pub all-as-c : AllAsC
all-as-c = record {
  factory = exported factory-kinds.ps factory-kinds.r Outcome Allows allowed-is factory.Pre factory.Post _ _ (λ κs a. tt) (λ κs a r s. refl);
  power-on = exported power-on-kinds.ps power-on-kinds.r Outcome Allows allowed-is power-on.Pre power-on.Post _ _ (λ κs a. tt) (λ κs a r s. refl);
  bytes = exported bytes-kinds.ps bytes-kinds.r Outcome Allows allowed-is bytes.Pre bytes.Post _ _ (λ κs a. tt) (λ κs a r s. refl);
  samples = exported samples-kinds.ps samples-kinds.r Outcome Allows allowed-is samples.Pre samples.Post _ _ (λ κs a. tt) (λ κs a r s. refl);
  read = exported read-kinds.ps read-kinds.r ReadOutcome ReadAllows read-allowed-is read.Pre read.Post _ _ (λ κs a. tt) (λ κs a r s. refl);
}
