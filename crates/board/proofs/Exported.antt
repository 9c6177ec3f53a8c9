-- The contracts of the calls as they are made from the source: to be read beside the theorems.
use Prim.Native.Nat.{ℕ}
use mathlib.Core.Path.{◌≡◌, refl, sym, ◌∙◌, subst}
use mathlib.Core.List.{List, []}
use contract.Lifetimes.{Lfts}
use denote.Triple.Clauses.{AtExit}
use borrow.Fn.Kinds.{ParamKind, ResultKind, In, Out, Dens, res_t, ended_of}
use Rattle.call.specs.Outcome.{Outcome, Allows}
use Rattle.call.proofs.InOrder.{allowed-is}
use Rattle.call.proofs.ReadEnds.{read-allowed-is}
use Rattle.call.specs.Calls.{factory_call, power_on_call, bytes_call, samples_call}
use Rattle.call.specs.Read.{ReadOutcome, read_call, ReadAllows}
use Rattle.board.proofs.board_factory.Reads as factory
use Rattle.board.proofs.board_factory.Kinds as factory-kinds
use Rattle.board.proofs.board_power_on.Reads as power-on
use Rattle.board.proofs.board_power_on.Kinds as power-on-kinds
use Rattle.board.proofs.board_bytes.Reads as bytes
use Rattle.board.proofs.board_bytes.Kinds as bytes-kinds
use Rattle.board.proofs.board_samples.Reads as samples
use Rattle.board.proofs.board_samples.Kinds as samples-kinds
use Rattle.board.proofs.board_read.Reads as read
use Rattle.board.proofs.board_read.Kinds as read-kinds

-- a contract over n lifetimes, the parameters ps and the result q, of a call that leaves a Z; `outcome` is what it is to leave, `seen` what its caller finds, `Allowed` how the contract says so
module _ {n : ℕ} (ps : List (ParamKind n)) (q : ResultKind n) (Z : Type 0) (Allowed : Z → Z → Type 0) where
  pub record Exported (pre : In n ps) (post : Out n ps q) (outcome : (κs : Lfts n) → Dens κs ps → Z) (seen : (κs : Lfts n) → (res_t q κs).Denot → AtExit (ended_of n ps q) κs → Z) : Type 1 where
    -- It asks nothing of its caller.
    pub asks_nothing : (κs : Lfts n) (a : Dens κs ps) → pre κs a
    -- It says that the call left exactly its outcome.
    pub says : (κs : Lfts n) (a : Dens κs ps) (r : (res_t q κs).Denot) (s : AtExit (ended_of n ps q) κs) → post κs a r s ≡ Allowed (outcome κs a) (seen κs r s)
    -- So two ends that it allows for the same arguments are one outcome.
    pub one : (κs : Lfts n) (a : Dens κs ps) (r u : (res_t q κs).Denot) (s v : AtExit (ended_of n ps q) κs) → post κs a r s → post κs a u v → seen κs r s ≡ seen κs u v

-- κs are lifetimes and play no part; a is what the call is lent, r its result, s the buffers when it ends. `.0`, `.1 .0` and `.1 .1 .0` are the first, second and third of them: record, input, output.
pub record AllExported : Type 1 where
  pub factory : Exported factory-kinds.ps factory-kinds.r Outcome Allows factory.Pre factory.Post (λ κs a. factory_call a.0.now) (λ κs r s. record { answer = r; kept = s.0.now; output = [] })
  pub power-on : Exported power-on-kinds.ps power-on-kinds.r Outcome Allows power-on.Pre power-on.Post (λ κs a. power_on_call a.0.now) (λ κs r s. record { answer = r; kept = s.0.now; output = [] })
  pub bytes : Exported bytes-kinds.ps bytes-kinds.r Outcome Allows bytes.Pre bytes.Post (λ κs a. bytes_call a.0.now a.1.0.now a.1.1.0.now) (λ κs r s. record { answer = r; kept = s.0.now; output = s.1.1.0.now })
  pub samples : Exported samples-kinds.ps samples-kinds.r Outcome Allows samples.Pre samples.Post (λ κs a. samples_call a.0.now a.1.0.now a.1.1.0.now) (λ κs r s. record { answer = r; kept = s.0.now; output = s.1.1.0.now })
  -- without a record: the first is the capture, the second the list
  pub read : Exported read-kinds.ps read-kinds.r ReadOutcome ReadAllows read.Pre read.Post (λ κs a. read_call a.0.now a.1.0.now) (λ κs r s. record { answer = r; list = s.1.0.now })

-- ---- the proof

module _ {n : ℕ} (ps : List (ParamKind n)) (q : ResultKind n) (Z : Type 0) (Allowed : Z → Z → Type 0) (allowed : (z x : Z) → Allowed z x → x ≡ z) where
  left : {A : Type 0} (z x : Z) → A ≡ Allowed z x → A → x ≡ z
  left z x e p = allowed z x (subst (λ B. B) e p)

  pub exported : (pre : In n ps) (post : Out n ps q) (outcome : (κs : Lfts n) → Dens κs ps → Z) (seen : (κs : Lfts n) → (res_t q κs).Denot → AtExit (ended_of n ps q) κs → Z)
      → ((κs : Lfts n) (a : Dens κs ps) → pre κs a)
      → ((κs : Lfts n) (a : Dens κs ps) (r : (res_t q κs).Denot) (s : AtExit (ended_of n ps q) κs) → post κs a r s ≡ Allowed (outcome κs a) (seen κs r s))
      → Exported ps q Z Allowed pre post outcome seen
  exported pre post outcome seen asks says = record {
    asks_nothing = asks;
    says = says;
    one = λ κs a r u s v p w. left (outcome κs a) (seen κs r s) (says κs a r s) p ∙ sym (left (outcome κs a) (seen κs u v) (says κs a u v) w);
  }

pub all-exported : AllExported
all-exported = record {
  factory = exported factory-kinds.ps factory-kinds.r Outcome Allows allowed-is factory.Pre factory.Post _ _ (λ κs a. tt) (λ κs a r s. refl);
  power-on = exported power-on-kinds.ps power-on-kinds.r Outcome Allows allowed-is power-on.Pre power-on.Post _ _ (λ κs a. tt) (λ κs a r s. refl);
  bytes = exported bytes-kinds.ps bytes-kinds.r Outcome Allows allowed-is bytes.Pre bytes.Post _ _ (λ κs a. tt) (λ κs a r s. refl);
  samples = exported samples-kinds.ps samples-kinds.r Outcome Allows allowed-is samples.Pre samples.Post _ _ (λ κs a. tt) (λ κs a r s. refl);
  read = exported read-kinds.ps read-kinds.r ReadOutcome ReadAllows read-allowed-is read.Pre read.Post _ _ (λ κs a. tt) (λ κs a r s. refl);
}
