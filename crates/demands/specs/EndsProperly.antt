-- Demand 1: every call over a record ends properly, on all inputs.
use Rattle.std.specs.Prelude.{ℕ, ◌≡◌, List, length}
use Rattle.wire.specs.Numbers.{Bytes}
use Rattle.call.specs.declared.CallRefusal.TheVariants.{BadRecord, BadLength, NoRoom, NotFinite}
use Rattle.call.specs.Outcome.{result_of, Outcome}
use Rattle.call.specs.Reasons.{Ends}
use Rattle.demands.specs.CallList.{Malformed, Made, call_of, outcome_of}

-- Whatever a call answers, the buffers are as long as they were; when it is done, the record is well formed (when it refuses, it is as it was: `ends`).
pub record Unharmed (s o : List ℕ) (z : Outcome) : Type 0 where
  pub record_length : length z.kept ≡ length s
  pub output_length : length z.output ≡ length o
  pub well-formed : z.answer.result ≡ 0 → ¬ Malformed z.kept

pub record EndsProperly : Type 0 where
  -- The numbers of the table of call results.
  pub numbers : ((place : ℕ) → result_of (BadRecord place) ≡ 1) × (result_of BadLength ≡ 2) × (result_of NoRoom ≡ 3) × (result_of NotFinite ≡ 4)
  -- The first reason that applies gives its number and its place, zero counts, and record and output as they were; the result is 0 exactly when none applies.
  pub ends : (m : Made) (s : List ℕ) → let c = call_of m.name in Ends (c.reasons m.lent s) s (c.output m.lent) (outcome_of m s)
  pub unharmed : (m : Made) (s : List ℕ) → let c = call_of m.name in Bytes s → c.OfBytes m.lent → Unharmed s (c.output m.lent) (outcome_of m s)
