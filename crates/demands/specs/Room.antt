-- Demand 1: the room that a bytes call asks for, and what it does without input.
use Rattle.std.specs.Prelude.{ℕ, ◌+◌, ◌≤◌, ◌≡◌, List, [], length}
use Rattle.wire.specs.Numbers.{Bytes}
use Rattle.record.specs.Layout.{record_of}
use Rattle.command.specs.Hunt.{room_for}
use Rattle.call.specs.Outcome.{counts}
use Rattle.call.specs.Reasons.{NoReason}
use Rattle.call.specs.Calls.{bytes_call}
use Rattle.demands.specs.CallList.{bytes_reasons}

pub record Room : Type 0 where
  -- "So 4,096 bytes with 18 pending need 19,532 bytes of room."
  pub most : room_for (18 + 4096) ≡ 19532
  -- The replies of a call that is done fit into the room asked for.
  pub replies_fit : (s input o : List ℕ) → Bytes s → Bytes input → (bytes_call s input o).answer.result ≡ 0 → (bytes_call s input o).answer.written ≤ room_for (length (record_of s).pending + length input)
  -- "An empty input that passes these checks (76 bytes of room with 18 pending) is done with zero counts.": record and output stay as they were
  pub idle_room : room_for 18 ≡ 76
  pub idle : (s o : List ℕ) → Bytes s → NoReason (bytes_reasons s [] o) → bytes_call s [] o ≡ record { answer = counts 0 0; kept = s; output = o }
