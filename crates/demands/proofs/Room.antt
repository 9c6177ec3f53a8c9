-- The room for replies, from the laws of the hunt and of the empty input.
use Prim.Native.Nat.{ℕ, ◌+◌, ◌≤◌}
use mathlib.Core.List.{List}
use native.Mathlib.Omega.{arith}
use lib.ListN.{length}
use Rattle.wire.specs.Numbers.{Bytes}
use Rattle.record.specs.Layout.{record_of}
use Rattle.record.proofs.RoundTrip.{in-range}
use Rattle.command.specs.Hunt.{room_for}
use Rattle.command.proofs.Room.{room-enough, most-room}
use Rattle.call.specs.Reasons.{NoReason}
use Rattle.call.specs.Calls.{bytes_call}
use Rattle.call.proofs.Empty.{empty-input, idle_room}
use Rattle.demands.specs.CallList.{BytesIn, bytes_reasons}
use Rattle.demands.specs.Room.{Room}
use Rattle.demands.proofs.Tests.{well}
use Rattle.demands.proofs.BytesLaws.{bytes-done}
use Rattle.demands.proofs.EndsProperly.{ends-properly}

-- what a call writes that nothing stops
fits : (s input o : List ℕ) → Bytes s → Bytes input → NoReason (bytes_reasons s input o) → (bytes_call s input o).answer.written ≤ room_for (length (record_of s).pending + length input)
fits s input o b g n = rw (bytes-done s input o n) (room-enough (record_of s) input g (in-range s b (well s n.0)))

pub room : Room
room = record {
  most = most-room;
  replies_fit = λ s input o b g e. fits s input o b g ((ends-properly.ends (record { name = BytesIn; lent = record { input = input; output = o } }) s).done_exactly.0 e);
  idle_room = idle_room;
  idle = λ s o b n. empty-input s o b (well s n.0) (omega (arith, n.1.1.0));
}
