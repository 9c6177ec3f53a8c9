-- `next_aa`: the scan stops at the next AA or at the end.
use Rattle.wire.specs.Serial.{Noise}
use Prim.Native.Nat.{◌-◌, ◌≤◌}
use Rattle.finder.proofs.next_aa.Given as goal

abbrev pub invariant-loop-at : goal.invariant-loop-at
invariant-loop-at l = Noise l.s l.from l.at × (l.at ≤ l.until)

abbrev pub decreases-loop-at : goal.decreases-loop-at
decreases-loop-at l = l.until - l.at
