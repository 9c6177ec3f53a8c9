-- `leap`: none of the bytes that are leapt over is AA.
use Rattle.wire.specs.Serial.{Noise}
use Prim.Native.Nat.{◌-◌, ◌≤◌}
use Rattle.finder.proofs.leap.Given as goal

abbrev pub invariant-loop-at : goal.invariant-loop-at
invariant-loop-at l = Noise l.s l.from l.at × (l.at ≤ l.until)

abbrev pub decreases-loop-at : goal.decreases-loop-at
decreases-loop-at l = l.until - l.at
