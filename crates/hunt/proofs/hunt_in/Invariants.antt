-- `hunt_in`: each turn of the loop goes on with what the hunt has done so far, up to its end.
use Rattle.record.specs.Layout.{record_of}
use Rattle.hunt.specs.Progress.{Going}
use Prim.Native.Nat.{◌-◌, ◌≤◌}
use lib.ListN.{length}
use Rattle.wire.specs.Serial.{heads_of}
use Rattle.hunt.proofs.hunt_in.Given as goal

abbrev pub invariant-hunt : goal.invariant-hunt
invariant-hunt l = (l.framed ≤ l.at) × Going (heads_of l.line) (record_of l.initial.rec) l.s l.initial.out l.start l.at (l.at - l.framed) l.wrote l.rec l.out

abbrev pub decreases-hunt : goal.decreases-hunt
decreases-hunt l = length l.s - l.at
