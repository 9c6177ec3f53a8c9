-- `find`: the search stops at the first frame, broken head or waiting candidate, and has skipped all before it.
use Rattle.wire.specs.Frames.{Passed}
use Rattle.wire.specs.Serial.{heads_of}
use Rattle.finder.specs.declared.Seen.TheVariants.{NoMore}
use Prim.Native.Nat.{◌-◌, ◌≤◌}
use mathlib.Core.Path.{◌≡◌}
use Rattle.finder.proofs.find.Given as goal

abbrev pub invariant-loop-place : goal.invariant-loop-place
invariant-loop-place l = l.place ≤ l.last

abbrev pub decreases-loop-place : goal.decreases-loop-place
decreases-loop-place l = l.last - l.place

abbrev pub invariant-hunt : goal.invariant-hunt
invariant-hunt l = Passed (heads_of l.line) l.s l.from l.at × (l.at ≤ l.until) × (l.seen ≡ NoMore)

abbrev pub decreases-hunt : goal.decreases-hunt
decreases-hunt l = l.until - l.at
