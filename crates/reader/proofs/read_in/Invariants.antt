-- `read_in`: each turn of the loop writes one entry or skips, up to the end or to what waits.
use Prim.Native.Nat.{◌-◌}
use lib.ListN.{length}
use Rattle.reader.specs.Progress.{Reads}
use Rattle.reader.proofs.read_in.Given as goal

abbrev pub invariant-read : goal.invariant-read
invariant-read l = Reads l.s l.initial.list l.at l.entries l.framed l.list

abbrev pub decreases-read : goal.decreases-read
decreases-read l = length l.s - l.at
