-- `all_zero`: the bits of all words are the bits of all bytes.
use Prim.Native.Nat.{◌-◌, ◌*◌}
use mathlib.Core.Path.{◌≡◌}
use mathlib.Core.Bool.{◌&&◌}
use lib.Dec.{eqb}
use lib.ListN.{length}
use Rattle.low.proofs.ZeroWords.{zeros}
use Rattle.low.proofs.all_zero.Given as goal

abbrev pub invariant-loop-k : goal.invariant-loop-k
invariant-loop-k l = eqb l.bits 0 ≡ (zeros l.s 0 (4 * l.k) && zeros l.s (length l.s - 4) (length l.s))
