-- `pairs_seen`: each pair in order, and the greatest of all patterns finite.
use mathlib.Core.Path.{◌≡◌}
use mathlib.Core.Bool.{◌&&◌}
use lib.Dec.{ltb}
use Rattle.record.specs.Layout.{channels}
use Rattle.form.proofs.Pairs.{left}
use Rattle.form.proofs.pairs_seen.Given as goal

abbrev pub invariant-loop-i : goal.invariant-loop-i
invariant-loop-i l = left l.s l.from channels 0 ≡ (ltb l.most 0x7F800000 && left l.s l.from channels l.i)
