-- `finite_values`: the greatest of all patterns so far is finite when all of them are.
use Rattle.std.proofs.Common.{◌≡◌, ◌&&◌, ltb, drop}
use Rattle.reading.specs.Decoded.{finite_all}
use Rattle.reading.proofs.peaks.finite_values.Given as goal

abbrev pub invariant-loop-value : goal.invariant-loop-value
invariant-loop-value l = finite_all l.fn.x ≡ (ltb l.most 0x7F800000 && finite_all (drop l.value-index l.fn.x))
