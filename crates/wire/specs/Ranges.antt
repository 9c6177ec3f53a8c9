-- Whether a value is in its range, and if not, on which side of it.
use Rattle.std.specs.Prelude.{ℕ, Bool, true, false, cond, ltb, ℤ}
use Rattle.std.specs.Int.Signed.{lt_z}
use Rattle.wire.specs.declared.Range.{Range}
use Rattle.wire.specs.declared.Range.TheVariants.{Fits, Big, Small}

abbrev pub fits : Range → Bool
fits Fits = true
fits Big = false
fits Small = false

-- a range of whole numbers, both ends in it
abbrev pub within : ℤ → ℤ → ℤ → Range
within low high v = cond (lt_z high v) Big (cond (lt_z v low) Small Fits)

-- the same for a value without a sign
abbrev pub unsigned : ℕ → ℕ → ℕ → Range
unsigned low high v = cond (ltb high v) Big (cond (ltb v low) Small Fits)

-- "parameters from the left": the first that is out of its range decides
abbrev pub also : Range → Range → Range
also Fits r = r
also Big r = Big
also Small r = Small
