-- Inner contract: the floats that patterns stand for, which is how code holds a pair. No promise of a call speaks of them.
use Rattle.std.specs.Prelude.{ℕ, Bool, true, false, cond, from_bits, to_bits, Float}
use Rattle.std.specs.Float.{binary32}
use Rattle.peak.specs.Pairs.{finite, less, Pair}
use Rattle.peak.specs.declared.Peak.{Peak}

-- the float of a finite pattern, and +0 for any other
unfoldable pub float_of : ℕ → Float
float_of x = cond (finite x) (from_bits binary32 x) (from_bits binary32 0)

-- the pattern of a float that is a number
abbrev pub bits_of : Float → ℕ
bits_of f = to_bits binary32 f

-- the pair of floats of a pair of patterns
abbrev pub peak_of : Pair → Peak
peak_of p = record { greatest = float_of p.greatest; smallest = float_of p.smallest }

-- whether a reading becomes the greatest value, the smallest value
abbrev pub is_raised : Bool → Peak → ℕ → Bool
is_raised false p x = true
is_raised true p x = less (bits_of p.greatest) x

abbrev pub is_lowered : Bool → Peak → ℕ → Bool
is_lowered false p x = true
is_lowered true p x = less x (bits_of p.smallest)

-- a pair with a reading in the place of those of its values that it replaces
abbrev pub renewed : Peak → ℕ → Bool → Bool → Peak
renewed p x raised lowered = record { greatest = cond raised (float_of x) p.greatest; smallest = cond lowered (float_of x) p.smallest }
