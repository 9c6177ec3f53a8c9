-- The ranges of the settings as tests of the bytes alone.
use Prim.Native.Nat.{ℕ, ◌-◌}
use mathlib.Core.Path.{◌≡◌, refl, ap}
use mathlib.Core.Bool.{Bool, true, false, cond, ◌&&◌}
use native.Mathlib.Omega.{arith}
use lib.Dec.{ltb}
use lib.IntN.{pos}
use borrow.Author.Tests.{lt-ltb, le-ltb, ltb-true, ltb-false}
use Rattle.wire.specs.Numbers.{signed8}
use Rattle.wire.specs.Ranges.{within, unsigned}
use Rattle.wire.specs.declared.Range.TheVariants.{Fits, Big, Small}
use Rattle.record.specs.Limits.{power_range, interval_range}

pub signed_range : (low high b : ℕ) → within (pos low) (pos high) (signed8 b) ≡ cond (ltb b 128) (unsigned low high b) Small
signed_range low high b = by (ltb b 128) refl
  where
    by : (t : Bool) → ltb b 128 ≡ t → within (pos low) (pos high) (signed8 b) ≡ cond t (unsigned low high b) Small
    by true e = rw e refl
    by false e = rw e refl

pub interval-range : (b : ℕ) → interval_range b ≡ cond (ltb b 128) (cond (ltb 59 b) Big (cond (ltb 0 b && ltb b 4) Small Fits)) Small
interval-range b = by (ltb b 128) refl
  where
    by : (t : Bool) → ltb b 128 ≡ t → interval_range b ≡ cond t (cond (ltb 59 b) Big (cond (ltb 0 b && ltb b 4) Small Fits)) Small
    by true e = rw (e, le-ltb b 0 (omega arith)) refl
    by false e = rw e refl

-- -20 is 65516
below-low : (w : ℕ) → ltb 19 (65535 - w) ≡ ltb w 65516
below-low w = by (ltb w 65516) refl
  where
    by : (t : Bool) → ltb w 65516 ≡ t → ltb 19 (65535 - w) ≡ t
    by true e = lt-ltb 19 (65535 - w) (omega (arith, ltb-true w 65516 e))
    by false e = le-ltb 19 (65535 - w) (omega (arith, ltb-false w 65516 e))

pub power-range : (w : ℕ) → power_range w ≡ cond (ltb w 32768) (cond (ltb 12 w) Big Fits) (cond (ltb w 65516) Small Fits)
power-range w = by (ltb w 32768) refl
  where
    by : (t : Bool) → ltb w 32768 ≡ t → power_range w ≡ cond t (cond (ltb 12 w) Big Fits) (cond (ltb w 65516) Small Fits)
    by true e = rw e refl
    by false e = rw e (ap (λ (t : Bool). cond t Small Fits) (below-low w))
