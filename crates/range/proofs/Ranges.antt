-- What the code finds of a parameter is what its range says.
use Prim.Native.Nat.{ℕ, ◌≤◌}
use mathlib.Core.Path.{◌≡◌, refl, sym, ap, ◌∙◌}
use mathlib.Core.Bool.{Bool, true, false, cond, ◌&&◌, true≢false}
use mathlib.Core.List.{List, [], ◌∷◌}
use lib.Dec.{ltb, leb}
use Rattle.wire.specs.Ranges.{fits, also}
use Rattle.wire.specs.declared.Range.{Range}
use Rattle.wire.specs.declared.Range.TheVariants.{Fits, Big, Small}
use Rattle.record.specs.declared.Setting.{Setting}
use Rattle.record.specs.declared.Limits.{Limits}
use Rattle.record.specs.Layout.{current}
use Rattle.record.specs.Settings.{range_by, looks_at, sheet_of, setting_width}
use Rattle.record.proofs.SettingLaws.{looks-wide}
use Rattle.record.specs.Limits.{power_range, interval_range, name_range}
use Rattle.record.proofs.Bounds.{power-range, interval-range, signed_range}
use borrow.Author.Tests.{lt-ltb, le-ltb}

-- what an order says of its test
pub ruleset tested = (lt-ltb, le-ltb, signed_range)

-- x, the kind of a setting's range as the code has it, turns out to be y
module _ (k : Setting) (x : Limits) (kind : x ≡ (sheet_of k).limits) (y : Limits) (told : x ≡ y) where
  -- what it looks at is there
  pub as_long : (n : ℕ) → setting_width k ≤ n → looks_at y ≤ n
  as_long n h = rw (← told, kind, looks-wide k) h

  pub as_told : (p : List ℕ) → range_by y current p ≡ range_by (sheet_of k).limits current p
  as_told p = ap (λ (z : Limits). range_by z current p) (sym told ∙ kind)

-- on which side a value is that does not fit
abbrev pub side : Bool → Range
side big = cond big Big Small

pub power-missed : (w : ℕ) → fits (power_range w) ≡ false → power_range w ≡ side (ltb w 32768)
power-missed w = rw (power-range w) (by (ltb w 32768) (ltb 12 w) (ltb w 65516))
  where
    by : (t a b : Bool) → fits (cond t (cond a Big Fits) (cond b Small Fits)) ≡ false → cond t (cond a Big Fits) (cond b Small Fits) ≡ side t
    by true true b e = refl
    by true false b e = absurd (true≢false e)
    by false a true e = refl
    by false a false e = absurd (true≢false e)

pub interval-missed : (b : ℕ) → fits (interval_range b) ≡ false → interval_range b ≡ side (ltb 59 b && ltb b 128)
interval-missed b = rw (interval-range b) (by (ltb b 128) (ltb 59 b) (ltb 0 b && ltb b 4))
  where
    by : (t a gap : Bool) → fits (cond t (cond a Big (cond gap Small Fits)) Small) ≡ false → cond t (cond a Big (cond gap Small Fits)) Small ≡ side (a && t)
    by true true gap e = refl
    by true false true e = refl
    by true false false e = absurd (true≢false e)
    by false true gap e = refl
    by false false gap e = refl

-- a name is never too small
pub name-range : (p : List ℕ) → name_range p ≡ cond (fits (name_range p)) Fits Big
unfolding name_range
name-range [] = refl
name-range (b ∷ p) = by (leb b 0x7F) (name_range p) (name-range p)
  where
    by : (t : Bool) (x : Range) → x ≡ cond (fits x) Fits Big → also (cond t Fits Big) x ≡ cond (fits (also (cond t Fits Big) x)) Fits Big
    by true x e = e
    by false x e = refl
