-- What the code tests of a byte or a word is what its range asks.
use Prim.Native.Nat.{ℕ, ◌-◌, ◌≤◌, ◌<◌}
use mathlib.Core.Path.{◌≡◌, refl, sym}
use mathlib.Core.List.{List, [], ◌∷◌}
use mathlib.Core.Bool.{Bool, true, false, cond, ◌&&◌, ◌||◌, true≢false}
use native.Mathlib.Nat.{pos_of_ne-zero}
use native.Mathlib.Omega.{arith}
use lib.Dec.{ltb, leb, eqb}
use lib.IntN.{pos, negsuc}
use borrow.Author.Tests.{ltb-false, leb-true, leb-false, eqb-true, eqb-false, lt-ltb, le-ltb, le-leb}
use Rattle.wire.specs.Numbers.{signed8}
use Rattle.std.specs.Prelude.{◌↔◌, IsTrue, All}
use Rattle.std.proofs.lemmas.List.Elements.{All-nil, All-cons, All-head, All-tail}
use Rattle.wire.specs.Ranges.{fits, within, also}
use Rattle.wire.specs.declared.Range.TheVariants.{Fits, Big, Small}
use Rattle.record.specs.Limits.{power_range, interval_range, filter_range, name_range}
use Rattle.record.proofs.Bounds.{interval-range, power-range}

-- 0 up to a bound below 128
pub fits_low : (high b : ℕ) → high < 128 → fits (within (pos 0) (pos high) (signed8 b)) ≡ leb b high
fits_low high b h = go (ltb b 128) (leb b high) refl refl
  where
    go : (t u : Bool) → ltb b 128 ≡ t → leb b high ≡ u → fits (within (pos 0) (pos high) (cond t (pos b) (negsuc (255 - b)))) ≡ u
    go true true p q = simp (le-ltb high b (leb-true b high q), le-ltb b 0 (omega arith))
    go true false p q = simp (lt-ltb high b (leb-false b high q))
    go false true p q = absurd (omega (arith, ltb-false b 128 p, leb-true b high q))
    go false false p q = refl

-- on either side
none : (t : Bool) → false ≡ fits (cond t Big Small)
none true = refl
none false = refl

pub fits-power : (w : ℕ) → (leb w 12 || leb 65516 w) ≡ fits (power_range w)
fits-power w = rw (power-range w) (go (leb w 12) (leb 65516 w) refl refl)
  where
    go : (l h : Bool) → leb w 12 ≡ l → leb 65516 w ≡ h → (l || h) ≡ fits (cond (ltb w 32768) (cond (ltb 12 w) Big Fits) (cond (ltb w 65516) Small Fits))
    go true h p q = let low : w ≤ 12 = leb-true w 12 p in rw (lt-ltb w 32768 (omega arith), le-ltb 12 w low) refl
    go false true p q = let high : 65516 ≤ w = leb-true 65516 w q in rw (le-ltb w 32768 (omega arith), le-ltb w 65516 high) refl
    go false false p q = rw (lt-ltb 12 w (leb-false w 12 p), lt-ltb w 65516 (leb-false 65516 w q)) (none (ltb w 32768))

pub fits-interval : (b : ℕ) → (eqb b 0 || (leb 4 b && leb b 59)) ≡ fits (interval_range b)
fits-interval b = go (eqb b 0) (leb 4 b) (leb b 59) refl refl refl
  where
    go : (z l h : Bool) → eqb b 0 ≡ z → leb 4 b ≡ l → leb b 59 ≡ h → (z || (l && h)) ≡ fits (interval_range b)
    go true l h p q r = rw (eqb-true b 0 p) refl
    go false true true p q r =
        let l : 4 ≤ b = leb-true 4 b q in
        let h : b ≤ 59 = leb-true b 59 r in
        rw (interval-range b) (simp (lt-ltb b 128 (omega arith), le-ltb 59 b h, le-ltb b 4 l, lt-ltb 0 b (omega arith)))
    go false true false p q r = rw (interval-range b, lt-ltb 59 b (leb-false b 59 r)) (none (ltb b 128))
    go false false h p q r =
        let low : b < 4 = leb-false 4 b q in
        let more : 0 < b = pos_of_ne-zero (eqb-false b 0 p) in
        rw (interval-range b, lt-ltb b 128 (omega arith), le-ltb 59 b (omega arith), lt-ltb 0 b more, lt-ltb b 4 low) refl

pub fits-filter : (w : ℕ) → fits (filter_range 64 w) ≡ ltb w 64
fits-filter w = go (ltb w 64)
  where
    go : (t : Bool) → fits (cond t Fits Big) ≡ t
    go true = refl
    go false = refl

-- ---- the bytes of a name

abbrev low : ℕ → Type 0
low b = b ≤ 0x7F

name-fine : (s : List ℕ) → All low s → fits (name_range s) ≡ true
unfolding name_range
name-fine [] a = refl
name-fine (b ∷ s) a = rw (le-leb b 0x7F (All-head low b s a)) (name-fine s (All-tail low b s a))

name-low : (s : List ℕ) → fits (name_range s) ≡ true → All low s
unfolding name_range
name-low [] e = All-nil low
name-low (b ∷ s) e = go (leb b 0x7F) refl e (name-low s)
  where
    go : (t : Bool) → leb b 0x7F ≡ t → fits (also (cond t Fits Big) (name_range s)) ≡ true → (fits (name_range s) ≡ true → All low s) → All low (b ∷ s)
    go true q e more = All-cons low b s (leb-true b 0x7F q) (more e)
    go false q e more = absurd (true≢false (sym e))

pub name-is : (s : List ℕ) (r : Bool) → (IsTrue r ↔ All (λ b. b ≤ 0x7F) s) → r ≡ fits (name_range s)
name-is s true h = sym (name-fine s (h.0 refl))
name-is s false h = go (fits (name_range s)) refl
  where
    go : (t : Bool) → fits (name_range s) ≡ t → false ≡ t
    go true e = h.1 (name-low s e)
    go false e = refl
