-- Zeros by words: a word is zero when its bytes are, and words may lie over each other.
use Prim.Native.Nat.{ℕ, zero, suc, ◌+◌, ◌-◌, ◌*◌, ◌/◌, ◌%◌, ◌^◌, ◌≤◌, ◌<◌}
use mathlib.Core.Path.{◌≡◌, refl, sym, ap, ap₂, ◌∙◌}
use mathlib.Core.Bool.{Bool, true, false, ◌&&◌, and_assoc}
use mathlib.Core.List.{List, [], ◌∷◌, ◌++◌}
use native.Mathlib.Nat.{pow-suc, div-eq_of_lt}
use native.Mathlib.Omega.{arith}
use lib.ListN.{length, take, drop}
use lib.Seq.{take-add, drop-drop}
use lib.Bits.{bit_or}
use lib.Pow.{pow_pos, shr-shr}
use lib.Dec.{eqb}
use borrow.Author.Tests.{eq-eqb, eqb-true}
use Rattle.wire.specs.Numbers.{bytes_at}
use Rattle.wire.specs.Zeros.{all_zero}
use Rattle.wire.proofs.NumberLaws.{part-is}
use Rattle.wire.proofs.ScanLaws.{part, part_none}
use Rattle.wire.proofs.ZeroLaws.{same-zero, or-zero}
use Rattle.low.specs.Low.{low_bytes}

pub low-zero : (n w : ℕ) → w < 256 ^ n → eqb w 0 ≡ all_zero (low_bytes n w)
unfolding all_zero
low-zero zero w h = eq-eqb w 0 (omega arith)
low-zero (suc n) w h =
    same-zero w (w % 256) (all_zero (low_bytes n (w / 256)))
    (λ e. (omega arith, sym (low-zero n (w / 256) (omega (arith, pow-suc 256 n))) ∙ eq-eqb (w / 256) 0 (omega arith)))
    (λ e f. let q : w / 256 ≡ 0 = eqb-true (w / 256) 0 (low-zero n (w / 256) (omega (arith, pow-suc 256 n)) ∙ f) in omega arith)

-- the bytes of a number from one of them on
pub zero-from : (n k w : ℕ) → w < 256 ^ k → all_zero (drop n (low_bytes k w)) ≡ eqb (w / 2 ^ (8 * n)) 0
unfolding all_zero
zero-from zero k w h =
    let e : w / 1 ≡ w = omega arith in
    rw e (sym (low-zero k w h))
zero-from (suc n) zero w h =
    let e : w ≡ 0 = omega arith in
    let f : w / 2 ^ (8 * suc n) ≡ 0 = div-eq_of_lt (omega (arith, e, pow_pos (8 * suc n))) in
    sym (eq-eqb (w / 2 ^ (8 * suc n)) 0 f)
zero-from (suc n) (suc k) w h =
    let e : 8 * suc n ≡ 8 + 8 * n = omega arith in
    zero-from n k (w / 256) (omega (arith, pow-suc 256 k)) ∙ rw e (ap (λ (x : ℕ). eqb x 0) (shr-shr w 8 (8 * n)))

pub zero-append : (a b : List ℕ) → all_zero (a ++ b) ≡ (all_zero a && all_zero b)
unfolding all_zero
zero-append [] b = refl
zero-append (x ∷ a) b = ap (λ (t : Bool). eqb x 0 && t) (zero-append a b) ∙ sym (and_assoc (eqb x 0) (all_zero a) (all_zero b))

module _ (s : List ℕ) where
  abbrev pub zeros : ℕ → ℕ → Bool
  zeros a b = all_zero (part s a b)

  zeros-join : (a b c : ℕ) → a ≤ b → b ≤ c → zeros a c ≡ (zeros a b && zeros b c)
  zeros-join a b c h k =
      let m : c - a ≡ (b - a) + (c - b) = omega arith in
      let f : a + (b - a) ≡ b = omega arith in
      rw m (ap all_zero (take-add (b - a) (c - b) (drop a s)) ∙ zero-append (part s a b) (take (c - b) (drop (b - a) (drop a s)))
      ∙ ap (λ (l : List ℕ). zeros a b && all_zero (take (c - b) l)) (drop-drop (b - a) a s ∙ ap (λ (j : ℕ). drop j s) f))

  pub zeros-word : (at w : ℕ) → at + 4 ≤ length s → w < 0x100000000 → low_bytes 4 w ≡ bytes_at 4 s at → eqb w 0 ≡ zeros at (at + 4)
  zeros-word at w h b e =
      let n : at + 4 - at ≡ 4 = omega arith in
      low-zero 4 w b ∙ ap all_zero (e ∙ part-is 4 s at h ∙ ap (λ (j : ℕ). take j (drop at s)) (sym n))

  -- the words of a scan: the last one first, then one behind the other
  pub zeros-first : (from to w : ℕ) → 4 ≤ to → to ≤ length s → w < 0x100000000 → low_bytes 4 w ≡ bytes_at 4 s (to - 4) → eqb w 0 ≡ (zeros from from && zeros (to - 4) to)
  unfolding all_zero
  zeros-first from to w h k b e =
      let n : to - 4 + 4 ≡ to = omega arith in
      rw (part_none s from from (omega arith)) (rw n at (zeros-word (to - 4) w (omega arith) b e))

  pub zeros-more : (from at : ℕ) (b w : ℕ) (l : Bool) → from ≤ at → eqb b 0 ≡ (zeros from at && l) → eqb w 0 ≡ zeros at (at + 4) → eqb (bit_or b w) 0 ≡ (zeros from (at + 4) && l)
  zeros-more from at b w l h e f = or-zero b w ∙ ap₂ (◌&&◌) e f ∙ swap (zeros from at) l (zeros at (at + 4)) ∙ ap (λ (t : Bool). t && l) (sym (zeros-join from at (at + 4) h (omega arith)))
    where
      swap : (x y z : Bool) → ((x && y) && z) ≡ ((x && z) && y)
      swap true true true = refl
      swap true true false = refl
      swap true false true = refl
      swap true false false = refl
      swap false y z = refl

  pub zeros-last : (from at to : ℕ) → from ≤ to - 4 → to - 4 ≤ at → at ≤ to → (zeros from at && zeros (to - 4) to) ≡ zeros from to
  zeros-last from at to h k l =
      ap₂ (◌&&◌) (zeros-join from (to - 4) at h k) (zeros-join (to - 4) at to k l) ∙ over (zeros from (to - 4)) (zeros (to - 4) at) (zeros at to)
      ∙ sym (zeros-join from at to (omega arith) l ∙ ap (λ (t : Bool). t && zeros at to) (zeros-join from (to - 4) at h k))
    where
      over : (x y z : Bool) → ((x && y) && (y && z)) ≡ ((x && y) && z)
      over true true z = refl
      over true false z = refl
      over false y z = refl
