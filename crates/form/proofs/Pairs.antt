-- The pairs as the check goes through them: with a reading one by one, without one as zeros.
use Prim.Native.Nat.{ℕ, zero, suc, ◌+◌, ◌-◌, ◌*◌, ◌%◌, ◌≤◌, ◌<◌, max}
use mathlib.Core.Path.{◌≡◌, refl, sym, ap, ap₂, ◌∙◌}
use mathlib.Core.Bool.{Bool, true, false, not, ◌&&◌}
use mathlib.Core.List.{List}
use native.Mathlib.Nat.{add-zero, add_assoc, sub-zero}
use native.Mathlib.Numerals.{towards_suc}
use native.Mathlib.Omega.{arith}
use lib.ListN.{length, get_or}
use lib.Dec.{ltb, leb, eqb}
use borrow.Author.Tests.{eq-eqb, eqb-true}
use Rattle.wire.specs.Numbers.{word_at, bytes_at}
use Rattle.wire.specs.Zeros.{all_zero}
use Rattle.wire.proofs.NumberLaws.{part-is, part-part}
use Rattle.wire.proofs.ScanLaws.{part}
use Rattle.low.proofs.ZeroWords.{zero-append}
use Rattle.peak.specs.Pairs.{finite, key, less, pair_fits, pair_at}
use Rattle.peak.proofs.Patterns.{same, not-less, max-below}
use Rattle.peak.proofs.PairLaws.{both}
use Rattle.record.specs.Form.{several, all_fine}

-- ---- with a reading: what is found so far, and the pairs that are left

module _ (s : List ℕ) (from n : ℕ) where
  abbrev fine : ℕ → Bool
  fine k = pair_fits true (pair_at s (from + k))

  -- those from pair i on
  unfoldable pub left : ℕ → Bool
  left i = all_fine (several (n - i) 8 fine from (8 * i))

  pub left-all : left 0 ≡ all_fine (several n 8 fine from 0)
  unfolding left
  left-all = rw (sub-zero n) refl

  abbrev great : ℕ → ℕ
  great i = word_at s (from + 8 * i)

  abbrev small : ℕ → ℕ
  small i = word_at s (from + 8 * i + 4)

  left-more : (i : ℕ) → i < n → left i ≡ (fine (8 * i) && left (i + 1))
  unfolding left
  left-more i h =
      let e : n - i ≡ suc (n - (i + 1)) = omega arith in
      let f : 8 * i + 8 ≡ 8 * (i + 1) = omega arith in
      rw (e, f) refl

  pub left-none : (i : ℕ) → n ≤ i → left i ≡ true
  unfolding left
  left-none i h = let e : n - i ≡ 0 = omega arith in rw e refl

  -- one pair: in order, and both of its values among those that have to be finite
  left_one : (i most : ℕ) → i < n
      → (ltb most 0x7F800000 && left i) ≡ (not (less (great i) (small i)) && (ltb (max (max most (great i % 0x80000000)) (small i % 0x80000000)) 0x7F800000 && left (i + 1)))
  left_one i most h =
      let m : ℕ = max most (great i % 0x80000000) in
      ap (λ (b : Bool). ltb most 0x7F800000 && b) (left-more i h)
      ∙ rw (not-less (key (great i)) (key (small i)), max-below m (small i % 0x80000000) 0x7F800000, max-below most (great i % 0x80000000) 0x7F800000)
      (turn (ltb most 0x7F800000) (finite (great i)) (finite (small i)) (leb (key (small i)) (key (great i))) (left (i + 1)))
    where
      turn : (a b c d e : Bool) → (a && (((b && c) && d) && e)) ≡ (d && (((a && b) && c) && e))
      turn true true true d e = refl
      turn true true false true e = refl
      turn true true false false e = refl
      turn true false c true e = refl
      turn true false c false e = refl
      turn false b c true e = refl
      turn false b c false e = refl

  pub left_out : (i most : ℕ) → i < n → less (great i) (small i) ≡ true → false ≡ (ltb most 0x7F800000 && left i)
  left_out i most h e = sym (left_one i most h ∙ rw e refl)

  pub left_in : (i most : ℕ) → i < n → less (great i) (small i) ≡ false
      → (ltb most 0x7F800000 && left i) ≡ (ltb (max (max most (great i % 0x80000000)) (small i % 0x80000000)) 0x7F800000 && left (i + 1))
  left_in i most h e = left_one i most h ∙ rw e refl

-- ---- without one

word_none : (a b c d : ℕ) → (eqb a 0 && (eqb b 0 && (eqb c 0 && (eqb d 0 && true)))) ≡ eqb (a * 16777216 + b * 65536 + c * 256 + d) 0
word_none a b c d =
    let w : ℕ = a * 16777216 + b * 65536 + c * 256 + d in
    same (eqb a 0 && (eqb b 0 && (eqb c 0 && (eqb d 0 && true)))) (eqb w 0)
    (λ e. let p = both (eqb a 0) (eqb b 0 && (eqb c 0 && (eqb d 0 && true))) e in let q = both (eqb b 0) (eqb c 0 && (eqb d 0 && true)) p.1 in let r = both (eqb c 0) (eqb d 0 && true) q.1 in let u = both (eqb d 0) true r.1 in
    eq-eqb w 0 (rw (eqb-true a 0 p.0, eqb-true b 0 q.0, eqb-true c 0 r.0, eqb-true d 0 u.0) refl))
    (λ e. let z : a * 16777216 + b * 65536 + c * 256 + d ≡ 0 = eqb-true w 0 e in rw (eq-eqb a 0 (omega arith), eq-eqb b 0 (omega arith), eq-eqb c 0 (omega arith), eq-eqb d 0 (omega arith)) refl)

module _ (s : List ℕ) where
  four-none : (at : ℕ) → all_zero (bytes_at 4 s at) ≡ eqb (word_at s at) 0
  unfolding all_zero
  four-none at = simp towards_suc (word_none (get_or s at 0) (get_or s (suc at) 0) (get_or s (suc (suc at)) 0) (get_or s (suc (suc (suc at))) 0))

  pair-none : (at : ℕ) → all_zero (bytes_at 8 s at) ≡ pair_fits false (pair_at s at)
  pair-none at = ap all_zero (sym (part-part 4 4 s at)) ∙ zero-append (bytes_at 4 s at) (bytes_at 4 s (at + 4)) ∙ ap₂ (◌&&◌) (four-none at) (four-none (at + 4))

  none_left : (from n k : ℕ) → all_zero (bytes_at (n * 8) s (from + k)) ≡ all_fine (several n 8 (λ j. pair_fits false (pair_at s (from + j))) from k)
  unfolding all_zero
  none_left from zero k = refl
  none_left from (suc n) k =
      let e : suc n * 8 ≡ 8 + n * 8 = omega arith in
      rw e (ap all_zero (sym (part-part 8 (n * 8) s (from + k))) ∙ zero-append (bytes_at 8 s (from + k)) (bytes_at (n * 8) s (from + k + 8))
      ∙ ap₂ (◌&&◌) (pair-none (from + k)) (ap (λ (j : ℕ). all_zero (bytes_at (n * 8) s j)) (add_assoc from k 8) ∙ none_left from n (k + 8)))

pub pairs-none : (s : List ℕ) (from n : ℕ) → from + n * 8 ≤ length s → all_zero (part s from (from + n * 8)) ≡ all_fine (several n 8 (λ j. pair_fits false (pair_at s (from + j))) from 0)
pairs-none s from n h =
    let e : from + n * 8 - from ≡ n * 8 = omega arith in
    rw e (ap all_zero (sym (part-is (n * 8) s from h) ∙ ap (bytes_at (n * 8) s) (sym (add-zero from))) ∙ none_left s from n 0)
