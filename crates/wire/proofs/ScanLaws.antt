-- Scans over the bytes from a place up to another, one byte at a time.
use Prim.Native.Nat.{ℕ, suc, ◌+◌, ◌-◌, ◌≤◌, ◌<◌}
use mathlib.Core.Path.{◌≡◌, refl, ◌∙◌}
use mathlib.Core.Bool.{true, false}
use mathlib.Core.List.{List, [], ◌∷◌}
use native.Mathlib.Numerals.{add-one}
use native.Mathlib.Omega.{arith}
use lib.ListN.{length, get_or, take, drop}
use lib.Seq.{drop-cons}
use borrow.Author.Tests.{eq-eqb, ne_eqb}
use Rattle.wire.specs.Numbers.{word_at}
use Rattle.wire.specs.Zeros.{all_zero}

abbrev pub part : List ℕ → ℕ → ℕ → List ℕ
part s from to = take (to - from) (drop from s)

pub part_none : (s : List ℕ) (from to : ℕ) → to ≤ from → part s from to ≡ []
part_none s from to h = let z : to - from ≡ 0 = omega arith in rw z refl

pub part-cons : (s : List ℕ) (at to : ℕ) → at < to → to ≤ length s → part s at to ≡ get_or s at 0 ∷ part s (at + 1) to
part-cons s at to h l =
    let n : to - at ≡ suc (to - (at + 1)) = omega arith in
    rw (n, drop-cons s at 0 (omega arith), add-one at) refl

module _ (s : List ℕ) (at to : ℕ) (h : at < to) (l : to ≤ length s) where
  pub zero-skip : get_or s at 0 ≡ 0 → all_zero (part s at to) ≡ all_zero (part s (at + 1) to)
  unfolding all_zero
  zero-skip e = rw (part-cons s at to h l, eq-eqb (get_or s at 0) 0 e) refl

  pub zero-hit : (get_or s at 0 ≡ 0 → ⊥) → all_zero (part s at to) ≡ false
  unfolding all_zero
  zero-hit e = rw (part-cons s at to h l, ne_eqb (get_or s at 0) 0 e) refl

-- four bytes at once
pub zero_word : (s : List ℕ) (at to : ℕ) → 4 ≤ to - at → to ≤ length s → word_at s at ≡ 0 → all_zero (part s at to) ≡ all_zero (part s (at + 4) to)
zero_word s at to h l e =
    let a = zero-skip s at to (omega arith) l (omega (arith, e)) in
    let b : all_zero (part s (at + 1) to) ≡ all_zero (part s (at + 2) to) = rw (after 1) at (zero-skip s (at + 1) to (omega arith) l (omega (arith, e))) in
    let c : all_zero (part s (at + 2) to) ≡ all_zero (part s (at + 3) to) = rw (after 2) at (zero-skip s (at + 2) to (omega arith) l (omega (arith, e))) in
    let d : all_zero (part s (at + 3) to) ≡ all_zero (part s (at + 4) to) = rw (after 3) at (zero-skip s (at + 3) to (omega arith) l (omega (arith, e))) in
    a ∙ b ∙ c ∙ d
  where
    after : (k : ℕ) → at + k + 1 ≡ at + (k + 1)
    after k = omega arith

-- nothing is left
module _ (s : List ℕ) (at to : ℕ) (h : to ≤ at) where
  pub zero-end : all_zero (part s at to) ≡ true
  unfolding all_zero
  zero-end = rw (part_none s at to h) refl
