-- Stretches of a stream grow and join; the cut passes over a stretch of skipped bytes.
use Prim.Native.Nat.{ℕ, zero, suc, ◌+◌, ◌-◌, ◌≤◌, ◌<◌}
use mathlib.Core.Path.{◌≡◌, refl, sym, subst, ◌∙◌}
use mathlib.Core.Logic.{◌⊎◌, inl, inr, ⊎_elim}
use mathlib.Core.Bool.{Bool, true, false}
use mathlib.Core.List.{List}
use native.Mathlib.Nat.{zero-add, add-zero, add_assoc, eq-or-lt_of_le}
use native.Mathlib.Omega.{arith}
use lib.ListN.{length, drop, length-drop}
use lib.Seq.{drop-drop}
use lib.Dec.{ltb}
use borrow.Author.Tests.{ltb-true, ltb-false}
use Rattle.wire.specs.Frames.{Heads, Skip, look, skip_one, skips, cut, Stretch, Passed}
use Rattle.wire.proofs.CutLaws.{cut-skip}

pub before-or-not : (a b : ℕ) → (a < b) ⊎ (b ≤ a)
before-or-not a b = go (ltb a b) refl
  where
    go : (t : Bool) → ltb a b ≡ t → (a < b) ⊎ (b ≤ a)
    go true e = inl (ltb-true a b e)
    go false e = inr (ltb-false a b e)

module _ (l : List ℕ) (Is : ℕ → Type 0) where
  pub stretch-none : (from : ℕ) → from ≤ length l → Stretch l Is from from
  stretch-none from h = record { after = omega arith; inside = h; each = λ i a b. absurd (omega arith) }

  pub stretch-one : (from at : ℕ) → Stretch l Is from at → at < length l → Is at → Stretch l Is from (at + 1)
  stretch-one from at p h e =
      record {
        after = omega (arith, p.after);
        inside = omega arith;
        each = λ i a b. let m : i ≤ at = omega arith in ⊎_elim (λ q. subst Is (sym q) e) (λ q. p.each i a q) (eq-or-lt_of_le m);
      }

  pub stretch-on : (from mid at : ℕ) → Stretch l Is from mid → Stretch l Is mid at → Stretch l Is from at
  stretch-on from mid at p q =
      record { after = omega (arith, p.after, q.after); inside = q.inside; each = λ i a b. ⊎_elim (λ h. p.each i a h) (λ h. q.each i h b) (before-or-not i mid) }

  pub stretch-as : (Also : ℕ → Type 0) → ((i : ℕ) → Is i → Also i) → (from at : ℕ) → Stretch l Is from at → Stretch l Also from at
  stretch-as Also f from at p = record { after = p.after; inside = p.inside; each = λ i a b. f i (p.each i a b) }

module _ (h : Heads) (l : List ℕ) (from : ℕ) where
  cuts-by : (k : ℕ) → from + k ≤ length l → ((i : ℕ) → from ≤ i → i < from + k → look h (drop i l) ≡ Skip) → cut h (drop from l) ≡ skips k (cut h (drop (from + k) l))
  cuts-by zero p e = rw (add-zero from, zero-add) refl
  cuts-by (suc k) p e =
      let m : suc k ≡ k + 1 = omega arith in
      let n : from + (k + 1) ≡ from + k + 1 = omega arith in
      let q : cut h (drop (from + k) l) ≡ skip_one (cut h (drop (from + k + 1) l)) =
      cut-skip h (drop (from + k) l) (rw length-drop (omega arith)) (e (from + k) (omega arith) (omega arith)) ∙ rw (drop-drop 1 (from + k) l) refl in
      cuts-by k (omega arith) (λ i a b. e i a (omega arith)) ∙ rw (q, m, n, add_assoc k 1 (cut h (drop (from + k + 1) l)).skipped) refl

  pub passed-cuts : (at : ℕ) → Passed h l from at → cut h (drop from l) ≡ skips (at - from) (cut h (drop at l))
  passed-cuts at p =
      let m : from + (at - from) ≡ at = omega (arith, p.after) in
      rw m at (cuts-by (at - from) (omega (arith, p.after, p.inside)) (λ i a b. p.each i a (omega (arith, p.after))))
