-- The frames of a stream with their places: each decision as an equation, and bytes passed.
use Prim.Native.Nat.{ℕ, zero, suc, ◌+◌, ◌-◌, ◌≤◌, ◌<◌}
use mathlib.Core.Path.{◌≡◌, refl, sym, ap, ◌∙◌}
use mathlib.Core.List.{List, [], ◌∷◌}
use native.Mathlib.Nat.{add-zero}
use native.Mathlib.Omega.{arith}
use lib.ListN.{length, take, drop, length-drop}
use lib.Seq.{drop-drop}
use Rattle.wire.specs.Frames.{Heads, Skip, Wait, Take, Tear, look, Placed, placed_on, placed_from, Passed}
use Rattle.wire.proofs.CutLaws.{take-room, tear-room}

module _ (h : Heads) where
  -- the frames of a stream that begins at a place
  abbrev pub placed_at : ℕ → List ℕ → List Placed
  placed_at at l = placed_from h at 0 l

  pub placed-drop : (at k : ℕ) (l : List ℕ) → placed_from h at k l ≡ placed_at (at + k) (drop k l)
  unfolding placed_from
  placed-drop at zero [] = refl
  placed-drop at (suc k) [] = refl
  placed-drop at zero (x ∷ l) = ap (λ (i : ℕ). placed_at i (x ∷ l)) (sym (add-zero at))
  placed-drop at (suc k) (x ∷ l) = placed-drop (at + 1) k l ∙ ap (λ (i : ℕ). placed_at i (drop k l)) (let z : at + 1 + k ≡ at + suc k = omega arith in z)

  placed_on_lem : (at x : ℕ) (l : List ℕ) → placed_at at (x ∷ l) ≡ placed_on (look h (x ∷ l)) at (x ∷ l) (λ k. placed_from h (at + 1) k l)
  unfolding placed_from
  placed_on_lem at x l = refl

  pub placed-nil : (at : ℕ) → placed_at at [] ≡ []
  unfolding placed_from
  placed-nil at = refl

  pub placed-wait : (at : ℕ) (l : List ℕ) → look h l ≡ Wait → placed_at at l ≡ []
  placed-wait at [] e = placed-nil at
  placed-wait at (x ∷ l) e = placed_on_lem at x l ∙ rw e refl

  pub placed-skip : (at : ℕ) (l : List ℕ) → 0 < length l → look h l ≡ Skip → placed_at at l ≡ placed_at (at + 1) (drop 1 l)
  placed-skip at [] n e = absurd (omega arith)
  placed-skip at (x ∷ l) n e = placed_on_lem at x l ∙ rw e refl

  pub placed-tear : (at : ℕ) (l : List ℕ) → look h l ≡ Tear → placed_at at l ≡ placed_at (at + 1) (drop 1 l)
  placed-tear at [] e = absurd (omega (arith, tear-room h [] e))
  placed-tear at (x ∷ l) e = placed_on_lem at x l ∙ rw e refl

  pub placed-take : (at n : ℕ) (l : List ℕ) → look h l ≡ Take n → placed_at at l ≡ record { at = at; frame = take (4 + n) l } ∷ placed_at (at + 4 + n) (drop (4 + n) l)
  placed-take at n [] e = absurd (omega (arith, (take-room h [] n e).0))
  placed-take at n (x ∷ l) e =
      let q : 4 + n ≡ suc (3 + n) = omega arith in
      let m : at + 1 + (3 + n) ≡ at + 4 + n = omega arith in
      placed_on_lem at x l ∙ rw e (ap (λ (ps : List Placed). record { at = at; frame = take (4 + n) (x ∷ l) } ∷ ps) (placed-drop (at + 1) (3 + n) l ∙ rw (m, q) refl))

  -- bytes that are skipped hold no frame
  module _ (l : List ℕ) (from : ℕ) where
    passed-by : (k : ℕ) → from + k ≤ length l → ((i : ℕ) → from ≤ i → i < from + k → look h (drop i l) ≡ Skip) → placed_at from (drop from l) ≡ placed_at (from + k) (drop (from + k) l)
    passed-by zero p e = rw (add-zero from) refl
    passed-by (suc k) p e =
        let n : from + suc k ≡ from + k + 1 = omega arith in
        passed-by k (omega arith) (λ i a b. e i a (omega arith))
        ∙ placed-skip (from + k) (drop (from + k) l) (rw length-drop (omega arith)) (e (from + k) (omega arith) (omega arith))
        ∙ rw (drop-drop 1 (from + k) l, n) refl

    pub placed-pass : (at : ℕ) → Passed h l from at → placed_at from (drop from l) ≡ placed_at at (drop at l)
    placed-pass at p =
        let m : from + (at - from) ≡ at = omega (arith, p.after) in
        rw m at (passed-by (at - from) (omega (arith, p.after, p.inside)) (λ i a b. p.each i a (omega (arith, p.after))))
