-- The first fault of some fields of the same kind, and behind them.
use Prim.Native.Nat.{ℕ, suc, ◌+◌, ◌-◌, ◌*◌, ◌≤◌, ◌<◌}
use mathlib.Core.Path.{◌≡◌, refl, sym, ap, ◌∙◌}
use mathlib.Core.Bool.{Bool, true, false, cond}
use mathlib.Core.List.{List, [], ◌∷◌, ◌++◌, append-nil}
use native.Mathlib.Nat.{sub-zero}
use native.Mathlib.Omega.{arith}
use Rattle.std.specs.Prelude.{⊤, Result, Ok, Err}
use Rattle.record.specs.Form.{Field, FaultAt, several, first_fault, fault_place}
use Rattle.fault.specs.Rest.{held_all}

-- ---- what fields are told as: `told` goes on behind a field that is fine and tells the place of one that is not

module _ {A : Type 0} (told : List Field → A) (bad : ℕ → A) (goes : (f : Field) (fs : List Field) → told (f ∷ fs) ≡ cond f.fine (told fs) (bad f.place)) where
  -- n fields of the same width, looked at from the i-th on, and those behind them
  module _ (n width : ℕ) (fine : ℕ → Bool) (at : ℕ) (behind : List Field) where
    unfoldable pub from : ℕ → A
    from i = told (several (n - i) width fine at (width * i) ++ behind)

    pub from_all : told (several n width fine at 0 ++ behind) ≡ from 0
    unfolding from
    from_all = let e : width * 0 ≡ 0 = omega arith in rw (sub-zero n, e) refl

    one_more : (i : ℕ) → i < n → n - i ≡ suc (n - (i + 1))
    one_more i h = omega arith

    pub from-bad : (i : ℕ) → i < n → fine (width * i) ≡ false → bad (at + width * i) ≡ from i
    unfolding from
    from-bad i h e = rw (one_more i h, goes, e) refl

    pub from-fine : (i : ℕ) → i < n → fine (width * i) ≡ true → from i ≡ from (i + 1)
    unfolding from
    from-fine i h e = let f : width * i + width ≡ width * (i + 1) = omega arith in rw (one_more i h, goes, e, f) refl

    pub from-none : (i : ℕ) → n ≤ i → from i ≡ told behind
    unfolding from
    from-none i h = let e : n - i ≡ 0 = omega arith in rw e refl

-- ---- the two ways of telling them

-- as the place of the first fault, 0 where there is none
pub place-goes : (f : Field) (fs : List Field) → fault_place (first_fault (f ∷ fs)) ≡ cond f.fine (fault_place (first_fault fs)) f.place
place-goes f fs = by f.fine
  where
    by : (t : Bool) → fault_place (cond t (first_fault fs) (FaultAt f.place)) ≡ cond t (fault_place (first_fault fs)) f.place
    by true = refl
    by false = refl

-- as the tests answer it
pub held-goes : (f : Field) (fs : List Field) → held_all (f ∷ fs) ≡ cond f.fine (held_all fs) (Err f.place)
unfolding held_all
held-goes f fs = refl

-- as the loops do, with nothing behind
module _ (n width : ℕ) (fine : ℕ → Bool) (at : ℕ) where
  unfoldable pub left : ℕ → Result ⊤ ℕ
  left = from held_all Err held-goes n width fine at []

  pub left_all : held_all (several n width fine at 0) ≡ left 0
  unfolding left
  left_all = ap held_all (sym (append-nil (several n width fine at 0))) ∙ from_all held_all Err held-goes n width fine at []

  pub left_bad : (i : ℕ) → i < n → fine (width * i) ≡ false → left i ≡ Err (at + width * i)
  unfolding left
  left_bad i h e = sym (from-bad held_all Err held-goes n width fine at [] i h e)

  pub left_fine : (i : ℕ) → i < n → fine (width * i) ≡ true → left i ≡ left (i + 1)
  unfolding left
  left_fine = from-fine held_all Err held-goes n width fine at []

  pub left_none : (i : ℕ) → n ≤ i → left i ≡ Ok tt
  unfolding left held_all
  left_none = from-none held_all Err held-goes n width fine at []
