-- The order of patterns, by their signs; and finite patterns, by the greatest of them.
use Rattle.std.proofs.Common.{◌≡◌, ℕ, ◌+◌, ◌%◌, ◌<◌, ◌≤◌, max, Bool, true, false, not, ◌&&◌, cond, eqb, ltb, leb, ◌⊎◌, ◌∙◌, sym, refl, inl, inr, arith, eqb-true, leb-false, leb-true, ltb-false, ltb-true}
use Rattle.std.proofs.lemmas.Bool.{eqb-false}
use Rattle.std.proofs.lemmas.Bool.Decides.{nat_tests}
use Rattle.peak.specs.Pairs.{key, less}
use Rattle.peak.specs.Ways.{turned, lesser}

-- ---- tests

pub same : (x y : Bool) → (x ≡ true → y ≡ true) → (y ≡ true → x ≡ true) → x ≡ y
same true y f g = sym (f refl)
same false true f g = g refl
same false false f g = refl

pub split : (a b : ℕ) → (a < b) ⊎ (b ≤ a)
split a b = go (ltb a b) refl
  where
    go : (t : Bool) → ltb a b ≡ t → (a < b) ⊎ (b ≤ a)
    go true e = inl (ltb-true a b e)
    go false e = inr (ltb-false a b e)

pub alike : (p q r s : ℕ) → (p < q → r < s) → (q ≤ p → s ≤ r) → ltb p q ≡ ltb r s
alike p q r s f g = grind (arith, nat_tests)

pub not-less : (a b : ℕ) → not (ltb a b) ≡ leb b a
not-less a b = grind (arith, nat_tests)

-- ---- the ways of two patterns in the order of their keys

module _ (x y : ℕ) (X : x < 0x100000000) (Y : y < 0x100000000) where
  module _ (h : 0x80000000 ≤ x) where
    pub above-negative : ltb x y ≡ less y x
    unfolding key
    above-negative = grind (arith, nat_tests)

    pub below-zero : x ≡ 0x80000000 → y < x → not (eqb y 0) ≡ less x y
    unfolding key
    below-zero e k = grind (arith, nat_tests)

    pub below-further : y < x → (x ≡ 0x80000000 → ⊥) → true ≡ less x y
    unfolding key
    below-further k n = grind (arith, nat_tests)

    pub below-not : x ≤ y → false ≡ less x y
    unfolding key
    below-not k = grind (arith, nat_tests)

  module _ (h : x < 0x80000000) where
    pub above_zero : x ≡ 0 → turned y < turned x → ltb 0x80000000 y ≡ less y x
    unfolding key
    above_zero e k = grind (arith, nat_tests)

    pub above-further : (x ≡ 0 → ⊥) → turned y < turned x → true ≡ less y x
    unfolding key
    above-further n k = grind (arith, nat_tests)

    pub above-not : turned x ≤ turned y → false ≡ less y x
    unfolding key
    above-not k = grind (arith, nat_tests)

    pub below-turned : ltb (turned x) (turned y) ≡ less x y
    unfolding key
    below-turned = grind (arith, nat_tests)

-- ---- by the sign of the lesser one it is the same order

pub exchanged : (x y : ℕ) → x < 0x100000000 → y < 0x100000000 → lesser x y ≡ less x y
unfolding lesser
exchanged x y X Y = go (leb 0x80000000 x) refl
  where
    far : 0x80000000 ≤ x → y < x → (t : Bool) → eqb x 0x80000000 ≡ t → cond t (not (eqb y 0)) true ≡ less x y
    far h k true e = below-zero x y X Y h (eqb-true x 0x80000000 e) k
    far h k false e = below-further x y X Y h k (eqb-false x 0x80000000 e)

    negative : 0x80000000 ≤ x → (t : Bool) → ltb y x ≡ t → cond t (cond (eqb x 0x80000000) (not (eqb y 0)) true) false ≡ less x y
    negative h true e = far h (ltb-true y x e) (eqb x 0x80000000) refl
    negative h false e = below-not x y X Y h (ltb-false y x e)

    go : (t : Bool) → leb 0x80000000 x ≡ t → cond t (cond (ltb y x) (cond (eqb x 0x80000000) (not (eqb y 0)) true) false) (ltb (turned x) (turned y)) ≡ less x y
    go true e = negative (leb-true 0x80000000 x e) (ltb y x) refl
    go false e = below-turned x y X Y (leb-false 0x80000000 x e)

-- ---- the ways out of `above`, which looks at the sign of the greater one

module _ (x y : ℕ) (X : x < 0x100000000) (Y : y < 0x100000000) where
  module _ (h : 0x80000000 ≤ x) where
    pub other-negative : ltb x y ≡ lesser y x
    other-negative = above-negative x y X Y h ∙ sym (exchanged y x Y X)

  module _ (h : x < 0x80000000) where
    pub other_zero : x ≡ 0 → turned y < turned x → ltb 0x80000000 y ≡ lesser y x
    other_zero e k = above_zero x y X Y h e k ∙ sym (exchanged y x Y X)

    pub other-further : (x ≡ 0 → ⊥) → turned y < turned x → true ≡ lesser y x
    other-further n k = above-further x y X Y h n k ∙ sym (exchanged y x Y X)

    pub other-not : turned x ≤ turned y → false ≡ lesser y x
    other-not k = above-not x y X Y h k ∙ sym (exchanged y x Y X)

pub ruleset ways = (above-negative, above_zero, above-further, above-not, other-negative, other_zero, other-further, other-not)

-- ---- finite patterns

pub max-below : (a b n : ℕ) → ltb (max a b) n ≡ (ltb a n && ltb b n)
max-below a b n = grind (arith, nat_tests)
