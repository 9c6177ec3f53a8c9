-- The setting that the match on numbers tells is the one whose row has the number.
use Prim.Native.Nat.{ℕ, ◌+◌}
use mathlib.Core.Path.{◌≡◌, refl, sym, subst, ◌∙◌}
use mathlib.Core.Logic.{◌⊎◌, inl, inr, ⊎_elim}
use mathlib.Core.Bool.{Bool, true, false, cond, not, ◌||◌}
use mathlib.Core.List.{List, [], ◌∷◌}
use native.Mathlib.Omega.{arith}
use borrow.Author.Tests.{eq-eqb, ne_eqb, eqb-true, leb-true, leb-false}
use lib.Dec.{eqb, leb}
use Rattle.record.specs.declared.Setting.{Setting}
use Rattle.record.specs.Settings.{settings, setting_place}
use Rattle.record.proofs.SettingLaws.{each, every, same-setting}
use Rattle.command.specs.Rows.{numbers_of}
use Rattle.command.proofs.EntryLaws.{apart}
use Rattle.table.specs.Touched.{OneOfTwo, firsts, final_place, is_last, NoneOf, Touched, touches}

-- ---- each number belongs to one setting: two tests over all pairs of settings

abbrev alone : ℕ → Setting → Setting → Bool
alone n j k = not (touches n k) || eqb (setting_place k) (setting_place j)

freed : (t u : Bool) → (not t || u) ≡ true → t ≡ true → u ≡ true
freed true u h e = h
freed false u h e = apart (sym e)

by-reader : (j k : Setting) → touches (numbers_of j).reader k ≡ true → k ≡ j
by-reader j k h =
    let w = every (alone (numbers_of j).reader j) (every (λ i. each (alone (numbers_of i).reader i) settings) refl j) k in
    same-setting k j (freed (touches (numbers_of j).reader k) (eqb (setting_place k) (setting_place j)) w h)

by-setter : (j k : Setting) → touches (numbers_of j).setter k ≡ true → k ≡ j
by-setter j k h =
    let w = every (alone (numbers_of j).setter j) (every (λ i. each (alone (numbers_of i).setter i) settings) refl j) k in
    same-setting k j (freed (touches (numbers_of j).setter k) (eqb (setting_place k) (setting_place j)) w h)

-- ---- one of two neighbours is the one or the other

either : (a b : Bool) → (a || b) ≡ true → (a ≡ true) ⊎ (b ≡ true)
either true b h = inl refl
either false b h = inr h

or_right : (a b : Bool) → b ≡ true → (a || b) ≡ true
or_right true b h = refl
or_right false b h = h

module _ (n a b : ℕ) (h : OneOfTwo n a b) where
  low : b ≡ a + 1 → (t : Bool) → leb n a ≡ t → (n ≡ a) ⊎ (n ≡ b)
  low s true e = inl (omega (arith, leb-true n a e))
  low s false e = inr (omega (arith, leb-false n a e))

  high : a ≡ b + 1 → (t : Bool) → leb n b ≡ t → (n ≡ a) ⊎ (n ≡ b)
  high s true e = inr (omega (arith, leb-true n b e))
  high s false e = inl (omega (arith, leb-false n b e))

-- the two numbers of a setting are neighbours
abbrev neighbours : Setting → Bool
neighbours k = eqb (numbers_of k).setter ((numbers_of k).reader + 1) || eqb (numbers_of k).reader ((numbers_of k).setter + 1)

touched : (n : ℕ) (k : Setting) → OneOfTwo n (numbers_of k).reader (numbers_of k).setter → touches n k ≡ true
touched n k h =
    let a = (numbers_of k).reader in
    let b = (numbers_of k).setter in
    let two = ⊎_elim (λ e. low n a b h (eqb-true b (a + 1) e) (leb n a) refl) (λ e. high n a b h (eqb-true a (b + 1) e) (leb n b) refl) (either (eqb b (a + 1)) (eqb a (b + 1)) (every neighbours refl k)) in
    ⊎_elim (λ e. rw (eq-eqb n a e) refl) (λ e. or_right (eqb n a) (eqb n b) (eq-eqb n b e)) two

-- ---- what is left is the last

none : (n : ℕ) (P : Type 0) (ks : List Setting) → NoneOf n P ks → P × (each (λ k. not (touches n k)) ks ≡ true)
none n P [] h = (h, refl)
none n P (k ∷ ks) h =
    let w = none n ((P × (n ≡ (numbers_of k).reader → ⊥)) × (n ≡ (numbers_of k).setter → ⊥)) ks h in
    (w.0.0.0, rw (ne_eqb n (numbers_of k).reader w.0.0.1, ne_eqb n (numbers_of k).setter w.0.1) w.1)

-- a setting that is not the last is among those before it
last-left : (n : ℕ) → NoneOf n (Unit {0}) (firsts settings) → (j : Setting) → touches n j ≡ true → is_last j settings ≡ true
last-left n h j t = by (is_last j settings) (touches n j) (every (λ k. is_last k settings || not (touches n k)) (none n (Unit {0}) (firsts settings) h).1 j) t
  where
    by : (a b : Bool) → (a || not b) ≡ true → b ≡ true → a ≡ true
    by true b w e = refl
    by false true w e = w
    by false false w e = e

module _ (n : ℕ) (k : Setting) (h : Touched n k) where
  -- the one setting that has the number
  found : (j : Setting) → touches n j ≡ true → ((i : Setting) → touches n i ≡ true → i ≡ j) → k ≡ j
  found j t one = by (is_last k settings) refl h
    where
      by : (b : Bool) → is_last k settings ≡ b → cond b (NoneOf n (Unit {0}) (firsts settings)) (OneOfTwo n (numbers_of k).reader (numbers_of k).setter) → k ≡ j
      by true e w = same-last e (last-left n w j t)
        where
          same-last : is_last k settings ≡ true → is_last j settings ≡ true → k ≡ j
          same-last a b = same-setting k j (eq-eqb (setting_place k) (setting_place j) (eqb-true (setting_place k) (final_place settings) a ∙ sym (eqb-true (setting_place j) (final_place settings) b)))
      by false e w = one k (touched n k w)

  pub reads-one : (j : Setting) → (numbers_of j).reader ≡ n → k ≡ j
  reads-one j e = found j (rw (eq-eqb n (numbers_of j).reader (sym e)) refl) (λ i t. by-reader j i (subst (λ (m : ℕ). touches m i ≡ true) (sym e) t))

  pub sets-one : (j : Setting) → (numbers_of j).setter ≡ n → k ≡ j
  sets-one j e = found j (or_right (eqb n (numbers_of j).reader) (eqb n (numbers_of j).setter) (eq-eqb n (numbers_of j).setter (sym e))) (λ i t. by-setter j i (subst (λ (m : ℕ). touches m i ≡ true) (sym e) t))
