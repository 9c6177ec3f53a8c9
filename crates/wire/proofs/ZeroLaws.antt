-- Lists with zeros behind them, and the bytes up to the first zero.
use Prim.Native.Nat.{ℕ, zero, suc, ◌+◌, ◌-◌, ◌≤◌, ◌<◌}
use mathlib.Core.Path.{◌≡◌, refl, sym, ap, ap₂, ◌∙◌}
use mathlib.Core.Logic.{◌≢◌}
use mathlib.Core.Bool.{Bool, true, false, ◌&&◌, and_assoc, and-true, and-eq-true_iff}
use mathlib.Core.List.{List, [], ◌∷◌, ◌++◌}
use native.Mathlib.Omega.{arith}
use lib.ListN.{length, get_or, take, drop, replicate, length-append, length-replicate, take-append-drop}
use lib.Seq.{take-append_seam, drop-append_seam}
use lib.Bits.{bit_or, or_add_and, and_le_l, and_le_r}
use lib.Dec.{eqb}
use borrow.Author.Tests.{eq-eqb, eqb-true}
use Rattle.std.proofs.Common.{Option}
use Rattle.std.proofs.lemmas.Iterator.{index_from_first}
use Rattle.std.specs.List.{fold, AllWithin, HoldsAt}
use Rattle.std.specs.Option.{MatchOption, unwrap_or}
use Rattle.wire.specs.Numbers.{Bytes, bytes_at}
use Rattle.wire.specs.Zeros.{all_zero, zeros_behind, before_zero}
use Rattle.wire.proofs.NumberLaws.{bytes_take}

-- two tests that hold alike
pub same-zero : (a b : ℕ) (t : Bool) → (a ≡ 0 → (b ≡ 0) × (t ≡ true)) → (b ≡ 0 → t ≡ true → a ≡ 0) → eqb a 0 ≡ (eqb b 0 && t)
same-zero a b t f g = go (eqb a 0) (eqb b 0) t refl refl refl
  where
    go : (x y z : Bool) → eqb a 0 ≡ x → eqb b 0 ≡ y → t ≡ z → x ≡ (y && z)
    go true y z p q r = let w = f (eqb-true a 0 p) in rw (sym q ∙ eq-eqb b 0 w.0, sym r ∙ w.1) refl
    go false true true p q r = sym p ∙ eq-eqb a 0 (g (eqb-true b 0 q) r)
    go false true false p q r = refl
    go false false z p q r = refl

pub or-zero : (a b : ℕ) → eqb (bit_or a b) 0 ≡ (eqb a 0 && eqb b 0)
or-zero a b =
    same-zero (bit_or a b) a (eqb b 0) (λ e. (omega (arith, or_add_and a b, and_le_l a b, and_le_r a b), eq-eqb b 0 (omega (arith, or_add_and a b, and_le_l a b, and_le_r a b))))
    (λ e f. omega (arith, or_add_and a b, eqb-true b 0 f))

-- the bits of all bytes, as a fold gathers them
pub fold-zero : (s : List ℕ) (a : ℕ) → eqb (fold bit_or a s) 0 ≡ (eqb a 0 && all_zero s)
unfolding all_zero
fold-zero [] a = sym (and-true (eqb a 0))
fold-zero (b ∷ s) a = fold-zero s (bit_or a b) ∙ ap (λ (t : Bool). t && all_zero s) (or-zero a b) ∙ and_assoc (eqb a 0) (eqb b 0) (all_zero s)

-- ---- zeros behind a list

pub shift : (n x : ℕ) (l : List ℕ) (j : ℕ) → bytes_at n (x ∷ l) (suc j) ≡ bytes_at n l j
shift zero x l j = refl
shift (suc n) x l j = ap (λ (t : List ℕ). get_or l j 0 ∷ t) (shift n x l (suc j))

none_is : (z : List ℕ) (j : ℕ) → all_zero z ≡ true → bytes_at (length z) [] j ≡ z
unfolding all_zero
none_is [] j e = refl
none_is (b ∷ z) j e =
    let w = (and-eq-true_iff (eqb b 0) (all_zero z)).0 e in
    ap₂ (◌∷◌) (sym (eqb-true b 0 w.0)) (none_is z (suc j) w.1)

-- the bytes of a part are those in use and zeros
padded-by : (p z : List ℕ) → all_zero z ≡ true → bytes_at (length (p ++ z)) p 0 ≡ p ++ z
padded-by [] z e = none_is z 0 e
padded-by (x ∷ p) z e = ap (λ (t : List ℕ). x ∷ t) (shift (length (p ++ z)) x p 0 ∙ padded-by p z e)

zeros : (n : ℕ) → all_zero (replicate n 0) ≡ true
unfolding all_zero
zeros zero = refl
zeros (suc n) = zeros n

pub padded : (m : ℕ) (l : List ℕ) → length l ≤ m → bytes_at m l 0 ≡ l ++ replicate (m - length l) 0
padded m l h =
    let e : length (l ++ replicate (m - length l) 0) ≡ m = simp (length-append, length-replicate) (omega arith) in
    rw e at (padded-by l (replicate (m - length l) 0) (zeros (m - length l)))

pub part-back : (m : ℕ) (l : List ℕ) → length l ≤ m → take (length l) (bytes_at m l 0) ≡ l
part-back m l h = rw (padded m l h) (take-append_seam l (replicate (m - length l) 0))

pub rest-zero : (m : ℕ) (l : List ℕ) → length l ≤ m → all_zero (drop (length l) (bytes_at m l 0)) ≡ true
rest-zero m l h = rw (padded m l h, drop-append_seam l (replicate (m - length l) 0)) (zeros (m - length l))

pub pad-take : (n : ℕ) (l : List ℕ) → all_zero (drop n l) ≡ true → bytes_at (length l) (take n l) 0 ≡ l
pad-take n l e = rw (take-append-drop n l) at (padded-by (take n l) (drop n l) e)

-- ---- up to the first zero

-- the definition as `position` computes it
pub cut-first : (l : List ℕ) (r : Option ℕ) → MatchOption r (AllWithin (λ b. b ≢ 0) l 0 (length l)) (λ i. (i < length l) × HoldsAt (λ b. b ≡ 0) l i × AllWithin (λ b. b ≢ 0) l 0 i) → length (before_zero l) ≡ unwrap_or r (length l)
unfolding before_zero
cut-first = index_from_first (λ l. length (before_zero l)) (λ b. b ≡ 0) (λ b. b ≢ 0) refl hit miss
  where
    hit : (b : ℕ) (l : List ℕ) → b ≡ 0 → length (before_zero (b ∷ l)) ≡ 0
    hit b l e = rw e refl

    miss : (b : ℕ) (l : List ℕ) → b ≢ 0 → length (before_zero (b ∷ l)) ≡ length (before_zero l) + 1
    miss zero l h = absurd (h refl)
    miss (suc b) l h = omega arith

pub cut-take : (l : List ℕ) → take (length (before_zero l)) l ≡ before_zero l
unfolding before_zero
cut-take [] = refl
cut-take (zero ∷ l) = refl
cut-take (suc b ∷ l) = ap (λ (t : List ℕ). suc b ∷ t) (cut-take l)

pub cut-bytes : (l : List ℕ) → Bytes l → Bytes (before_zero l)
cut-bytes l b = rw (← cut-take l) (bytes_take (length (before_zero l)) l b)

pub cut-cut : (l : List ℕ) → before_zero (before_zero l) ≡ before_zero l
unfolding before_zero
cut-cut [] = refl
cut-cut (zero ∷ l) = refl
cut-cut (suc b ∷ l) = ap (λ (t : List ℕ). suc b ∷ t) (cut-cut l)

pub cut-le : (l : List ℕ) → length (before_zero l) ≤ length l
unfolding before_zero
cut-le [] = omega arith
cut-le (zero ∷ l) = omega arith
cut-le (suc b ∷ l) = omega (arith, cut-le l)

cut-zeros : (n : ℕ) (l : List ℕ) → before_zero (l ++ replicate n 0) ≡ before_zero l
unfolding before_zero
cut-zeros zero [] = refl
cut-zeros (suc n) [] = refl
cut-zeros n (zero ∷ l) = refl
cut-zeros n (suc b ∷ l) = ap (λ (t : List ℕ). suc b ∷ t) (cut-zeros n l)

-- what stands behind the first zero is what stands behind the bytes before it
pub behind-is : (l : List ℕ) → zeros_behind l ≡ all_zero (drop (length (before_zero l)) l)
unfolding zeros_behind all_zero before_zero
behind-is [] = refl
behind-is (zero ∷ l) = refl
behind-is (suc b ∷ l) = behind-is l

pub cut-back : (m : ℕ) (l : List ℕ) → length l ≤ m → before_zero l ≡ l → before_zero (bytes_at m l 0) ≡ l
cut-back m l h e = rw (padded m l h) (cut-zeros (m - length l) l ∙ e)

pub cut-behind : (m : ℕ) (l : List ℕ) → length l ≤ m → before_zero l ≡ l → zeros_behind (bytes_at m l 0) ≡ true
cut-behind m l h e = rw (behind-is (bytes_at m l 0), cut-back m l h e) (rest-zero m l h)

pub pad-cut : (l : List ℕ) → zeros_behind l ≡ true → bytes_at (length l) (before_zero l) 0 ≡ l
pad-cut l e = rw (cut-take l) at (pad-take (length (before_zero l)) l (sym (behind-is l) ∙ e))
