-- Laws of bytes with four bits in use, each by one test that is computed over all choices.
use Prim.Native.Nat.{ℕ, zero, suc, ◌-◌, ◌%◌, ◌^◌, ◌≤◌, ◌<◌}
use mathlib.Core.Path.{◌≡◌, refl}
use mathlib.Core.Bool.{Bool, true, false, cond, not, ◌&&◌, beq, and-eq-true_iff, false≢true}
use native.Mathlib.Nat.{not-suc-le-zero, le_of_suc-le-suc}
use lib.Dec.{ltb, eqb}
use lib.Bits.{bit_and, bit_or}
use borrow.Author.Tests.{eqb-true, ltb-true}
use Rattle.record.specs.Layout.{nibble, bit_of}

-- ---- tests of all choices

abbrev pub below : ℕ → (ℕ → Bool) → Bool
below zero f = true
below (suc n) f = f zero && below n (λ k. f (suc k))

pub below_each : (n : ℕ) (f : ℕ → Bool) → below n f ≡ true → (k : ℕ) → k < n → f k ≡ true
below_each zero f t k h = absurd (not-suc-le-zero h)
below_each (suc n) f t zero h = ((and-eq-true_iff (f zero) (below n (λ k. f (suc k)))).0 t).0
below_each (suc n) f t (suc k) h = below_each n (λ k. f (suc k)) ((and-eq-true_iff (f zero) (below n (λ k. f (suc k)))).0 t).1 k (le_of_suc-le-suc h)

abbrev pub both : (Bool → Bool) → Bool
both f = f true && f false

both-each : (f : Bool → Bool) → both f ≡ true → (b : Bool) → f b ≡ true
both-each f t true = ((and-eq-true_iff (f true) (f false)).0 t).0
both-each f t false = ((and-eq-true_iff (f true) (f false)).0 t).1

abbrev pub sixteen : (Bool → Bool → Bool → Bool → Bool) → Bool
sixteen f = both (λ a. both (λ b. both (λ c. both (λ d. f a b c d))))

pub sixteen-each : (f : Bool → Bool → Bool → Bool → Bool) → sixteen f ≡ true → (a b c d : Bool) → f a b c d ≡ true
sixteen-each f t a b c d =
    both-each (λ d. f a b c d) (both-each (λ c. both (λ d. f a b c d)) (both-each (λ b. both (λ c. both (λ d. f a b c d))) (both-each (λ a. both (λ b. both (λ c. both (λ d. f a b c d)))) t a) b) c) d

beq-true : (a b : Bool) → beq a b ≡ true → a ≡ b
beq-true true true e = refl
beq-true true false e = absurd (false≢true e)
beq-true false true e = absurd (false≢true e)
beq-true false false e = refl

-- ---- four bits in a byte

pub nibble-below : (a b c d : Bool) → nibble a b c d < 16
nibble-below a b c d = ltb-true (nibble a b c d) 16 (sixteen-each (λ a b c d. ltb (nibble a b c d) 16) refl a b c d)

pub nibble-back : (n : ℕ) → n < 16 → nibble (bit_of n 1) (bit_of n 2) (bit_of n 4) (bit_of n 8) ≡ n
nibble-back n h =
    eqb-true (nibble (bit_of n 1) (bit_of n 2) (bit_of n 4) (bit_of n 8)) n
    (below_each 16 (λ n. eqb (nibble (bit_of n 1) (bit_of n 2) (bit_of n 4) (bit_of n 8)) n) refl n h)

bit-back : (unit : ℕ) (bit : Bool → Bool → Bool → Bool → Bool) → sixteen (λ a b c d. beq (bit_of (nibble a b c d) unit) (bit a b c d)) ≡ true → (a b c d : Bool)
    → bit_of (nibble a b c d) unit ≡ bit a b c d
bit-back unit bit t a b c d =
    beq-true (bit_of (nibble a b c d) unit) (bit a b c d) (sixteen-each (λ a b c d. beq (bit_of (nibble a b c d) unit) (bit a b c d)) t a b c d)

pub bits_back : (a b c d : Bool) → let n = nibble a b c d in (bit_of n 1 ≡ a) × (bit_of n 2 ≡ b) × (bit_of n 4 ≡ c) × (bit_of n 8 ≡ d)
bits_back a b c d =
    (bit-back 1 (λ a b c d. a) refl a b c d, bit-back 2 (λ a b c d. b) refl a b c d, bit-back 4 (λ a b c d. c) refl a b c d, bit-back 8 (λ a b c d. d) refl a b c d)

-- bit 0 is whether the byte is odd
pub even_is : (n : ℕ) → n < 16 → eqb (n % 2) 0 ≡ not (bit_of n 1)
even_is n h = beq-true (eqb (n % 2) 0) (not (bit_of n 1)) (below_each 16 (λ n. beq (eqb (n % 2) 0) (not (bit_of n 1))) refl n h)

-- v stored in bit k - 1 of a byte, which keeps its other bits, those above the four too
abbrev pub masked : ℕ → Bool → ℕ → ℕ
masked k v n = cond v (bit_or n (2 ^ (k - 1))) (bit_and n (255 - 2 ^ (k - 1)))

-- the same, bit by bit
abbrev pub switched : ℕ → Bool → Bool → Bool → Bool → Bool → ℕ
switched k v a b c d = nibble (cond (eqb k 1) v a) (cond (eqb k 2) v b) (cond (eqb k 3) v c) (cond (eqb k 4) v d)

abbrev alike : ℕ → Bool → Bool → Bool → Bool → Bool → Bool
alike k v a b c d = eqb (masked k v (nibble a b c d)) (switched k v a b c d)

pub switch : (k : ℕ) → 1 ≤ k → k ≤ 4 → (v a b c d : Bool) → masked k v (nibble a b c d) ≡ switched k v a b c d
switch zero l h v a b c d = absurd (not-suc-le-zero l)
switch (suc k) l h v a b c d =
    eqb-true (masked (suc k) v (nibble a b c d)) (switched (suc k) v a b c d)
    (sixteen-each (alike (suc k) v) (both-each (λ v. sixteen (alike (suc k) v)) (below_each 4 (λ k. both (λ v. sixteen (alike (suc k) v))) refl k h) v) a b c d)
