-- Parts of the bytes of a record: numbers, pairs, and runs of stores.
use Prim.Native.Nat.{ℕ, zero, suc, ◌+◌, ◌*◌, ◌≤◌, ◌<◌}
use mathlib.Core.Path.{◌≡◌, refl, sym, ap, ◌∙◌}
use mathlib.Core.List.{List, [], ◌∷◌, ◌++◌}
use native.Mathlib.Nat.{add-zero, zero-add, add-suc, suc-add, not-suc-le-zero, le_of_suc-le-suc}
use native.Mathlib.Numerals.{towards_suc}
use native.Mathlib.Omega.{arith}
use lib.ListN.{length, get_or, take, drop, set, length-set}
use lib.Seq.{sets, set-append_left, get_or-drop}
use Rattle.wire.specs.Numbers.{Bytes, half_at, word_at, bytes2, bytes4, bytes_at}
use Rattle.wire.proofs.NumberLaws.{half-bytes, word_back, word_bytes}
use Rattle.peak.specs.Pairs.{Pair, no_pair, pair_at, pairs_at, pair_bytes, pairs_bytes}

-- ---- numbers in a list of bytes

pub word_lt : (s : List ℕ) → Bytes s → (at : ℕ) → word_at s at < 0x100000000
word_lt s b at = omega (arith, b at, b (at + 1), b (at + 2), b (at + 3))

pub half_at_lem : (s : List ℕ) → Bytes s → (at : ℕ) → bytes2 (half_at s at) ≡ bytes_at 2 s at
half_at_lem s b at = half-bytes (get_or s at 0) (get_or s (at + 1) 0) (b at) (b (at + 1)) ∙ simp towards_suc

pub word-at : (s : List ℕ) → Bytes s → (at : ℕ) → bytes4 (word_at s at) ≡ bytes_at 4 s at
word-at s b at =
    word_bytes (get_or s at 0) (get_or s (at + 1) 0) (get_or s (at + 2) 0) (get_or s (at + 3) 0) (b at) (b (at + 1)) (b (at + 2)) (b (at + 3)) ∙ simp towards_suc

-- ---- elements of a part

pub part_at : (n : ℕ) (s : List ℕ) (at k : ℕ) → k < n → get_or (bytes_at n s at) k 0 ≡ get_or s (at + k) 0
part_at zero s at k h = absurd (not-suc-le-zero h)
part_at (suc n) s at zero h = rw (add-zero at) refl
part_at (suc n) s at (suc k) h = rw (add-suc at k, ← suc-add at k) (part_at n s (suc at) k (le_of_suc-le-suc h))

-- where a part holds a list, so does each of its places
pub part-get : (n : ℕ) (s : List ℕ) (at : ℕ) (l : List ℕ) → bytes_at n s at ≡ bytes_at n l 0 → (k : ℕ) → k < n → get_or s (at + k) 0 ≡ get_or l k 0
part-get n s at l e k h = sym (part_at n s at k h) ∙ ap (λ (x : List ℕ). get_or x k 0) e ∙ part_at n l 0 k h ∙ ap (λ (j : ℕ). get_or l j 0) (zero-add k)

pub part-drop : (n m : ℕ) (s : List ℕ) (j : ℕ) → bytes_at n s (m + j) ≡ bytes_at n (drop m s) j
part-drop zero m s j = refl
part-drop (suc n) m s j = rw (get_or-drop m s j 0, ← add-suc m j) (ap (λ (t : List ℕ). get_or s (m + j) 0 ∷ t) (part-drop n m s (suc j)))

-- ---- runs of stores behind and within a part

sets-nil : (j : ℕ) (vs : List ℕ) → sets [] j vs ≡ []
sets-nil j [] = refl
sets-nil j (v ∷ vs) = sets-nil (suc j) vs

pub sets-cons : (x : ℕ) (l : List ℕ) (j : ℕ) (vs : List ℕ) → sets (x ∷ l) (suc j) vs ≡ x ∷ sets l j vs
sets-cons x l j [] = refl
sets-cons x l j (v ∷ vs) = sets-cons x (set l j v) (suc j) vs

pub sets_behind : (n : ℕ) (l : List ℕ) (j : ℕ) (vs : List ℕ) → sets l (n + j) vs ≡ take n l ++ sets (drop n l) j vs
sets_behind zero l j vs = rw (zero-add j) refl
sets_behind (suc n) [] j vs = sets-nil (suc n + j) vs ∙ sym (sets-nil j vs)
sets_behind (suc n) (x ∷ l) j vs = rw (suc-add n j) (sets-cons x l (n + j) vs ∙ ap (λ (t : List ℕ). x ∷ t) (sets_behind n l j vs))

pub sets-within : (p q : List ℕ) (j : ℕ) (vs : List ℕ) → j + length vs ≤ length p → sets (p ++ q) j vs ≡ sets p j vs ++ q
sets-within p q j [] h = refl
sets-within p q j (v ∷ vs) h = rw (set-append_left p q j v (omega arith)) (sets-within (set p j v) q (suc j) vs (omega (arith, length-set p j v)))

-- ---- pairs one behind the other

-- both numbers of every pair have four bytes
abbrev pub Words : List Pair → Type 0
Words ps = (i : ℕ) → ((get_or ps i no_pair).greatest < 0x100000000) × ((get_or ps i no_pair).smallest < 0x100000000)

pub words-lt : (s : List ℕ) → Bytes s → (n at : ℕ) → Words (pairs_at n s at)
words-lt s b zero at i = (omega arith, omega arith)
words-lt s b (suc n) at zero = (word_lt s b at, word_lt s b (at + 4))
words-lt s b (suc n) at (suc i) = words-lt s b n (at + 8) i

pub pair-back : (p : Pair) → p.greatest < 0x100000000 → p.smallest < 0x100000000 → pair_at (pair_bytes p) 0 ≡ p
pair-back p g h = λ i. record { greatest = word_back p.greatest g i; smallest = word_back p.smallest h i }

pub pair-part : (s : List ℕ) (at : ℕ) → pair_at s at ≡ pair_at (bytes_at 8 s at) 0
pair-part s at = simp towards_suc

pub pairs-part : (n : ℕ) (ps : List Pair) (i k : ℕ) → k < n → bytes_at 8 (pairs_bytes n ps i) (8 * k) ≡ pair_bytes (get_or ps (i + k) no_pair)
pairs-part zero ps i k h = absurd (not-suc-le-zero h)
pairs-part (suc n) ps i zero h = rw (add-zero i) refl
pairs-part (suc n) ps i (suc k) h =
    let next : 8 * suc k ≡ 8 + 8 * k = omega arith in
    rw (next, add-suc i k, ← suc-add i k) (part-drop 8 8 (pairs_bytes (suc n) ps i) (8 * k) ∙ pairs-part n ps (suc i) k (le_of_suc-le-suc h))

pub pairs-shift : (n : ℕ) (p : Pair) (ps : List Pair) (j : ℕ) → pairs_bytes n (p ∷ ps) (suc j) ≡ pairs_bytes n ps j
pairs-shift zero p ps j = refl
pairs-shift (suc n) p ps j = ap (λ (l : List ℕ). pair_bytes (get_or ps j no_pair) ++ l) (pairs-shift n p ps (suc j))

pub pairs_set : (n : ℕ) (ps : List Pair) (k : ℕ) (v : Pair) → length ps ≡ n → k < n → sets (pairs_bytes n ps 0) (8 * k) (pair_bytes v) ≡ pairs_bytes n (set ps k v) 0
pairs_set zero ps k v e h = absurd (not-suc-le-zero h)
pairs_set (suc n) [] k v e h = absurd (let z : ⊥ = omega arith in z)
pairs_set (suc n) (p ∷ ps) zero v e h = ap (λ (l : List ℕ). pair_bytes v ++ l) (pairs-shift n p ps 0 ∙ sym (pairs-shift n v ps 0))
pairs_set (suc n) (p ∷ ps) (suc k) v e h =
    let next : 8 * suc k ≡ 8 + 8 * k = omega arith in
    rw next
    (sets_behind 8 (pairs_bytes (suc n) (p ∷ ps) 0) (8 * k) (pair_bytes v)
    ∙ ap (λ (l : List ℕ). pair_bytes p ++ l)
    (ap (λ (l : List ℕ). sets l (8 * k) (pair_bytes v)) (pairs-shift n p ps 0) ∙ pairs_set n ps k v (omega arith) (omega arith) ∙ sym (pairs-shift n p (set ps k v) 0)))
