-- The order of finite floats is that of the keys of their patterns, and a finite pattern is not lost on the way through a float.
use Rattle.std.proofs.Common.{◌≡◌, ℕ, zero, suc, ◌+◌, ◌-◌, ◌*◌, ◌/◌, ◌%◌, ◌^◌, ◌<◌, ◌≤◌, Bool, true, false, cond, not, T, eqb, ltb, leb, ◌⊎◌, sym, refl, ap, ◌∙◌, subst, inl, inr, le_trans, le_of_eq, lt_of_lt_of_le, le_of_lt, mul-le-mul_right, mul_assoc, mul_comm, add-mul, eq-zero-or-pos, lt_of_mul-lt-mul_right, eq-or-lt_of_le, mul-le-mul_left, mul-lt-mul_of_pos_right, mul-pos, zero-mul, mul_right_comm, le_of_mul-le-mul_right, arith, pow_pos, pow_mono, ltb-true, le-ltb, lt-ltb, ne_eqb, le-leb}
use native.Mathlib.Nat.{pow-succ'}
use borrow.Author.Tests.{lt-leb}
use lib.Ieee.{Float, nan, inf, fin, binary32, up, down, odd, of_fields, of_bits, to_bits, nan_bits, is_nan, lt, below}
use lib.Ieee.Fits.{down_pos}
use lib.Ieee.Bits.{nan_bits_is, nan_bits_above, to_bits-of_bits}
use lib.Ieee.Exact.{HasValue, odd_sign}
use Rattle.peak.specs.Pairs.{finite, key, less}
use Rattle.peak.specs.Floats.{bits_of, float_of}
use Rattle.peak.proofs.Patterns.{same, split, alike}

-- a finite pattern is no NaN's
pub no_nan : (n : ℕ) → finite n ≡ true → T (not (nan_bits binary32 n))
no_nan n h =
    let l : n % 0x80000000 < 0x7F800000 = ltb-true _ _ h in
    subst (λ (b : Bool). T (not b)) (sym (nan_bits_above binary32 n ∙ le-ltb 0x7F800000 (n % 0x80000000) (omega arith))) tt

-- ---- the value of a pattern without its sign, in units of 2 ^ -149
lead : ℕ → ℕ
lead zero = 0
lead (suc x) = 0x800000

pub val : ℕ → ℕ
val m = (lead (m / 0x800000) + m % 0x800000) * 2 ^ (m / 0x800000 - 1)

fields-val : (s : Bool) (x t : ℕ) → x < 255 → HasValue (of_fields binary32 s x t) s ((lead x + t) * 2 ^ (x - 1)) (2 ^ 149)
unfolding of_fields lead
fields-val s zero t h = subst (λ (q : ℕ). HasValue (odd 24 s t 0 149) s (q * 2 ^ 0) (2 ^ 149)) (zero-plus t) (odd_sign 24 s t 0 149)
  where
    zero-plus : (t : ℕ) → t ≡ 0 + t
    zero-plus t = omega arith
fields-val s (suc x) t h =
    subst (λ (v : Float). HasValue v s ((0x800000 + t) * 2 ^ (suc x - 1)) (2 ^ 149)) (sym is)
    (subst (λ (k : ℕ). HasValue (odd 24 s (0x800000 + t) x 149) s ((0x800000 + t) * 2 ^ k) (2 ^ 149)) (back x) (odd_sign 24 s (0x800000 + t) x 149))
  where
    back : (x : ℕ) → x ≡ suc x - 1
    back x = omega arith

    is : of_fields binary32 s (suc x) t ≡ odd 24 s (0x800000 + t) x 149
    is = ap (λ (b : Bool). cond b (cond (eqb t 0) (inf s) nan) (odd 24 s (0x800000 + t) x 149)) (ne_eqb (suc x) 255 (λ e. differ x h e))
      where
        differ : (x : ℕ) → suc x < 255 → suc x ≡ 255 → ⊥
        differ x h e = omega arith

bits-val : (n : ℕ) → n % 0x80000000 < 0x7F800000 → HasValue (of_bits binary32 n) (leb 0x80000000 n) (val (n % 0x80000000)) (2 ^ 149)
unfolding of_bits val
bits-val n h =
    subst (λ (t : ℕ). HasValue (of_fields binary32 (leb 0x80000000 n) (n % 0x80000000 / 0x800000) (n % 0x800000)) (leb 0x80000000 n) ((lead (n % 0x80000000 / 0x800000) + t) * 2 ^ (n % 0x80000000 / 0x800000 - 1)) (2 ^ 149)) (digits n)
    (fields-val (leb 0x80000000 n) (n % 0x80000000 / 0x800000) (n % 0x800000) (field_lt (n % 0x80000000) h))
  where
    digits : (n : ℕ) → n % 0x800000 ≡ n % 0x80000000 % 0x800000
    digits n = omega arith

    field_lt : (m : ℕ) → m < 0x7F800000 → m / 0x800000 < 255
    field_lt m h = omega arith

-- ---- larger patterns stand for larger values
apart : (x y : ℕ) → x < y → (t u : ℕ) → t < 0x800000 → (lead x + t) * 2 ^ (x - 1) < (lead y + u) * 2 ^ (y - 1)
unfolding lead
apart x zero l t u b = absurd (no x l)
  where
    no : (x : ℕ) → x < 0 → ⊥
    no x h = omega arith
apart zero (suc y) l t u b =
    lt_of_lt_of_le (first t u b) (mul-le-mul_left (0x800000 + u) (pow_pos (suc y - 1)))
  where
    first : (t u : ℕ) → t < 0x800000 → (0 + t) * 1 < (0x800000 + u) * 1
    first t u b = omega arith
apart (suc x) (suc y) l t u b =
    lt_of_lt_of_le (mul-lt-mul_of_pos_right (under t b) (pow_pos (suc x - 1)))
    (le_trans (le_of_eq (mul_assoc 0x800000 2 (2 ^ (suc x - 1)) ∙ ap (λ (k : ℕ). 0x800000 * k) (sym (pow-succ' 2 (suc x - 1)))))
    (le_trans (mul-le-mul_left 0x800000 (pow_mono (next x y l))) (mul-le-mul_right (2 ^ (suc y - 1)) (over u))))
  where
    under : (t : ℕ) → t < 0x800000 → 0x800000 + t < 0x800000 * 2
    under t b = omega arith

    next : (x y : ℕ) → suc x < suc y → suc (suc x - 1) ≤ suc y - 1
    next x y l = omega arith

    over : (u : ℕ) → 0x800000 ≤ 0x800000 + u
    over u = omega arith

val-lt : (m n : ℕ) → m < n → val m < val n
unfolding val
val-lt m n h = go (m / 0x800000) (n / 0x800000) refl refl (eq-or-lt_of_le (fields_le m n h))
  where
    fields_le : (m n : ℕ) → m < n → m / 0x800000 ≤ n / 0x800000
    fields_le m n h = omega arith

    same : (m n : ℕ) → m < n → m / 0x800000 ≡ n / 0x800000 → m % 0x800000 < n % 0x800000
    same m n h e = omega arith

    rest : (m : ℕ) → m % 0x800000 < 0x800000
    rest m = omega arith

    plus-lt : (a b c : ℕ) → b < c → a + b < a + c
    plus-lt a b c h = omega arith

    go : (x y : ℕ) → m / 0x800000 ≡ x → n / 0x800000 ≡ y → (m / 0x800000 ≡ n / 0x800000) ⊎ (m / 0x800000 < n / 0x800000)
        → (lead (m / 0x800000) + m % 0x800000) * 2 ^ (m / 0x800000 - 1) < (lead (n / 0x800000) + n % 0x800000) * 2 ^ (n / 0x800000 - 1)
    go x y p q (inl e) =
        subst (λ (z : ℕ). (lead (m / 0x800000) + m % 0x800000) * 2 ^ (m / 0x800000 - 1) < (lead z + n % 0x800000) * 2 ^ (z - 1)) e
        (mul-lt-mul_of_pos_right (plus-lt (lead (m / 0x800000)) (m % 0x800000) (n % 0x800000) (same m n h e)) (pow_pos (m / 0x800000 - 1)))
    go x y p q (inr l) = rw (p, q) (apart x y (rw (p, q) at l) (m % 0x800000) (n % 0x800000) (rest m))

val-test : (m n : ℕ) → ltb (val m) (val n) ≡ ltb m n
val-test m n = go (split m n)
  where
    go : (m < n) ⊎ (n ≤ m) → ltb (val m) (val n) ≡ ltb m n
    go (inl h) = lt-ltb (val m) (val n) (val-lt m n h) ∙ sym (lt-ltb m n h)
    go (inr h) = le-ltb (val m) (val n) (down_to (eq-or-lt_of_le h)) ∙ sym (le-ltb m n h)
      where
        down_to : (n ≡ m) ⊎ (n < m) → val n ≤ val m
        down_to (inl e) = le_of_eq (ap val e)
        down_to (inr l) = le_of_lt (val-lt n m l)

val-zero : val 0 ≡ 0
unfolding val lead
val-zero = refl

-- ---- `lt` by the fractions that two values equal
scaled : (p q a b c k : ℕ) → 0 < c → 0 < k → p * c ≡ a * k → q * c ≡ b * k → ltb p q ≡ ltb a b
scaled p q a b c k C K e f = go (split a b)
  where
    go : (a < b) ⊎ (b ≤ a) → ltb p q ≡ ltb a b
    go (inl h) =
        lt-ltb p q (lt_of_mul-lt-mul_right c (subst (λ (z : ℕ). z < q * c) (sym e) (subst (λ (z : ℕ). a * k < z) (sym f) (mul-lt-mul_of_pos_right h K)))) ∙ sym (lt-ltb a b h)
    go (inr h) =
        le-ltb p q (le_of_mul-le-mul_right (subst (λ (z : ℕ). z ≤ p * c) (sym f) (subst (λ (z : ℕ). b * k ≤ z) (sym e) (mul-le-mul_right k h))) C)
        ∙ sym (le-ltb a b h)

lt-of-values : (x y : Float) (s t : Bool) (a b c : ℕ) → 0 < c → HasValue x s a c → HasValue y t b c → lt x y ≡ below s a t b
unfolding lt
lt-of-values nan y s t a b c C p q = absurd p
lt-of-values (inf _) y s t a b c C p q = absurd p
lt-of-values (fin _ m e) nan s t a b c C p q = absurd q
lt-of-values (fin _ m e) (inf _) s t a b c C p q = absurd q
lt-of-values (fin s' m e) (fin t' n d) s t a b c C p q =
    ap (λ (z : Bool). below z (m * up e * down d) t' (n * up d * down e)) p.0
    ∙ ap (λ (z : Bool). below s (m * up e * down d) z (n * up d * down e)) q.0
    ∙ go s t
  where
    K : 0 < down e * down d
    K = mul-pos (down_pos e) (down_pos d)

    l : m * up e * down d * c ≡ a * (down e * down d)
    l = mul_right_comm (m * up e) (down d) c ∙ ap (λ (z : ℕ). z * down d) p.1 ∙ mul_assoc a (down e) (down d)

    r : n * up d * down e * c ≡ b * (down e * down d)
    r = mul_right_comm (n * up d) (down e) c ∙ ap (λ (z : ℕ). z * down e) q.1 ∙ mul_assoc b (down d) (down e) ∙ ap (λ (z : ℕ). b * z) (mul_comm (down d) (down e))

    go : (s t : Bool) → below s (m * up e * down d) t (n * up d * down e) ≡ below s a t b
    go false false = scaled (m * up e * down d) (n * up d * down e) a b c (down e * down d) C K l r
    go false true = refl
    go true false =
        scaled 0 (m * up e * down d + n * up d * down e) 0 (a + b) c (down e * down d) C K (zero-mul c ∙ sym (zero-mul (down e * down d)))
        (add-mul (m * up e * down d) (n * up d * down e) c ∙ ap (λ (z : ℕ). z + n * up d * down e * c) l ∙ ap (λ (z : ℕ). a * (down e * down d) + z) r ∙ sym (add-mul a b (down e * down d)))
    go true true = scaled (n * up d * down e) (m * up e * down d) b a c (down e * down d) C K r l

-- ---- the order of finite patterns
-- what `below` says of two patterns' signs and sizes is what the keys say
by_key : (a b : ℕ) → a < 0x100000000 → b < 0x100000000 → below (leb 0x80000000 a) (val (a % 0x80000000)) (leb 0x80000000 b) (val (b % 0x80000000)) ≡ ltb (key a) (key b)
unfolding key
by_key a b A B = go (split a 0x80000000) (split b 0x80000000)
  where
    pos-size : (a : ℕ) → a < 0x80000000 → a % 0x80000000 ≡ a
    pos-size a h = omega arith

    neg-size : (a : ℕ) → 0x80000000 ≤ a → a < 0x100000000 → a % 0x80000000 ≡ a - 0x80000000
    neg-size a h k = omega arith

    some-lt : (m n : ℕ) → ltb 0 (val m + val n) ≡ ltb 0 (m + n)
    some-lt m n = same (ltb 0 (val m + val n)) (ltb 0 (m + n))
        (λ h. lt-ltb 0 (m + n) (back (eq-zero-or-pos m) (eq-zero-or-pos n) (ltb-true 0 (val m + val n) h)))
        (λ h. lt-ltb 0 (val m + val n) (forth (eq-zero-or-pos m) (ltb-true 0 (m + n) h)))
      where
        none : (m n : ℕ) → m ≡ 0 → n ≡ 0 → 0 < m + n → ⊥
        none m n p q h = omega arith

        some : (m n : ℕ) → 0 < m → 0 < m + n
        some m n h = omega arith

        some' : (m n : ℕ) → 0 < n → 0 < m + n
        some' m n h = omega arith

        other : (m n : ℕ) → m ≡ 0 → 0 < m + n → 0 < n
        other m n p h = omega arith

        up-to : (m : ℕ) → 0 < m → 0 < val m
        up-to m h = subst (λ (z : ℕ). z < val m) val-zero (val-lt 0 m h)

        back : (m ≡ 0) ⊎ (0 < m) → (n ≡ 0) ⊎ (0 < n) → 0 < val m + val n → 0 < m + n
        back (inr h) y k = some m n h
        back (inl p) (inr h) k = some' m n h
        back (inl p) (inl q) k = absurd (none (val m) (val n) (ap val p ∙ val-zero) (ap val q ∙ val-zero) k)

        forth : (m ≡ 0) ⊎ (0 < m) → 0 < m + n → 0 < val m + val n
        forth (inr h) k = some (val m) (val n) (up-to m h)
        forth (inl p) k = some' (val m) (val n) (up-to n (other m n p k))

    go : (a < 0x80000000) ⊎ (0x80000000 ≤ a) → (b < 0x80000000) ⊎ (0x80000000 ≤ b)
        → below (leb 0x80000000 a) (val (a % 0x80000000)) (leb 0x80000000 b) (val (b % 0x80000000)) ≡ ltb (cond (ltb a 0x80000000) (0x80000000 + a) (0x100000000 - a)) (cond (ltb b 0x80000000) (0x80000000 + b) (0x100000000 - b))
    go (inl h) (inl k) =
        simp (lt-leb 0x80000000 a h, lt-leb 0x80000000 b k, lt-ltb a 0x80000000 h, lt-ltb b 0x80000000 k, pos-size a h, pos-size b k)
        (val-test a b ∙ alike a b (0x80000000 + a) (0x80000000 + b) (λ l. omega arith) (λ l. omega arith))
    go (inl h) (inr k) =
        simp (lt-leb 0x80000000 a h, le-leb 0x80000000 b k, lt-ltb a 0x80000000 h, le-ltb b 0x80000000 k)
        (sym (le-ltb (0x80000000 + a) (0x100000000 - b) (omega arith)))
    go (inr h) (inl k) =
        simp (le-leb 0x80000000 a h, lt-leb 0x80000000 b k, le-ltb a 0x80000000 h, lt-ltb b 0x80000000 k, neg-size a h A, pos-size b k)
        (some-lt (a - 0x80000000) b ∙ alike 0 (a - 0x80000000 + b) (0x100000000 - a) (0x80000000 + b) (λ l. omega arith) (λ l. omega arith))
    go (inr h) (inr k) =
        simp (le-leb 0x80000000 a h, le-leb 0x80000000 b k, le-ltb a 0x80000000 h, le-ltb b 0x80000000 k, neg-size a h A, neg-size b k B)
        (val-test (b - 0x80000000) (a - 0x80000000) ∙ alike (b - 0x80000000) (a - 0x80000000) (0x100000000 - a) (0x100000000 - b) (λ l. omega arith) (λ l. omega arith))

-- `a < b` of two finite `f32` is a comparison of whole numbers
pub less-is : (a b : ℕ) → a < 0x100000000 → b < 0x100000000 → finite a ≡ true → finite b ≡ true → lt (of_bits binary32 a) (of_bits binary32 b) ≡ less a b
less-is a b A B h k =
    lt-of-values (of_bits binary32 a) (of_bits binary32 b) (leb 0x80000000 a) (leb 0x80000000 b) (val (a % 0x80000000)) (val (b % 0x80000000)) (2 ^ 149) (pow_pos 149)
    (bits-val a (ltb-true _ _ h)) (bits-val b (ltb-true _ _ k))
    ∙ by_key a b A B

-- nothing is lost: the pattern of the float of a finite pattern is the pattern
pub back : (n : ℕ) → n < 0x100000000 → finite n ≡ true → to_bits binary32 (of_bits binary32 n) ≡ n
back n b h = to_bits-of_bits binary32 n b (subst (λ (t : Bool). T (not t)) (nan_bits_is binary32 n) (no_nan n h))

pub float_is : (n : ℕ) → finite n ≡ true → float_of n ≡ of_bits binary32 n
unfolding float_of
float_is n h = simp h

pub bits_back : (n : ℕ) → n < 0x100000000 → finite n ≡ true → bits_of (float_of n) ≡ n
bits_back n b h = ap bits_of (float_is n h) ∙ back n b h

pub float-number : (n : ℕ) → finite n ≡ true → T (not (is_nan (float_of n)))
float-number n h = rw (float_is n h, ← nan_bits_is binary32 n) (no_nan n h)

-- the order of two finite patterns' floats
pub floats-less : (a b : ℕ) → a < 0x100000000 → b < 0x100000000 → finite a ≡ true → finite b ≡ true → lt (float_of a) (float_of b) ≡ less a b
floats-less a b A B h k = rw (float_is a h, float_is b k) (less-is a b A B h k)
