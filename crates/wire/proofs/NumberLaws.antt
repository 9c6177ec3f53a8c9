-- Numbers and their bytes, and parts of a list.
use Prim.Native.Nat.{ℕ, zero, suc, ◌+◌, ◌-◌, ◌*◌, ◌/◌, ◌%◌, ◌≤◌, ◌<◌}
use mathlib.Core.Path.{◌≡◌, refl, sym, ap, ◌∙◌}
use mathlib.Core.List.{List, [], ◌∷◌, ◌++◌}
use native.Mathlib.Nat.{div-div-eq-div-mul, div-add-mod', mod-eq_of_lt, add-mul, mul_assoc, add_assoc, add-zero, zero-add, add-suc, suc-add, sub-zero, suc-sub-suc, zero-sub}
use native.Mathlib.Omega.{arith}
use lib.ListN.{length, get_or, take, drop}
use lib.Seq.{drop-cons, take_all, take-nil, get_or-drop}
use Rattle.wire.specs.Numbers.{Bytes, word16, word32, bytes2, bytes4, bytes_at}

-- ---- a number from its bytes, and back

pub half_back : (w : ℕ) → w < 0x10000 → word16 (w / 256 % 256) (w % 256) ≡ w
half_back w h = omega arith

pub half-bytes : (a b : ℕ) → a < 256 → b < 256 → bytes2 (word16 a b) ≡ a ∷ b ∷ []
half-bytes a b A B =
    let hi : (a * 256 + b) / 256 % 256 ≡ a = omega arith in
    let lo : (a * 256 + b) % 256 ≡ b = omega arith in
    rw (hi, lo) refl

digits : (b n q₁ q₂ q₃ r₀ r₁ r₂ : ℕ) → n ≡ q₁ * b + r₀ → q₁ ≡ q₂ * b + r₁ → q₂ ≡ q₃ * b + r₂ → q₃ * (b * b * b) + r₂ * (b * b) + r₁ * b + r₀ ≡ n
digits b n q₁ q₂ q₃ r₀ r₁ r₂ e₀ e₁ e₂ = rw (e₀, e₁, e₂) (simp (add-mul, mul_assoc, add_assoc))

pub word_back : (w : ℕ) → w < 0x100000000 → word32 (w / 16777216 % 256) (w / 65536 % 256) (w / 256 % 256) (w % 256) ≡ w
word_back w h =
    let p : w / 256 / 256 ≡ w / 65536 = div-div-eq-div-mul w 256 256 in
    let q : w / 65536 / 256 ≡ w / 16777216 = div-div-eq-div-mul w 65536 256 in
    let t : w / 16777216 % 256 ≡ w / 16777216 = mod-eq_of_lt (omega arith) in
    rw t
    (digits 256 w (w / 256) (w / 65536) (w / 16777216) (w % 256) (w / 256 % 256) (w / 65536 % 256) (sym (div-add-mod' w 256))
    (sym (div-add-mod' (w / 256) 256) ∙ ap (λ (x : ℕ). x * 256 + w / 256 % 256) p)
    (sym (div-add-mod' (w / 65536) 256) ∙ ap (λ (x : ℕ). x * 256 + w / 65536 % 256) q))

pub word_bytes : (a b c d : ℕ) → a < 256 → b < 256 → c < 256 → d < 256 → bytes4 (word32 a b c d) ≡ a ∷ b ∷ c ∷ d ∷ []
word_bytes a b c d A B C D =
    let w₃ : (a * 16777216 + b * 65536 + c * 256 + d) / 16777216 % 256 ≡ a = omega arith in
    let w₂ : (a * 16777216 + b * 65536 + c * 256 + d) / 65536 % 256 ≡ b = omega arith in
    let w₁ : (a * 16777216 + b * 65536 + c * 256 + d) / 256 % 256 ≡ c = omega arith in
    let w₀ : (a * 16777216 + b * 65536 + c * 256 + d) % 256 ≡ d = omega arith in
    rw (w₃, w₂, w₁, w₀) refl

-- ---- parts of a list

pub drop-take : (a b : ℕ) (l : List ℕ) → drop a (take b l) ≡ take (b - a) (drop a l)
drop-take zero b l = rw sub-zero refl
drop-take (suc a) zero l = rw (zero-sub (suc a)) refl
drop-take (suc a) (suc b) [] = sym (take-nil (suc b - suc a))
drop-take (suc a) (suc b) (x ∷ l) = rw suc-sub-suc (drop-take a b l)

pub part-is : (n : ℕ) (s : List ℕ) (at : ℕ) → at + n ≤ length s → bytes_at n s at ≡ take n (drop at s)
part-is zero s at h = refl
part-is (suc n) s at h =
    ap (λ (x : List ℕ). get_or s at 0 ∷ x) (part-is n s (suc at) (omega arith)) ∙ ap (take (suc n)) (sym (drop-cons s at 0 (omega arith)))

pub part-part : (n m : ℕ) (s : List ℕ) (at : ℕ) → bytes_at n s at ++ bytes_at m s (at + n) ≡ bytes_at (n + m) s at
part-part zero m s at = rw (zero-add m, add-zero at) refl
part-part (suc n) m s at = rw (suc-add n m, add-suc at n, ← suc-add at n) (ap (λ (l : List ℕ). get_or s at 0 ∷ l) (part-part n m s (suc at)))

pub part-all : (n : ℕ) (s : List ℕ) → length s ≡ n → bytes_at n s 0 ≡ s
part-all n s h = part-is n s 0 (omega arith) ∙ take_all n s (omega arith)

pub length_part : (n : ℕ) (s : List ℕ) (at : ℕ) → length (bytes_at n s at) ≡ n
length_part zero s at = refl
length_part (suc n) s at = ap suc (length_part n s (suc at))

-- ---- bytes stay bytes

pub bytes_drop : (k : ℕ) (l : List ℕ) → Bytes l → Bytes (drop k l)
bytes_drop k l b i = rw (get_or-drop k l i 0) (b (k + i))

pub bytes_take : (k : ℕ) (l : List ℕ) → Bytes l → Bytes (take k l)
bytes_take zero l b i = omega arith
bytes_take (suc k) [] b i = b i
bytes_take (suc k) (x ∷ l) b zero = b zero
bytes_take (suc k) (x ∷ l) b (suc i) = bytes_take k l (λ j. b (suc j)) i

pub bytes-part : (n : ℕ) (s : List ℕ) (at : ℕ) → Bytes s → Bytes (bytes_at n s at)
bytes-part zero s at b i = omega arith
bytes-part (suc n) s at b zero = b at
bytes-part (suc n) s at b (suc i) = bytes-part n s (suc at) b i

pub bytes-append : (l more : List ℕ) → Bytes l → Bytes more → Bytes (l ++ more)
bytes-append [] more a b i = b i
bytes-append (x ∷ l) more a b zero = a zero
bytes-append (x ∷ l) more a b (suc i) = bytes-append l more (λ j. a (suc j)) b i
