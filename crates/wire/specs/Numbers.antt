-- Numbers as the protocol writes them: high byte first.
use Rattle.std.specs.Prelude.{ℕ, zero, suc, ◌+◌, ◌-◌, ◌*◌, ◌/◌, ◌%◌, ◌<◌, ◌≡◌, ◌⊎◌, cond, List, [], ◌∷◌, ◌++◌, length, get_or, take, drop, ltb, ℤ, pos, negsuc}

-- a list whose elements are bytes
abbrev pub Bytes : List ℕ → Type 0
Bytes s = (i : ℕ) → get_or s i 0 < 256

-- "All numbers are high byte first."
abbrev pub word16 : ℕ → ℕ → ℕ
word16 a b = a * 256 + b

abbrev pub word32 : ℕ → ℕ → ℕ → ℕ → ℕ
word32 a b c d = a * 16777216 + b * 65536 + c * 256 + d

-- the number of two or four bytes at a place of s
abbrev pub half_at : List ℕ → ℕ → ℕ
half_at s at = word16 (get_or s at 0) (get_or s (at + 1) 0)

abbrev pub word_at : List ℕ → ℕ → ℕ
word_at s at = word32 (get_or s at 0) (get_or s (at + 1) 0) (get_or s (at + 2) 0) (get_or s (at + 3) 0)

-- and back: the two or four bytes of a number
abbrev pub bytes2 : ℕ → List ℕ
bytes2 w = w / 256 % 256 ∷ w % 256 ∷ []

abbrev pub bytes4 : ℕ → List ℕ
bytes4 w = w / 16777216 % 256 ∷ w / 65536 % 256 ∷ w / 256 % 256 ∷ w % 256 ∷ []

-- the bytes of a number: one, two or four
abbrev pub Narrow : ℕ → Type 0
Narrow n = (n ≡ 1) ⊎ ((n ≡ 2) ⊎ (n ≡ 4))

-- n elements of s from a place on, zeros past its end
abbrev pub bytes_at : ℕ → List ℕ → ℕ → List ℕ
bytes_at zero s at = []
bytes_at (suc n) s at = get_or s at 0 ∷ bytes_at n s (suc at)

-- "One-byte parameters are signed.", "2 signed": the whole number that a byte or two bytes then stand for
abbrev pub signed8 : ℕ → ℤ
signed8 b = cond (ltb b 128) (pos b) (negsuc (255 - b))

abbrev pub signed16 : ℕ → ℤ
signed16 w = cond (ltb w 32768) (pos w) (negsuc (65535 - w))

-- a buffer with s written from a place on: what stands before and behind stays
unfoldable pub put : List ℕ → ℕ → List ℕ → List ℕ
put d at s = take at d ++ (s ++ drop (at + length s) d)
