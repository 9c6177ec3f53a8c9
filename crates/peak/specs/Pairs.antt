-- The greatest and the smallest value of a channel, as the 32 bits of floats.
use Rattle.std.specs.Prelude.{ℕ, zero, suc, ◌+◌, ◌-◌, ◌%◌, Bool, true, false, cond, ◌&&◌, List, [], ◌∷◌, ◌++◌, ◌==◌, nat_le, nat_lt, slice_index_or}
use Rattle.wire.specs.Numbers.{word_at, bytes4}

-- neither "infinite" nor "not a number": without its sign below the pattern of the infinity
abbrev pub finite : ℕ → Bool
finite x = nat_lt (x % 0x80000000) 0x7F800000

-- a whole number in the order of the finite floats; both zeros have the same, "so of -0 and +0 the earlier stays"
unfoldable pub key : ℕ → ℕ
key x = cond (nat_lt x 0x80000000) (0x80000000 + x) (0x100000000 - x)

-- x is strictly less than y
abbrev pub less : ℕ → ℕ → Bool
less x y = nat_lt (key x) (key y)

-- "The board keeps a greatest and a smallest value per channel."
pub record Pair : Type 0 where
  pub greatest : ℕ
  pub smallest : ℕ

abbrev pub no_pair : Pair
no_pair = record { greatest = 0; smallest = 0 }

-- "The first reading sets both, with the reading flag; later a strictly greater or strictly smaller value replaces"
abbrev pub seen : Bool → Pair → ℕ → Pair
seen false p x = record { greatest = x; smallest = x }
seen true p x = record { greatest = cond (less p.greatest x) x p.greatest; smallest = cond (less x p.smallest) x p.smallest }

-- one reading of as many channels as there are pairs, its values at a place of s
unfoldable pub seen_all : Bool → List Pair → List ℕ → ℕ → List Pair
seen_all reading [] s at = []
seen_all reading (p ∷ pairs) s at = seen reading p (word_at s at) ∷ seen_all reading pairs s (at + 4)

-- "six 32-bit floats, all finite": so many values from a place of s on
unfoldable pub all_finite : ℕ → List ℕ → ℕ → Bool
all_finite zero s at = true
all_finite (suc n) s at = finite (word_at s at) && all_finite n s (at + 4)

-- "the pairs are all zero bytes without a reading, else finite with smallest not above greatest"
abbrev pub pair_fits : Bool → Pair → Bool
pair_fits false p = p.greatest == 0 && p.smallest == 0
pair_fits true p = finite p.greatest && finite p.smallest && nat_le (key p.smallest) (key p.greatest)

-- greatest, smallest, at a place of s
abbrev pub pair_at : List ℕ → ℕ → Pair
pair_at s at = record { greatest = word_at s at; smallest = word_at s (at + 4) }

-- n pairs from a place of s on
abbrev pub pairs_at : ℕ → List ℕ → ℕ → List Pair
pairs_at zero s at = []
pairs_at (suc n) s at = pair_at s at ∷ pairs_at n s (at + 8)

-- 53: "greatest, smallest (floats)"
abbrev pub pair_bytes : Pair → List ℕ
pair_bytes p = bytes4 p.greatest ++ bytes4 p.smallest

-- the bytes of n pairs of a list from its i-th on
abbrev pub pairs_bytes : ℕ → List Pair → ℕ → List ℕ
pairs_bytes zero pairs i = []
pairs_bytes (suc n) pairs i = pair_bytes (slice_index_or pairs i no_pair) ++ pairs_bytes n pairs (suc i)
