-- Inner contract: the pairs of a record as code holds them, in floats, and what a reading stores. No promise of a call speaks of it.
use Rattle.std.specs.Prelude.{ℕ, zero, suc, ◌+◌, ◌*◌, ◌≤◌, ◌<◌, ◌≡◌, Bool, true, not, cond, ◌&&◌, List, [], ◌∷◌, map, length, get_or, T}
use Rattle.std.specs.Float.{nan}
use Rattle.std.specs.Float.Ieee.{is_nan}
use Rattle.wire.specs.Numbers.{word_at, bytes_at, put}
use Rattle.peak.specs.Pairs.{finite, pairs_at}
use Rattle.peak.specs.Floats.{peak_of, is_raised, is_lowered}
use Rattle.peak.specs.declared.Peak.{Peak}
use Rattle.record.specs.Layout.{channels}
use Rattle.reading.specs.declared.Decoded.{Decoded}

-- n words from a place of s on
abbrev pub words_at : ℕ → List ℕ → ℕ → List ℕ
words_at zero s at = []
words_at (suc n) s at = word_at s at ∷ words_at n s (at + 4)

-- all of them are finite
unfoldable pub finite_all : List ℕ → Bool
finite_all [] = true
finite_all (x ∷ xs) = finite x && finite_all xs

-- with the pairs at a place
abbrev pub decoded_at : ℕ → List ℕ → Decoded
decoded_at at s = record { peaks = map peak_of (pairs_at channels s at) }

-- the pairs are there, and finite
pub record There (at : ℕ) (s : List ℕ) : Type 0 where
  pub pairs : at + channels * 8 ≤ length s
  pub numbers : (k : ℕ) → k < channels → (finite (word_at s (at + 8 * k)) ≡ true) × (finite (word_at s (at + 8 * k + 4)) ≡ true)

-- what stands past the end of an array of pairs
abbrev pub no_peak : Peak
no_peak = record { greatest = nan; smallest = nan }

-- both values are numbers, as only those have a pattern
abbrev pub Numbers : Peak → Type 0
Numbers p = T (not (is_nan p.greatest)) × T (not (is_nan p.smallest))

-- so are both values of every pair
abbrev pub AllNumbers : List Peak → Type 0
AllNumbers peaks = (k : ℕ) → k < channels → Numbers (get_or peaks k no_peak)

-- a buffer with a value stored at a place, if it is taken
abbrev pub stored : Bool → List ℕ → ℕ → List ℕ → List ℕ
stored taken d at v = cond taken (put d at v) d

-- with the value x of one channel, whose bytes are v, held against its pair
abbrev pub seen_at : Bool → Peak → ℕ → List ℕ → List ℕ → ℕ → List ℕ
seen_at seen p x v d at = stored (is_lowered seen p x) (stored (is_raised seen p x) d at v) (at + 4) v

-- with the first n channels
unfoldable pub seen_up_to : ℕ → Bool → List Peak → List ℕ → List ℕ → List ℕ → ℕ → List ℕ
seen_up_to zero seen peaks x sample d at = d
seen_up_to (suc n) seen peaks x sample d at = seen_at seen (get_or peaks n no_peak) (get_or x n 0) (bytes_at 4 sample (4 * n)) (seen_up_to n seen peaks x sample d at) (at + 8 * n)
