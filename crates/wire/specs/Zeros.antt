-- Bytes that are all zero, and bytes up to their first zero.
use Rattle.std.specs.Prelude.{ℕ, zero, suc, Bool, true, ◌&&◌, List, [], ◌∷◌, eqb}

unfoldable pub all_zero : List ℕ → Bool
all_zero [] = true
all_zero (b ∷ s) = eqb b 0 && all_zero s

-- "all zero from its first zero"
unfoldable pub zeros_behind : List ℕ → Bool
unfolding all_zero
zeros_behind [] = true
zeros_behind (zero ∷ s) = all_zero s
zeros_behind (suc b ∷ s) = zeros_behind s

-- "the bytes before the first 00"
unfoldable pub before_zero : List ℕ → List ℕ
before_zero [] = []
before_zero (zero ∷ s) = []
before_zero (suc b ∷ s) = suc b ∷ before_zero s
