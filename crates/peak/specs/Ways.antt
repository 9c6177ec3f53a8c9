-- Inner contract: which of two patterns is the lesser one, as code finds it by the sign of that one.
use Rattle.std.specs.Prelude.{ℕ, ◌+◌, ◌%◌, Bool, true, false, cond, not, eqb, ltb, leb}

-- the pattern with its sign bit turned round
abbrev pub turned : ℕ → ℕ
turned x = (x + 0x80000000) % 0x100000000

unfoldable pub lesser : ℕ → ℕ → Bool
lesser x y = cond (leb 0x80000000 x) (cond (ltb y x) (cond (eqb x 0x80000000) (not (eqb y 0)) true) false) (ltb (turned x) (turned y))
