-- Each contract determines the outcome of its call: answer, record and output buffer.
use Rattle.std.specs.Prelude.{ℕ, ◌≡◌, List}
use Rattle.call.specs.Outcome.{Outcome, Allows}
use Rattle.demands.specs.CallList.{Made, outcome_of}

-- it allows an outcome, and any two that it allows are equal
pub record One (z : Outcome) : Type 0 where
  pub some : (x : Outcome) × Allows z x
  pub equal : (x y : Outcome) → Allows z x → Allows z y → x ≡ y

-- For each call "two outcomes allowed by it for the same input are equal".
abbrev pub Unique : Type 0
Unique = (m : Made) (s : List ℕ) → One (outcome_of m s)
