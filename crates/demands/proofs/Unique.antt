-- Two outcomes that a contract allows are equal.
use mathlib.Core.Path.{refl, sym, ◌∙◌}
use Rattle.call.specs.Outcome.{Outcome, Allows}
use Rattle.call.proofs.InOrder.{allowed-is}
use Rattle.demands.specs.CallList.{outcome_of}
use Rattle.demands.specs.Unique.{One, Unique}

allowed-own : (z : Outcome) → Allows z z
allowed-own z = record { answered = refl; keeps = refl; puts = refl }

one : (z : Outcome) → One z
one z = record { some = (z, allowed-own z); equal = λ x y a b. allowed-is z x a ∙ sym (allowed-is z y b) }

pub unique : Unique
unique m s = one (outcome_of m s)
