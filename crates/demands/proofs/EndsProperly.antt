-- Every call ends properly, by its laws.
use mathlib.Core.Path.{refl}
use Rattle.demands.specs.CallList.{call_of}
use Rattle.demands.specs.EndsProperly.{EndsProperly}
use Rattle.demands.proofs.Laws.{ends_by, unharmed-by}
use Rattle.demands.proofs.AllLaws.{laws-of}

pub ends-properly : EndsProperly
ends-properly = record {
  numbers = (λ place. refl, refl, refl, refl);
  ends = λ m s. ends_by (call_of m.name) (laws-of m.name) m.lent s;
  unharmed = λ m s b g. unharmed-by (call_of m.name) (laws-of m.name) m.lent s b g;
}
