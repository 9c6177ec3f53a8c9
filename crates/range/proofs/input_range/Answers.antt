-- `input_range`: the channel first, then the type.
use mathlib.Core.Path.{ap₂, ◌∙◌}
use Rattle.wire.specs.Ranges.{also}
use Rattle.range.proofs.input_range.Goals as goal

pub returns : goal.returns
returns c = c.both_ranges.ensures ∙ ap₂ also c.signed_range.ensures c.signed_range-2.ensures
