-- `check_inputs`: the input types from here on.
use Rattle.std.proofs.Common.{◌≡◌, ◌-◌}
use Rattle.record.specs.Layout.{at_inputs}
use Rattle.form.specs.Groups.{input_fields}
use Rattle.fault.specs.Rest.{held_all}
use Rattle.fault.proofs.First.{left}
use Rattle.fault.proofs.Groups.{input_fine}
use Rattle.fault.proofs.check_inputs.Given as goal

abbrev pub invariant-loop-at : goal.invariant-loop-at
invariant-loop-at l = held_all (input_fields l.s) ≡ left 5 1 (input_fine l.s) at_inputs (l.at - at_inputs)
