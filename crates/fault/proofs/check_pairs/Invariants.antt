-- `check_pairs`: the pairs from here on.
use Rattle.std.proofs.Common.{◌≡◌}
use Rattle.record.specs.Layout.{channels, at_pairs}
use Rattle.form.specs.Groups.{pair_fields}
use Rattle.fault.specs.Rest.{held_all}
use Rattle.fault.proofs.First.{left}
use Rattle.fault.proofs.Groups.{pair_fine}
use Rattle.fault.proofs.check_pairs.Given as goal

abbrev pub invariant-loop-i : goal.invariant-loop-i
invariant-loop-i l = held_all (pair_fields l.s) ≡ left channels 8 (pair_fine l.s) at_pairs l.i
