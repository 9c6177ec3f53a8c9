-- `power_fits`: the test of the power is its range.
use Rattle.limits.proofs.Tests.{fits-power}
use Rattle.limits.proofs.power_fits.Goals as goal

pub returns : goal.returns
returns c = fits-power c.args.w
