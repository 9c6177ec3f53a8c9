-- `interval_fits`: the test of the interval is its range.
use Rattle.limits.proofs.Tests.{fits-interval}
use Rattle.limits.proofs.interval_fits.Goals as goal

pub returns : goal.returns
returns c = fits-interval c.args.b
