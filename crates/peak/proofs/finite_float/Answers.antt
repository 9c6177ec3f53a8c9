-- `finite_float`: a finite pattern is no NaN's, so its float is the one of its bits.
use Rattle.std.proofs.Common.{sym}
use Rattle.peak.proofs.Order.{no_nan, float_is}
use Rattle.peak.proofs.finite_float.Goals as goal

pub float_from_bits-result : goal.float_from_bits-result
float_from_bits-result c = no_nan c.args.x c.requires

pub returns : goal.returns
returns c = sym (float_is c.args.x c.requires)
