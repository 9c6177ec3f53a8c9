-- `entry_of`: the entry at the number's place says what the rows say.
use native.Mathlib.Omega.{arith}
use Rattle.table.proofs.Agree.{code_says}
use Rattle.table.proofs.entry_of.Goals as goal

pub returns : goal.returns
returns c = code_says c.args.head c.args.number _ (omega (arith, c.ranges.number.fits)) c.place_of.ensures.0
