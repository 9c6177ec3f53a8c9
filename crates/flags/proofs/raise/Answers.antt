-- `raise`: the store sets the flag and keeps the rest.
use mathlib.Core.Bool.{true}
use Rattle.flags.proofs.Turn.{turn-flag}
use Rattle.flags.proofs.raise.Goals as goal

pub returns : goal.returns
returns c = rw c.mask_of.ensures (turn-flag c.args.rec.now c.args.flag true)
