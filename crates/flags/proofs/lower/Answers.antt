-- `lower`: the store clears the flag and keeps the rest.
use mathlib.Core.Bool.{false}
use Rattle.flags.proofs.Turn.{turn-flag}
use Rattle.flags.proofs.lower.Goals as goal

pub returns : goal.returns
returns c = rw c.mask_of.ensures (turn-flag c.args.rec.now c.args.flag false)
