-- `mask_of`: the bit of output k is 2 to the power k - 1.
use Rattle.settings.proofs.Turn.{mask_is}
use Rattle.settings.proofs.mask_of.Goals as goal

pub returns : goal.returns
returns c = mask_is c.args.k c.requires.0 c.requires.1
