-- `has_flag`: the bit read is the flag.
use Rattle.flags.proofs.Turn.{shows-flag}
use Rattle.flags.proofs.has_flag.Goals as goal

pub returns : goal.returns
returns c = rw c.flag_in.ensures (shows-flag c.args.rec.now c.args.flag)
