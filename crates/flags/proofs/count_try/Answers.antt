-- `count_try`: the store adds one to the tries.
use Rattle.flags.proofs.Turn.{turn-tries}
use Rattle.flags.proofs.count_try.Goals as goal

pub returns : goal.returns
returns c = turn-tries c.args.rec.now
