-- `clear_name`: the name has no bytes.
use Rattle.parts.proofs.Turn.{name_there, turn-no-name}
use Rattle.parts.proofs.clear_name.Goals as goal

pub returns : goal.returns
returns c = turn-no-name c.args.rec.now _ (name_there c.args.rec.now c.requires) c.clear_few.ensures
