-- `set_name`: the parameters become the name.
use Rattle.parts.proofs.Turn.{turn-name}
use Rattle.parts.proofs.set_name.Goals as goal

pub returns : goal.returns
returns c =
    let a = c.args in
    rw c.put_part.ensures (turn-name a.rec.now a.p.now)
