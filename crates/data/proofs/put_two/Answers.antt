-- `put_two`: two bytes are put, one behind the other.
use Rattle.data.proofs.Data.{answers-two}
use Rattle.data.proofs.put_two.Goals as goal

pub returns : goal.returns
returns c = let a = c.args in answers-two a.body.now c.requires a.a a.b
