-- `put_pair`: 00 and the eight bytes of a pair are put.
use Prim.Native.Nat.{◌+◌, ◌-◌, ◌*◌}
use Rattle.data.proofs.Data.{answers-pair}
use Rattle.data.proofs.put_pair.Goals as goal

pub returns : goal.returns
returns c =
    let a = c.args in
    let one = c.put_number in
    let two = c.put_number-2 in
    answers-pair a.body.now c.requires.channel_in_bounds.1 a.rec.now (a.pairs + 8 * (a.channel - 1)) one.new.buffer two.new.buffer one.ensures two.ensures
