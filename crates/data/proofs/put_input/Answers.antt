-- `put_input`: the input type of the channel is put.
use Rattle.data.proofs.Data.{answers-input}
use Rattle.data.proofs.put_input.Goals as goal

pub returns : goal.returns
returns c =
    let a = c.args in
    answers-input a.body.now c.requires.at_inputs_in_bounds.1 a.rec.now a.channel c.requires.le_channel.0 c.requires.le_channel.1
