-- `set_input`: the store is the input type of the channel.
use Rattle.settings.proofs.Turn.{turn-input}
use Rattle.settings.proofs.set_input.Goals as goal

pub returns : goal.returns
returns c = turn-input c.args.rec.now c.args.v c.args.channel c.requires.le_channel.0 c.requires.le_channel.1
