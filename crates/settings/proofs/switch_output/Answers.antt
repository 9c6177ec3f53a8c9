-- `switch_output`: only the output's bit changes.
use Rattle.settings.proofs.Turn.{turn-output-on, turn-output-off}
use Rattle.settings.proofs.switch_output.Goals as goal

pub returns-then-v-eq1 : goal.returns-then-v-eq1
returns-then-v-eq1 c = rw c.mask_of-mask.ensures.0 (turn-output-on c.args.rec.now c.args.k c.args.v c.requires.le_k.0 c.requires.le_k.1 c.if-v-eq1.true)

pub returns-else-v-eq1 : goal.returns-else-v-eq1
returns-else-v-eq1 c = rw c.mask_of-mask.ensures.0 (turn-output-off c.args.rec.now c.args.k c.args.v c.requires.le_k.0 c.requires.le_k.1 c.if-v-eq1.false)
