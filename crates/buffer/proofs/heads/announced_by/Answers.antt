-- `announced_by`: what a byte announces on a line is that of the line's heads.
use mathlib.Core.Path.{◌∙◌}
use Rattle.wire.proofs.HeadLaws.{board-line}
use Rattle.buffer.proofs.heads.announced_by.Goals as goal

pub returns : goal.returns
returns c = c.serial_head.ensures ∙ board-line c.args.line c.args.b
