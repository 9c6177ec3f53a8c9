-- `pending_fine`: the tests of the pending length, bytes and zeros are those of their fields.
use Rattle.form.proofs.Fine.{pending-zeros, pending-bad}
use mathlib.Core.Path.{sym, ◌∙◌}
use native.Mathlib.Omega.{arith}
use Rattle.form.proofs.pending_fine.Goals as goal

pub returns-then-waiting_fine : goal.returns-then-waiting_fine
returns-then-waiting_fine c = c.zeros.ensures ∙ pending-zeros c.args.s.now c.requires (omega (arith, c.if-n-gt-PENDING_ROOM.false)) (sym c.waiting_fine.ensures ∙ c.if-waiting_fine.true)

pub returns : goal.returns
returns c = pending-bad c.args.s.now c.requires (omega (arith, c.if-n-gt-PENDING_ROOM.false)) (sym c.waiting_fine.ensures ∙ c.if-waiting_fine.false)
