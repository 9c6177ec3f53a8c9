-- `put_lock`: 08 is put for an unlocked board, 00 for a locked one.
use mathlib.Core.Path.{sym, ◌∙◌}
use Rattle.data.proofs.Data.{answers_one}
use Rattle.data.proofs.put_lock.Goals.{then-flag_in, else-flag_in}
use Rattle.data.proofs.put_lock.Goals as goal

pub returns : goal.returns
returns c =
    let a = c.args in
    elim c.if-flag_in.branch [
      | then-flag_in w ↦ rw (w.body-is, sym c.flag_in.ensures ∙ w.if-flag_in.true) (answers_one a.body.now c.requires 0x08)
      | else-flag_in w ↦ rw (w.body-is, sym c.flag_in.ensures ∙ w.if-flag_in.false) (answers_one a.body.now c.requires 0x00)
    ]
