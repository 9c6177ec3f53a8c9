-- `set_pending`: the bytes become the pending bytes.
use Prim.Native.Nat.{◌+◌, ◌-◌}
use Rattle.record.proofs.InPlaceLaws.{reaches-pending}
use Rattle.parts.proofs.Turn.{turn-pending}
use native.Mathlib.Omega.{arith}
use lib.ListN.{length-set}
use Rattle.parts.proofs.set_pending.Goals as goal

pub bounds-rec-at : goal.bounds-rec-at
bounds-rec-at c = let a = c.args in omega (arith, reaches-pending a.at a.room a.rec.now c.requires.sound_pending)

pub overflow_add-at : goal.overflow_add-at
overflow_add-at c = let a = c.args in omega (arith, reaches-pending a.at a.room a.rec.now c.requires.sound_pending)

pub overflow_add-at-2 : goal.overflow_add-at-2
overflow_add-at-2 c = let a = c.args in omega (arith, reaches-pending a.at a.room a.rec.now c.requires.sound_pending)

pub overflow_add-at-3 : goal.overflow_add-at-3
overflow_add-at-3 c = let a = c.args in omega (arith, reaches-pending a.at a.room a.rec.now c.requires.sound_pending)

pub put_part-requires : goal.put_part-requires
put_part-requires c = let a = c.args in simp length-set (omega (arith, reaches-pending a.at a.room a.rec.now c.requires.sound_pending))

pub returns : goal.returns
returns c =
    let a = c.args in
    rw c.put_part.ensures (turn-pending a.rec.now a.p.now a.at a.room (a.at + 1 + a.room - (a.at + 1)) (omega arith))
