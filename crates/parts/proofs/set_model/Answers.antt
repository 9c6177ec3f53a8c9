-- `set_model`: the bytes before the first zero become the model.
use Prim.Native.Nat.{◌+◌, ◌-◌}
use Rattle.record.specs.Layout.{model_room}
use Rattle.parts.proofs.Turn.{model_there, turn-model}
use native.Mathlib.Omega.{arith}
use borrow.Author.Rules.{rules}
use Rattle.parts.proofs.set_model.Goals as goal

pub overflow_add-at : goal.overflow_add-at
overflow_add-at c = omega (arith, model_there c.args.rec.now c.args.at c.requires.sound_at)

pub put_part-requires : goal.put_part-requires
put_part-requires c = search (rules, model_there c.args.rec.now c.args.at c.requires.sound_at)

pub returns : goal.returns
returns c =
    let a = c.args in
    rw c.put_part.ensures (turn-model a.rec.now a.p.now a.at (a.at + model_room - a.at) c.first_zero-n.result (omega arith) c.first_zero-n.ensures.0)
