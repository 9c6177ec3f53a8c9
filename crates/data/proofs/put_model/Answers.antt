-- `put_model`: the model is put, and a 00 behind it where it is shorter than its room.
use Rattle.data.proofs.Data.{answers-cut, answers-whole}
use Rattle.data.proofs.put_model.Goals as goal

pub returns-then-n-lt-MODEL_ROOM : goal.returns-then-n-lt-MODEL_ROOM
returns-then-n-lt-MODEL_ROOM c =
    let a = c.args in
    let e = c.first_zero-n in
    let i = c.put_few-behind in
    answers-cut a.rec.now a.from c.requires.0 e.result e.ensures.0 a.body.now c.requires.1 i.new.buffer i.ensures.1 c.if-n-lt-MODEL_ROOM.true i.result i.ensures.0

pub returns : goal.returns
returns c =
    let a = c.args in
    let e = c.first_zero-n in
    let i = c.put_few-behind in
    answers-whole a.rec.now a.from c.requires.0 e.result e.ensures.0 a.body.now c.requires.1 i.new.buffer i.ensures.1 c.if-n-lt-MODEL_ROOM.false e.ensures.1
