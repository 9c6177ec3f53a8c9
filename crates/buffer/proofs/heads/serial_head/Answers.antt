-- `serial_head`: 9n and An announce n parameters, other bytes nothing.
use Rattle.wire.proofs.HeadLaws.{low-none, high-none, head-params}
use native.Mathlib.Omega.{arith}
use Rattle.buffer.proofs.heads.serial_head.Goals as goal

pub returns-then-b-lt144 : goal.returns-then-b-lt144
returns-then-b-lt144 c = low-none c.args.b c.if-b-lt144.true

pub returns-then-b-gt175 : goal.returns-then-b-gt175
returns-then-b-gt175 c = high-none c.args.b c.if-b-gt175.true

pub returns : goal.returns
returns c = head-params c.args.b (omega (arith, c.if-b-lt144.false)) (omega (arith, c.if-b-gt175.false))
