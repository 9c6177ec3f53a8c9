-- `close_reply`: the four bytes around the data make a reply.
use native.Mathlib.Omega.{arith}
use Rattle.wire.proofs.ReplyLaws.{kind-room}
use lib.ListN.{length-set}
use Rattle.buffer.proofs.reply.close_reply.Goals as goal

pub overflow_sub-out : goal.overflow_sub-out
overflow_sub-out c = omega (arith, kind-room c.args.head c.requires.head_value)

pub bounds-out-at-2 : goal.bounds-out-at-2
bounds-out-at-2 c = simp length-set (omega arith)

pub bounds-out-at-3 : goal.bounds-out-at-3
bounds-out-at-3 c = simp length-set (omega arith)

pub bounds-out-at-4 : goal.bounds-out-at-4
bounds-out-at-4 c = simp length-set (omega arith)
