-- `join`: the buffer holds the pending bytes and what they can reach of the input.
use native.Mathlib.Omega.{arith}
use Rattle.hunt.proofs.JoinLaws.{reach-long, held-long, joined_is}
use mathlib.Core.Path.{sym}
use Rattle.hunt.proofs.join.Goals as goal

pub slice_bounds-put_few-end-2 : goal.slice_bounds-put_few-end-2
slice_bounds-put_few-end-2 c = sym (reach-long _ c.args.input.now c.min-n.ensures)

pub put_few-requires : goal.put_few-requires
put_few-requires c = omega (arith, c.requires, c.put_few-end.ensures.0, c.put_few-end.auto, c.min-n.ensures, reach-long _ c.args.input.now c.min-n.ensures, held-long c.args.rec.now c.args.at c.args.held c.requires.0)

pub returns : goal.returns
returns c =
    joined_is c.args.rec.now c.args.at c.args.held c.requires.0 c.args.input.now c.args.head.now _ _ _ _ _ c.requires.1 c.requires.2 c.min-n.ensures
    c.put_few-end.ensures.0 c.put_few-end.ensures.1 c.put_few.ensures.0 c.put_few.ensures.1
