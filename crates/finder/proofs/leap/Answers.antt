-- `leap`: none of the bytes that are leapt over is AA.
use native.Mathlib.Omega.{arith}
use Prim.Native.Nat.{◌+◌}
use mathlib.Core.Path.{sym, ◌∙◌}
use Rattle.wire.proofs.Stretches.{stretch-none}
use Rattle.finder.proofs.FinderLaws.{noise-quiet}
use Rattle.finder.proofs.leap.Goals as goal

pub loop-at-init : goal.loop-at-init
loop-at-init c = (stretch-none _ _ _ (omega arith), omega arith)

pub returns-then-not-quiet : goal.returns-then-not-quiet
returns-then-not-quiet c = c.loop-at.invariant

pub loop-at-preserved : goal.loop-at-preserved
loop-at-preserved c =
    let l = c.loop-at in
    (noise-quiet c.args.s.now c.args.from l.at (l.at + 16) (omega arith) (omega arith) l.invariant.0 (sym c.quiet.ensures ∙ c.if-not-quiet.false), omega arith)

pub returns : goal.returns
returns c = c.loop-at.invariant
