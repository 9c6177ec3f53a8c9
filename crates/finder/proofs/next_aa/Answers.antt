-- `next_aa`: the scan stops at the next AA or at the end.
use native.Mathlib.Omega.{arith}
use Rattle.wire.proofs.Stretches.{stretch-none, stretch-one}
use mathlib.Core.Logic.{inl, inr}
use Rattle.finder.proofs.next_aa.Goals as goal

pub returns-then-s-from : goal.returns-then-s-from
returns-then-s-from c = record { noise = stretch-none _ _ _ (omega arith); up_to = omega arith; stops = inr c.if-s-from.true }

pub loop-at-init : goal.loop-at-init
loop-at-init c = c.leap-at.ensures

pub returns-then-s-at : goal.returns-then-s-at
returns-then-s-at c = let l = c.loop-at in record { noise = l.invariant.0; up_to = l.invariant.1; stops = inr c.if-s-at.true }

pub loop-at-preserved : goal.loop-at-preserved
loop-at-preserved c =
    let l = c.loop-at in
    let a = c.args in
    (stretch-one a.s.now _ a.from l.at l.invariant.0 (omega arith) c.if-s-at.false, omega arith)

pub returns : goal.returns
returns c = let l = c.loop-at in record { noise = l.invariant.0; up_to = l.invariant.1; stops = inl (omega arith) }
