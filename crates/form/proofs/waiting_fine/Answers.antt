-- `waiting_fine`: the tests of the first two bytes and of the length are what the hunt leaves waiting.
use native.Mathlib.Omega.{arith}
use mathlib.Core.Path.{sym, ◌∙◌}
use Prim.Native.Nat.{◌+◌}
use lib.ListN.{get_or}
use Rattle.wire.proofs.HeadLaws.{params-few}
use Rattle.wire.specs.declared.Line.TheVariants.{Board}
use Rattle.form.proofs.Pending.{none, not-aa, one, headless, headed}
use Rattle.form.proofs.waiting_fine.Goals as goal

pub returns-then-n-eq0 : goal.returns-then-n-eq0
returns-then-n-eq0 c = none c.args.s.now c.args.at c.args.n c.requires c.if-n-eq0.true

pub returns-then-s-at : goal.returns-then-s-at
returns-then-s-at c = not-aa c.args.s.now c.args.at c.args.n c.requires c.if-n-eq0.false c.if-s-at.true

pub returns-then-n-eq1 : goal.returns-then-n-eq1
returns-then-n-eq1 c = one c.args.s.now c.args.at c.args.n c.requires c.if-n-eq0.false c.if-s-at.false c.if-n-eq1.true

pub returns-in_default : goal.returns-in_default
returns-in_default c = headless c.args.s.now c.args.at c.args.n c.requires c.if-n-eq0.false c.if-s-at.false c.if-n-eq1.false (sym c.announced_by.ensures ∙ c.in_default.is)

pub overflow_add-result : goal.overflow_add-result
overflow_add-result c = omega (arith, params-few Board (get_or c.args.s.now (c.args.at + 1) 0) c.in-Some.k (sym c.announced_by.ensures ∙ c.in-Some.is))

pub returns : goal.returns
returns c = headed c.args.s.now c.args.at c.args.n c.requires c.if-n-eq0.false c.if-s-at.false c.if-n-eq1.false _ (sym c.announced_by.ensures ∙ c.in-Some.is)
