-- `find`: the search stops at the first frame, broken head or waiting candidate, and has skipped all before it.
use native.Mathlib.Omega.{arith}
use Prim.Native.Nat.{ℕ, ◌+◌, ◌<◌}
use mathlib.Core.Path.{◌≡◌, sym}
use mathlib.Core.List.{List}
use lib.ListN.{length, get_or}
use Rattle.wire.specs.declared.Line.{Line}
use Rattle.std.specs.declared.option.Option.TheVariants.{Some}
use Rattle.wire.specs.Heads.{announced_of}
use Rattle.wire.proofs.Stretches.{stretch-one}
use Rattle.wire.proofs.HeadLaws.{params-head, none-head, params-few}
use Rattle.finder.proofs.FinderLaws.{passed-noise, look-alone, look-headless, Candidate, scan-waits, scan-torn, scan-frame, finds-end, finds-waiting}
use Rattle.finder.proofs.find.Goals as goal

-- an AA and a byte that announces n parameters
candidate : (k : Line) (l : List ℕ) (at n : ℕ) → get_or l at 0 ≡ 0xAA → at + 1 < length l → Some n ≡ announced_of k (get_or l (at + 1) 0) → Candidate k l at n
candidate k l at n aa two e = record { aa = aa; two = two; head = params-head k (get_or l (at + 1) 0) n (sym e) }

pub hunt-preserved-then-s-at : goal.hunt-preserved-then-s-at
hunt-preserved-then-s-at c =
    let a = c.args in
    let f = c.next_aa-at in
    (passed-noise a.line a.s.now f.result a.from c.hunt.at c.hunt.invariant.0 f.ensures.noise, f.ensures.up_to, c.hunt.invariant.2)

pub hunt-preserved : goal.hunt-preserved
hunt-preserved c =
    let k = c.args.line in
    let s = c.args.s.now in
    let at = c.hunt.at in
    let none = none-head k (get_or s (at + 1) 0) (sym c.in_default.ensures) in
    (stretch-one _ _ _ _ c.hunt.invariant.0 (omega arith) (look-headless k s at c.if-s-at.false c.if-s-next.false none), omega arith, c.hunt.invariant.2)

pub overflow_add-last-in-hunt : goal.overflow_add-last-in-hunt
overflow_add-last-in-hunt c =
    omega (arith, params-few c.args.line (get_or c.args.s.now (c.hunt.at + 1) 0) c.in-Some.n (sym c.in-Some.ensures))

pub returns-after-hunt : goal.returns-after-hunt
returns-after-hunt c =
    let h = c.hunt.invariant in
    finds-end c.args.line _ _ _ _ _ h.2 h.0 (omega (arith, h.1))

pub returns-then-s-next : goal.returns-then-s-next
returns-then-s-next c =
    let h = c.hunt.invariant in
    finds-waiting c.args.line _ _ _ _ _ h.2 h.0 c.hunt-test.true (look-alone c.args.line c.args.s.now c.hunt.at c.if-s-at.false c.if-s-next.true)

pub returns-then-s-last : goal.returns-then-s-last
returns-then-s-last c =
    let h = c.hunt.invariant in
    let d = candidate c.args.line c.args.s.now c.hunt.at c.in-Some.n c.if-s-at.false c.if-s-next.false c.in-Some.ensures in
    finds-waiting c.args.line _ _ _ _ _ h.2 h.0 c.hunt-test.true (scan-waits c.args.line _ _ _ d (omega (arith, c.if-s-last.true)))

pub returns-then-s-place : goal.returns-then-s-place
returns-then-s-place c =
    let d = candidate c.args.line c.args.s.now c.hunt.at c.in-Some.n c.if-s-at.false c.if-s-next.false c.in-Some.ensures in
    record { passed = c.hunt.invariant.0; stands = (c.hunt-test.true, scan-torn c.args.line _ _ _ d c.loop-place.place c.if-place-last.false c.if-s-last.false c.if-s-place.true) }

pub returns-else-s-place : goal.returns-else-s-place
returns-else-s-place c =
    let d = candidate c.args.line c.args.s.now c.hunt.at c.in-Some.n c.if-s-at.false c.if-s-next.false c.in-Some.ensures in
    record { passed = c.hunt.invariant.0; stands = (c.hunt-test.true, scan-frame c.args.line _ _ _ d c.loop-place.place c.if-place-last.false c.if-s-last.false c.if-s-place.false) }
