-- `read_in`: each turn of the loop writes one entry or skips, up to the end or to what waits.
use native.Mathlib.Omega.{arith}
use Prim.Native.Nat.{◌≤◌}
use mathlib.Core.Path.{◌≡◌, sym}
use mathlib.Core.Logic.{◌⊎◌, inl, inr}
use lib.ListN.{length, drop}
use Rattle.wire.specs.Reader.{reader}
use Rattle.wire.specs.Frames.{Wait, look}
use Rattle.wire.proofs.CutLaws.{look-unsaid}
use Rattle.wire.proofs.ReaderLaws.{read-few, read-waits, read-noise}
use Rattle.reader.proofs.ReadLaws.{reads-start, reads-pass, reads-skip, reads-torn, reads-frame, reads_end}
use Rattle.reader.proofs.read_in.Goals as goal
use Rattle.reader.proofs.read_in.Goals.{else-read-test, then-read-test+else-s-at+in-NeedMore, then-read-test+else-s-at+in-Of+then-s-last}

pub read-init : goal.read-init
read-init c = reads-start c.args.s.now c.args.list.now

pub read-preserved-then-s-at : goal.read-preserved-then-s-at
read-preserved-then-s-at c =
    let s = c.args.s.now in
    let l = c.read in
    let e = c.next_aa-at in
    reads-pass s c.args.list.now l.at l.entries l.framed l.list l.invariant e.result (read-noise s l.at e.result e.ensures.noise)

pub read-preserved-in-NoHead : goal.read-preserved-in-NoHead
read-preserved-in-NoHead c =
    let l = c.read in
    reads-skip c.args.s.now c.args.list.now l.at l.entries l.framed l.list l.invariant c.read-test.true (sym c.in-NoHead.ensures)

-- no head announces so much that the sum would not fit
pub overflow_add-last-in-read : goal.overflow_add-last-in-read
overflow_add-last-in-read c =
    omega (arith, c.read-test.true, read-few c.args.s.now c.read.at c.in-Of.n (λ i. omega (arith, c.type_inv.s i)) (sym c.in-Of.ensures))

pub read-preserved-then-s-last-2 : goal.read-preserved-then-s-last-2
read-preserved-then-s-last-2 c =
    let l = c.read in
    reads-torn c.args.s.now c.args.list.now l.at l.entries l.framed l.list l.invariant c.if-s-at.false c.in-Of.n (sym c.in-Of.ensures) c.if-s-last.false c.if-s-last-2.true

pub read-preserved : goal.read-preserved
read-preserved c =
    let l = c.read in
    reads-frame c.args.s.now c.args.list.now l.at l.entries l.framed l.list l.invariant c.requires.1 c.in-Of.n (sym c.in-Of.ensures) c.if-s-last.false c.if-s-last-2.false _ c.put_entry.ensures

-- the end of the capture, a front that does not say its size, a candidate that is not all there
pub returns : goal.returns
returns c =
    let s = c.args.s.now in
    let l = c.read in
    let stops : (length s ≤ l.at) ⊎ (look reader (drop l.at s) ≡ Wait) =
    elim c.read-test.branch [
      | else-read-test w ↦ inl w.read-test.false
      | then-read-test+else-s-at+in-NeedMore w ↦ inr (look-unsaid reader _ (sym w.in-NeedMore.ensures))
      | then-read-test+else-s-at+in-Of+then-s-last w ↦ inr (read-waits s l.at w.in-Of.n (sym w.in-Of.ensures) w.read-test.true w.if-s-last.true)
    ] in
    reads_end s c.args.list.now l.at l.entries l.framed l.list l.invariant stops
