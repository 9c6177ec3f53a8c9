-- `received`: the bytes call leaves its outcome, whichever check refuses it or none.
use native.Mathlib.Omega.{arith}
use borrow.Author.Rules.{rules}
use Rattle.std.proofs.lemmas.Result.{err_from_is_err_and}
use Rattle.call.proofs.Ends.{good-long}
use Rattle.hunt.proofs.JoinLaws.{held-is, held_fits}
use Rattle.receive.proofs.BytesEnds.{served-small, bytes-bad-record, bytes-bad-length, bytes-no-room, bytes-empty, bytes-done}
use Rattle.receive.proofs.received.Goals as goal

pub returns-in_err-checked : goal.returns-in_err-checked
returns-in_err-checked c =
    let z = c.args in
    let p = err_from_is_err_and c.from_residual.result c.from_residual.ensures.1 in
    rw (p.1, p.2) (bytes-bad-record z.rec.now z.input.now z.out.now _ c.in_err-checked.ensures.decided)

pub returns-then-input-gt-INPUT_MOST : goal.returns-then-input-gt-INPUT_MOST
returns-then-input-gt-INPUT_MOST c = let z = c.args in bytes-bad-length z.rec.now z.input.now z.out.now c.in_ok-checked.ensures.decided c.if-input-gt-INPUT_MOST.true

pub bounds-rec-56 : goal.bounds-rec-56
bounds-rec-56 c = omega (arith, good-long c.args.rec.now c.in_ok-checked.ensures.decided)

pub room_for-requires : goal.room_for-requires
room_for-requires c = (held_fits c.args.rec.now c.in_ok-checked.ensures.sound, c.if-input-gt-INPUT_MOST.false)

pub returns-then-out-room_for : goal.returns-then-out-room_for
returns-then-out-room_for c =
    let z = c.args in
    let ok = c.in_ok-checked.ensures in
    bytes-no-room z.rec.now z.input.now z.out.now ok.decided ok.sound c.if-input-gt-INPUT_MOST.false (omega (arith, c.if-out-room_for.true, c.room_for.ensures))

pub returns-then-input-eq0 : goal.returns-then-input-eq0
returns-then-input-eq0 c =
    let z = c.args in
    let ok = c.in_ok-checked.ensures in
    rw (c.default.ensures.0, c.default.ensures.1)
    (bytes-empty z.rec.now z.input.now z.out.now ok.decided ok.sound c.if-input-gt-INPUT_MOST.false (omega (arith, c.if-out-room_for.false, c.room_for.ensures)) (λ i. search rules) c.if-input-eq0.true)

pub serve-p-requires-clause-input_in_bounds : goal.serve-p-requires-clause-input_in_bounds
serve-p-requires-clause-input_in_bounds c = omega (arith, held-is c.args.rec.now c.in_ok-checked.ensures.sound, c.if-out-room_for.false, c.room_for.ensures)

pub overflow_cast-written : goal.overflow_cast-written
overflow_cast-written c =
    let z = c.args in
    let m = served-small z.rec.now z.input.now z.out.now c.serve-p.result _ _ c.in_ok-checked.ensures.sound (λ i. search rules) c.if-input-gt-INPUT_MOST.false c.serve-p.ensures in
    omega (arith, m.0)

pub overflow_cast-skipped : goal.overflow_cast-skipped
overflow_cast-skipped c =
    let z = c.args in
    let m = served-small z.rec.now z.input.now z.out.now c.serve-p.result _ _ c.in_ok-checked.ensures.sound (λ i. search rules) c.if-input-gt-INPUT_MOST.false c.serve-p.ensures in
    omega (arith, m.1)

pub returns : goal.returns
returns c =
    let z = c.args in
    let ok = c.in_ok-checked.ensures in
    bytes-done z.rec.now z.input.now z.out.now ok.decided ok.sound c.if-input-gt-INPUT_MOST.false (omega (arith, c.if-out-room_for.false, c.room_for.ensures)) c.serve-p.result _ _ c.serve-p.ensures
