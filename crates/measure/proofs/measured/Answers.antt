-- `measured`: the samples call leaves its outcome, whichever check refuses it or none, with sending on and off.
use Prim.Native.Nat.{ℕ}
use mathlib.Core.Path.{◌≡◌, sym, ap, ◌∙◌}
use mathlib.Core.Bool.{Bool}
use mathlib.Core.List.{List}
use Rattle.std.proofs.lemmas.Result.{err_from_is_err_and}
use Rattle.peak.specs.Pairs.{all_finite}
use Rattle.reading.specs.Decoded.{words_at, finite_all}
use Rattle.reading.proofs.Readings.{finite-all}
use Rattle.record.specs.Layout.{channels}
use Rattle.call.proofs.SampleEnds.{bad-record, bad-length, no_room, not_finite, silent, sent}
use Rattle.measure.proofs.measured.Goals as goal

-- what is said of the values is said of the sample
all-finite : (sample x : List ℕ) (b : Bool) → x ≡ words_at channels sample 0 → b ≡ finite_all x → b ≡ all_finite channels sample 0
all-finite sample x b values says = says ∙ ap finite_all values ∙ finite-all channels sample 0

pub returns-in_err-checked : goal.returns-in_err-checked
returns-in_err-checked c =
    let z = c.args in
    let p = err_from_is_err_and c.from_residual.result c.from_residual.ensures.1 in
    rw (p.1, p.2) (bad-record z.rec.now z.sample.now z.out.now _ c.in_err-checked.ensures.decided)

pub returns-then-sample-ne-SAMPLE_SIZE : goal.returns-then-sample-ne-SAMPLE_SIZE
returns-then-sample-ne-SAMPLE_SIZE c =
    let z = c.args in
    bad-length z.rec.now z.sample.now z.out.now c.in_ok-checked.ensures.decided c.if-sample-ne-SAMPLE_SIZE.true

pub returns-then-out-lt-MEASURING_SIZE : goal.returns-then-out-lt-MEASURING_SIZE
returns-then-out-lt-MEASURING_SIZE c =
    let z = c.args in
    no_room z.rec.now z.sample.now z.out.now c.in_ok-checked.ensures.decided c.if-sample-ne-SAMPLE_SIZE.false c.if-out-lt-MEASURING_SIZE.true

pub returns-then-not-finite_values : goal.returns-then-not-finite_values
returns-then-not-finite_values c =
    let z = c.args in
    let all = all-finite z.sample.now _ _ c.values_of-x.ensures c.finite_values.ensures in
    not_finite z.rec.now z.sample.now z.out.now c.in_ok-checked.ensures.decided c.if-sample-ne-SAMPLE_SIZE.false c.if-out-lt-MEASURING_SIZE.false (sym all ∙ c.if-not-finite_values.true)

pub take_reading-requires-clause-sample_value : goal.take_reading-requires-clause-sample_value
take_reading-requires-clause-sample_value c = sym (all-finite c.args.sample.now _ _ c.values_of-x.ensures c.finite_values.ensures) ∙ c.if-not-finite_values.false

pub returns-then-not-take_reading : goal.returns-then-not-take_reading
returns-then-not-take_reading c =
    let z = c.args in
    let all = all-finite z.sample.now _ _ c.values_of-x.ensures c.finite_values.ensures in
    let t = c.take_reading.ensures in
    rw (c.default.ensures.0, c.default.ensures.1)
    (silent z.rec.now z.sample.now z.out.now c.in_ok-checked.ensures.decided c.if-sample-ne-SAMPLE_SIZE.false c.if-out-lt-MEASURING_SIZE.false (sym all ∙ c.if-not-finite_values.false) _ t.1 (sym t.0 ∙ c.if-not-take_reading.true))

pub returns : goal.returns
returns c =
    let z = c.args in
    let all = all-finite z.sample.now _ _ c.values_of-x.ensures c.finite_values.ensures in
    let t = c.take_reading.ensures in
    sent z.rec.now z.sample.now z.out.now c.in_ok-checked.ensures.decided c.if-sample-ne-SAMPLE_SIZE.false c.if-out-lt-MEASURING_SIZE.false (sym all ∙ c.if-not-finite_values.false) _ t.1 (sym t.0 ∙ c.if-not-take_reading.false) _ c.put_measuring_frame.ensures
