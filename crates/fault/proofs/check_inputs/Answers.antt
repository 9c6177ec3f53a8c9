-- `check_inputs`: the input types from here on.
use Rattle.std.proofs.Common.{◌≡◌, ◌+◌, ◌-◌, ◌*◌, Err, sym, ap, ◌∙◌, arith, rules}
use Rattle.record.specs.Layout.{at_inputs}
use Rattle.fault.proofs.First.{left_all, left_bad, left_fine, left_none}
use Rattle.fault.proofs.Groups.{input_fine, input_at, failed, passed}
use Rattle.fault.proofs.check_inputs.Goals as goal

pub loop-at-init : goal.loop-at-init
loop-at-init c = left_all 5 1 (input_fine c.args.s.now) at_inputs

pub returns-in_err-check : goal.returns-in_err-check
returns-in_err-check c =
    let s = c.args.s.now in
    let at = c.loop-at.at in
    let r : c.from_residual.result ≡ Err c.in_err-check.field-0.0 = search rules in
    let f = failed _ _ _ (sym c.in_err-check.ensures) in
    let e : at_inputs + 1 * (at - at_inputs) ≡ c.in_err-check.field-0.0 = omega (arith, f.1, c.loop-at.auto.at) in
    r ∙ sym (c.loop-at.invariant ∙ left_bad 5 1 (input_fine s) at_inputs (at - at_inputs) (omega arith) (input_at s at (omega arith) ∙ f.0) ∙ ap Err e)

pub loop-at-preserved : goal.loop-at-preserved
loop-at-preserved c =
    let s = c.args.s.now in
    let at = c.loop-at.at in
    let e : at - at_inputs + 1 ≡ at + 1 - at_inputs = omega arith in
    rw (sym e) (c.loop-at.invariant ∙ left_fine 5 1 (input_fine s) at_inputs (at - at_inputs) (omega arith) (input_at s at (omega arith) ∙ passed _ _ _ (sym c.in_ok-check.ensures)))

pub returns : goal.returns
returns c = sym (c.loop-at.invariant ∙ left_none 5 1 (input_fine c.args.s.now) at_inputs (c.loop-at.at - at_inputs) (omega arith))
