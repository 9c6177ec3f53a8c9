-- `check_pairs`: the pairs from here on.
use Rattle.std.proofs.Common.{◌≡◌, Err, sym, ap, ◌∙◌, arith, rules}
use Rattle.record.specs.Layout.{channels, at_pairs}
use Rattle.fault.proofs.First.{left_all, left_bad, left_fine, left_none}
use Rattle.fault.proofs.Groups.{pair_fine, failed, passed}
use Rattle.fault.proofs.check_pairs.Goals as goal

pub loop-i-init : goal.loop-i-init
loop-i-init c = left_all channels 8 (pair_fine c.args.s.now) at_pairs

pub returns-in_err-check : goal.returns-in_err-check
returns-in_err-check c =
    let s = c.args.s.now in
    let r : c.from_residual.result ≡ Err c.in_err-check.field-0.0 = search rules in
    let f = failed _ _ _ (sym c.in_err-check.ensures) in
    r ∙ sym (c.loop-i.invariant ∙ left_bad channels 8 (pair_fine s) at_pairs c.loop-i.i (omega arith) (sym (rw c.flag_in-seen.ensures at c.pair_fine.ensures) ∙ f.0) ∙ ap Err f.1)

pub loop-i-preserved : goal.loop-i-preserved
loop-i-preserved c =
    c.loop-i.invariant ∙ left_fine channels 8 (pair_fine c.args.s.now) at_pairs c.loop-i.i (omega arith) (sym (rw c.flag_in-seen.ensures at c.pair_fine.ensures) ∙ passed _ _ _ (sym c.in_ok-check.ensures))

pub returns : goal.returns
returns c = sym (c.loop-i.invariant ∙ left_none channels 8 (pair_fine c.args.s.now) at_pairs c.loop-i.i (omega arith))
