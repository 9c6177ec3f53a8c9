-- `form_of`: all groups of fields are fine exactly when the record is well formed.
use Rattle.std.proofs.Common.{◌≡◌, ℕ, true, List, length, sym, ◌∙◌, arith}
use Rattle.std.proofs.Math.Bool.{and-true}
use Rattle.record.specs.Layout.{record_size}
use Rattle.record.specs.Form.{all_fine}
use Rattle.form.specs.Groups.{model_fields, pending_fields}
use Rattle.form.proofs.Fine.{model-none, pending-none, short, bad, good}
use Rattle.form.proofs.form_of.Goals as goal
use Rattle.form.proofs.form_of.Goals.{else-not-all_zero-via-then-not-all_zero+else-not-model_fine, else-not-all_zero-via-else-not-all_zero, else-not-all_zero-2-via-then-not-all_zero-2+else-not-pending_fine, else-not-all_zero-2-via-else-not-all_zero-2}

pub returns-then-s-ne-RECORD_SIZE : goal.returns-then-s-ne-RECORD_SIZE
returns-then-s-ne-RECORD_SIZE c = short c.args.s.now c.if-s-ne-RECORD_SIZE.true

pub returns-then-not-head_fine : goal.returns-then-not-head_fine
returns-then-not-head_fine c = bad c.args.s.now c.if-s-ne-RECORD_SIZE.false 0 c.if-not-head_fine.ensures

pub returns-then-not-radio_fine : goal.returns-then-not-radio_fine
returns-then-not-radio_fine c = bad c.args.s.now c.if-s-ne-RECORD_SIZE.false 1 c.if-not-radio_fine.ensures

pub returns-then-not-inputs_fine : goal.returns-then-not-inputs_fine
returns-then-not-inputs_fine c = bad c.args.s.now c.if-s-ne-RECORD_SIZE.false 2 c.if-not-inputs_fine.ensures

pub returns-then-not-switches_fine : goal.returns-then-not-switches_fine
returns-then-not-switches_fine c = bad c.args.s.now c.if-s-ne-RECORD_SIZE.false 3 c.if-not-switches_fine.ensures

pub returns-then-not-name_fine : goal.returns-then-not-name_fine
returns-then-not-name_fine c = bad c.args.s.now c.if-s-ne-RECORD_SIZE.false 4 c.if-not-name_fine.ensures

pub returns-then-not-model_fine : goal.returns-then-not-model_fine
returns-then-not-model_fine c = bad c.args.s.now c.if-s-ne-RECORD_SIZE.false 5 (c.if-not-model_fine.ensures ∙ sym (and-true _))

pub returns-then-not-pending_fine : goal.returns-then-not-pending_fine
returns-then-not-pending_fine c = bad c.args.s.now c.if-s-ne-RECORD_SIZE.false 6 c.if-not-pending_fine.ensures

pub returns-then-not-pairs_fine : goal.returns-then-not-pairs_fine
returns-then-not-pairs_fine c = bad c.args.s.now c.if-s-ne-RECORD_SIZE.false 7 c.if-not-pairs_fine.ensures

pub returns : goal.returns
returns c =
    let s : List ℕ = c.args.s.now in
    let long : length s ≡ record_size = c.if-s-ne-RECORD_SIZE.false in
    let model : true ≡ all_fine (model_fields s) = elim c.else-not-all_zero.branch [
      | else-not-all_zero-via-then-not-all_zero+else-not-model_fine w ↦ w.if-not-model_fine.ensures ∙ sym (and-true _)
      | else-not-all_zero-via-else-not-all_zero w ↦ sym (model-none s (omega (arith, long)) (sym w.if-not-all_zero.ensures))
    ] in
    let pending : true ≡ all_fine (pending_fields s) = elim c.else-not-all_zero-2.branch [
      | else-not-all_zero-2-via-then-not-all_zero-2+else-not-pending_fine w ↦ w.if-not-pending_fine.ensures
      | else-not-all_zero-2-via-else-not-all_zero-2 w ↦ sym (pending-none s (omega (arith, long)) (sym w.if-not-all_zero-2.ensures))
    ] in
    good s long c.if-not-head_fine.ensures c.if-not-radio_fine.ensures c.if-not-inputs_fine.ensures c.if-not-switches_fine.ensures c.if-not-name_fine.ensures model pending c.if-not-pairs_fine.ensures
