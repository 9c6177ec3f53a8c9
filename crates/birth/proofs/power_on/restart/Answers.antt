-- `restart`: power-on leaves its outcome, by the record's form.
use Rattle.std.proofs.lemmas.Result.{err_from_is_err_and}
use Rattle.call.proofs.Ends.{power-on-refuses, power-on-ends}
use Rattle.birth.proofs.power_on.restart.Goals as goal

pub returns-in_err-checked : goal.returns-in_err-checked
returns-in_err-checked c =
    let p = err_from_is_err_and c.from_residual.result c.from_residual.ensures.1 in rw (p.1, p.2) (power-on-refuses c.args.rec.now _ c.in_err-checked.ensures.decided)

pub returns : goal.returns
returns c =
    let ok = c.in_ok-checked.ensures in
    rw (c.default.ensures.0, c.default.ensures.1) (power-on-ends c.args.rec.now ok.decided ok.sound _ c.power_on.ensures)
