-- `fault_of`: a wrong length, else the first place that a group names.
use Rattle.std.proofs.Common.{◌≡◌, ◌∙◌, ap}
use Rattle.fault.proofs.Groups.{size-bad, place-is, place_of}
use Rattle.fault.proofs.fault_of.Goals as goal

pub returns-then-s-ne-RECORD_SIZE : goal.returns-then-s-ne-RECORD_SIZE
returns-then-s-ne-RECORD_SIZE c = size-bad c.args.s.now c.if-s-ne-RECORD_SIZE.true

pub returns : goal.returns
returns c =
    let e : c.unwrap_or.result ≡ place_of c.check_fields.result = cc in
    e ∙ ap place_of c.check_fields.ensures ∙ place-is c.args.s.now c.if-s-ne-RECORD_SIZE.false
