-- `renew`: factory leaves its outcome, by the length alone.
use Rattle.call.proofs.Ends.{factory-refuses, factory-ends}
use Rattle.birth.proofs.factory.renew.Goals as goal

pub returns-then-rec-ne-RECORD_SIZE : goal.returns-then-rec-ne-RECORD_SIZE
returns-then-rec-ne-RECORD_SIZE c = factory-refuses c.args.rec.now c.if-rec-ne-RECORD_SIZE.true

pub returns : goal.returns
returns c = rw (c.default.ensures.0, c.default.ensures.1) (factory-ends c.args.rec.now c.if-rec-ne-RECORD_SIZE.false _ c.write_factory.ensures)
