-- `decode`: the six pairs are those of the record's bytes.
use Rattle.std.proofs.Common.{rules}
use Rattle.reading.proofs.Readings.{six-decoded}
use Rattle.reading.proofs.peaks.decode.Goals as goal

pub returns : goal.returns
returns c = six-decoded c.args.rec.now c.args.at c.from_fn.result c.from_fn.ensures.items.long (search rules) (search rules) (search rules) (search rules) (search rules) (search rules)
