-- `put_in`: a copy into a slice of the buffer puts the part.
use Rattle.std.proofs.Common.{refl, arith}
use Rattle.wire.proofs.PutLaws.{put-mid}
use Rattle.buffer.proofs.write.put_in.Goals as goal

pub returns : goal.returns
returns c = (refl, rw c.copy_from_slice.ensures.after (put-mid c.args.buffer.now c.args.at _ c.args.part.now (omega arith)))
