-- `put_eight`: the bytes that are copied are those of the number.
use Rattle.std.proofs.Common.{◌∙◌, arith}
use Rattle.wire.proofs.PutLaws.{put-mid}
use Rattle.low.proofs.LowLaws.{low-first}
use Rattle.low.proofs.put_eight.Goals as goal

pub returns : goal.returns
returns c =
    rw (c.copy_from_slice.ensures.after ∙ c.to_le_bytes.ensures ∙ low-first 8 c.args.w) (put-mid c.args.buffer.now c.args.at _ _ (omega arith))
