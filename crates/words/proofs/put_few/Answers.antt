-- `put_few`: by the number of bytes.
use Rattle.words.proofs.WordLaws.{put-none}
use native.Mathlib.Omega.{arith}
use Rattle.words.proofs.put_few.Goals as goal

pub returns-then-n-eq0 : goal.returns-then-n-eq0
returns-then-n-eq0 c =
    (omega (arith, c.if-n-eq0.true), put-none c.args.buffer.now c.args.at c.args.part.now c.if-n-eq0.true)
