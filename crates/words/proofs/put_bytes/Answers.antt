-- `put_bytes`: three stores, of which some may be the same, are the part.
use Rattle.words.proofs.WordLaws.{put-three-bytes}
use native.Mathlib.Omega.{arith}
use lib.ListN.{length-set}
use Rattle.words.proofs.put_bytes.Goals as goal

pub bounds-buffer-at-2 : goal.bounds-buffer-at-2
bounds-buffer-at-2 c = simp length-set (omega arith)

pub bounds-buffer-at-3 : goal.bounds-buffer-at-3
bounds-buffer-at-3 c = simp length-set (omega arith)

pub returns : goal.returns
returns c =
    (omega arith, put-three-bytes c.args.buffer.now c.args.at c.args.part.now c.requires.part_in_bounds c.requires.part_nonzero.0 c.requires.part_nonzero.1)
