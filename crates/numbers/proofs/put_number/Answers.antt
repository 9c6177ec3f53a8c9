-- `put_number`: the bytes of a number are put, by how many they are.
use native.Mathlib.Omega.{arith}
use lib.ListN.{length-set}
use Rattle.wire.proofs.PutLaws.{narrow, number-one, number-two, number-four}
use Rattle.numbers.proofs.put_number.Goals as goal

pub bounds-s-from : goal.bounds-s-from
bounds-s-from c = omega (arith, narrow c.args.n c.requires.narrow)

pub bounds-buffer-at : goal.bounds-buffer-at
bounds-buffer-at c = omega (arith, narrow c.args.n c.requires.narrow)

pub returns-then-n-lt2 : goal.returns-then-n-lt2
returns-then-n-lt2 c = number-one c.args.n c.requires.narrow c.args.buffer.now c.args.s.now c.args.at c.args.from c.requires.n_in_bounds.0 c.if-n-lt2.true

pub bounds-buffer-at-2 : goal.bounds-buffer-at-2
bounds-buffer-at-2 c = simp length-set (omega arith)

pub returns-then-n-lt4 : goal.returns-then-n-lt4
returns-then-n-lt4 c = number-two c.args.n c.requires.narrow c.args.buffer.now c.args.s.now c.args.at c.args.from c.requires.n_in_bounds.0 c.if-n-lt2.false c.if-n-lt4.true

pub bounds-buffer-at-3 : goal.bounds-buffer-at-3
bounds-buffer-at-3 c = simp length-set (omega arith)

pub bounds-buffer-at-4 : goal.bounds-buffer-at-4
bounds-buffer-at-4 c = simp length-set (omega arith)

pub returns : goal.returns
returns c = number-four c.args.n c.requires.narrow c.args.buffer.now c.args.s.now c.args.at c.args.from c.requires.n_in_bounds.0 c.if-n-lt4.false
