-- `size_at`: 15, 5F and 6F leave it to the third byte, other 5n and 6n announce n bytes.
use mathlib.Core.Path.{sym}
use Rattle.wire.proofs.ReaderLaws.{read-alone, read-unsaid, read-third, read-reply, read_none}
use Rattle.reader.proofs.heads.size_at.Goals as goal

pub returns-then-s-at : goal.returns-then-s-at
returns-then-s-at c = read-alone c.args.s.now c.args.at c.requires.1 c.if-s-at.true

pub returns-then-s-at-2 : goal.returns-then-s-at-2
returns-then-s-at-2 c =
    read-unsaid c.args.s.now c.args.at c.requires.1 c.if-s-at.false (rw (sym c.is_long.ensures) c.if-is_long-b.true) c.if-s-at-2.true

pub returns-then-is_long-b : goal.returns-then-is_long-b
returns-then-is_long-b c = read-third c.args.s.now c.args.at c.requires.1 c.if-s-at.false c.if-s-at-2.false _ c.third_size.ensures

pub returns-then-b : goal.returns-then-b
returns-then-b c =
    read-reply c.args.s.now c.args.at c.requires.1 c.if-s-at.false (rw (sym c.is_long.ensures) c.if-is_long-b.false) c.if-b.true

pub returns : goal.returns
returns c =
    read_none c.args.s.now c.args.at c.requires.1 c.if-s-at.false (rw (sym c.is_long.ensures) c.if-is_long-b.false) c.if-b.false
