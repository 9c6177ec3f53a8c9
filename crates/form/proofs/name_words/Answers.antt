-- `name_words`: the highest bits of both words, and what a shift leaves of them.
use Rattle.form.proofs.Names.{low-above, high-above, named-short, named-long}
use Rattle.form.proofs.name_words.Goals as goal

pub returns-then-low-ne0 : goal.returns-then-low-ne0
returns-then-low-ne0 c = low-above c.args.low c.args.high c.args.n c.if-low-ne0.true

pub returns-then-high-ne0 : goal.returns-then-high-ne0
returns-then-high-ne0 c = high-above c.args.low c.args.high c.args.n c.if-high-ne0.true

pub returns-then-n-lt8 : goal.returns-then-n-lt8
returns-then-n-lt8 c = named-short c.args.low c.args.high c.args.n c.ranges.low.fits c.requires.1 c.if-low-ne0.false c.if-high-ne0.false c.if-n-lt8.true

pub returns : goal.returns
returns c = named-long c.args.low c.args.high c.args.n c.ranges.low.fits c.requires.1 c.if-low-ne0.false c.if-high-ne0.false c.if-n-lt8.false
