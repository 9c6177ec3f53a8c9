-- `name_range`: too big where a byte is above 7F.
use mathlib.Core.Path.{refl, sym, ◌∙◌}
use Rattle.range.proofs.Ranges.{name-range}
use Rattle.range.proofs.name_range.Goals as goal

pub returns-then-name_bytes : goal.returns-then-name_bytes
returns-then-name_bytes c = rw (name-range c.args.p.now, sym c.name_bytes.ensures ∙ c.if-name_bytes.true) refl

pub returns : goal.returns
returns c = rw (name-range c.args.p.now, sym c.name_bytes.ensures ∙ c.if-name_bytes.false) refl
