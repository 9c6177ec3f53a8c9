-- `power_range`: too big above 12, too small below -20.
use mathlib.Core.Path.{sym, ap, ◌∙◌}
use borrow.Author.Tests.{lt-ltb, le-ltb}
use Rattle.record.proofs.Pieces.{fits-is}
use Rattle.range.proofs.Ranges.{side, power-missed}
use Rattle.range.proofs.power_range.Goals as goal

pub returns-then-power_fits : goal.returns-then-power_fits
returns-then-power_fits c = sym (fits-is _ (sym c.power_fits.ensures ∙ c.if-power_fits.true))

pub returns-then-w-lt32768 : goal.returns-then-w-lt32768
returns-then-w-lt32768 c =
    let w = c.args.w in
    sym (power-missed w (sym c.power_fits.ensures ∙ c.if-power_fits.false) ∙ ap side (lt-ltb w 32768 c.if-w-lt32768.true))

pub returns : goal.returns
returns c =
    let w = c.args.w in
    sym (power-missed w (sym c.power_fits.ensures ∙ c.if-power_fits.false) ∙ ap side (le-ltb w 32768 c.if-w-lt32768.false))
