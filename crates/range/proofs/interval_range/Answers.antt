-- `interval_range`: too big above 59, too small below 4 but for 0.
use mathlib.Core.Path.{sym, ap, ◌∙◌}
use Rattle.record.proofs.Pieces.{fits-is}
use Rattle.range.proofs.Ranges.{side, interval-missed}
use Rattle.range.proofs.interval_range.Goals as goal

pub returns-then-interval_fits : goal.returns-then-interval_fits
returns-then-interval_fits c = sym (fits-is _ (sym c.interval_fits.ensures ∙ c.if-interval_fits.true))

pub returns-then-b : goal.returns-then-b
returns-then-b c =
    let b = c.args.b in
    sym (interval-missed b (sym c.interval_fits.ensures ∙ c.if-interval_fits.false) ∙ ap side c.if-b.true)

pub returns : goal.returns
returns c =
    let b = c.args.b in
    sym (interval-missed b (sym c.interval_fits.ensures ∙ c.if-interval_fits.false) ∙ ap side c.if-b.false)
