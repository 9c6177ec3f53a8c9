-- `setting_range`: the kind of a setting's range tells which test it is.
use mathlib.Core.Path.{ap, ◌∙◌}
use Rattle.record.specs.Layout.{filters}
use Rattle.record.specs.Limits.{power_range, filter_range}
use Rattle.range.proofs.Ranges.{as_long, as_told}
use Rattle.range.proofs.setting_range.Goals as goal

pub bounds-p-0 : goal.bounds-p-0
bounds-p-0 c = as_long c.args.k _ c.sheet_of-limits.ensures.limits _ c.in-Upto.is _ c.requires

pub half_at-requires : goal.half_at-requires
half_at-requires c = as_long c.args.k _ c.sheet_of-limits.ensures.limits _ c.in-OfPower.is _ c.requires

pub bounds-p-0-in-OfInterval : goal.bounds-p-0-in-OfInterval
bounds-p-0-in-OfInterval c = as_long c.args.k _ c.sheet_of-limits.ensures.limits _ c.in-OfInterval.is _ c.requires

pub word_at-requires : goal.word_at-requires
word_at-requires c = as_long c.args.k _ c.sheet_of-limits.ensures.limits _ c.in-OfFilter.is _ c.requires

pub returns-in-Upto : goal.returns-in-Upto
returns-in-Upto c = c.signed_range.ensures ∙ as_told c.args.k _ c.sheet_of-limits.ensures.limits _ c.in-Upto.is c.args.p.now

pub returns-in-OfPower : goal.returns-in-OfPower
returns-in-OfPower c = c.power_range.ensures ∙ ap power_range c.half_at.ensures ∙ as_told c.args.k _ c.sheet_of-limits.ensures.limits _ c.in-OfPower.is c.args.p.now

pub returns-in-OfInterval : goal.returns-in-OfInterval
returns-in-OfInterval c = c.interval_range.ensures ∙ as_told c.args.k _ c.sheet_of-limits.ensures.limits _ c.in-OfInterval.is c.args.p.now

pub returns-in-OfFilter : goal.returns-in-OfFilter
returns-in-OfFilter c = c.filter_range.ensures ∙ ap (filter_range filters) c.word_at.ensures ∙ as_told c.args.k _ c.sheet_of-limits.ensures.limits _ c.in-OfFilter.is c.args.p.now
