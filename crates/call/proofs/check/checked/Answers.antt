-- `checked`: a good record is sound.
use mathlib.Core.Path.{sym, ◌∙◌}
use borrow.Author.Rules.{rules}
use Rattle.call.proofs.Ends.{good-sound}
use Rattle.call.proofs.check.checked.Goals as goal

pub returns-clause-sound : goal.returns-clause-sound
returns-clause-sound c = good-sound c.args.rec.now (λ i. search rules) (sym c.form_of.ensures ∙ c.in-Good.is)
