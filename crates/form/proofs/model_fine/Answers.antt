-- `model_fine`: zeros from the first zero on are what a model asks.
use Rattle.form.proofs.Fine.{model_is}
use mathlib.Core.Path.{◌∙◌}
use Rattle.form.proofs.model_fine.Goals as goal

pub returns : goal.returns
returns c = c.zeros.ensures ∙ model_is c.args.s.now c.args.at c.requires _ c.first_zero-zero.ensures.0
