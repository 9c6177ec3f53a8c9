-- `power_on`: the stores leave the record that power-on makes.
use native.Mathlib.Omega.{arith}
use mathlib.Core.Path.{◌∙◌}
use lib.ListN.{length-set}
use Rattle.record.proofs.InPlaceLaws.{sound-long}
use Rattle.parts.proofs.Stores.{power-on-stores}
use Rattle.parts.proofs.fresh.power_on.Goals as goal

pub clear-requires : goal.clear-requires
clear-requires c = simp length-set (omega (arith, sound-long c.args.rec.now c.requires))

pub returns : goal.returns
returns c = λ r i e. c.clear.ensures ∙ power-on-stores c.args.rec.now r i e
