-- `write_input`: in range it is stored, out of range nothing is.
use Rattle.std.proofs.Common.{◌∙◌, sym, refl, length, arith}
use Rattle.record.specs.Layout.{InputBytes, at_inputs}
use Rattle.record.proofs.InPlaceLaws.{sound-at}
use Rattle.command.specs.declared.Command.TheVariants.{SetInput}
use Rattle.command.specs.Tables.{span_of, range_of}
use Rattle.command.specs.Effects.{effect_of}
use Rattle.command.proofs.Keep.{counted-span}
use Rattle.ranged.proofs.Rows.{stores}
use Rattle.ranged.proofs.write_input.Goals as goal

pub input_range-range-requires : goal.input_range-range-requires
unfolding span_of
input_range-range-requires c = (counted-span SetInput (length c.args.p.now) c.requires.p_value).0

pub returns-in_default : goal.returns-in_default
unfolding range_of
returns-in_default c = (rw (sym c.input_range-range.ensures) (c.refusal_of.ensures _), refl)

pub bounds-p-1 : goal.bounds-p-1
unfolding span_of
bounds-p-1 c = omega (arith, (counted-span SetInput (length c.args.p.now) c.requires.p_value).0)

pub set_input-requires-clause-sound_at : goal.set_input-requires-clause-sound_at
set_input-requires-clause-sound_at c = sound-at InputBytes at_inputs refl refl _ c.requires.sound

pub returns : goal.returns
unfolding range_of effect_of
returns c = stores SetInput InputBytes at_inputs refl refl _ c.args.p.now _ (sym c.input_range-range.ensures ∙ c.in-Fits.is) c.set_input.ensures
