-- `write_output`: in range it is stored, out of range nothing is.
use Rattle.std.proofs.Common.{◌∙◌, sym, refl, length, arith}
use Rattle.record.specs.Layout.{OutputByte, at_outputs}
use Rattle.record.proofs.InPlaceLaws.{sound-at}
use Rattle.command.specs.declared.Command.TheVariants.{SwitchOutput}
use Rattle.command.specs.Tables.{span_of, range_of}
use Rattle.command.specs.Effects.{effect_of}
use Rattle.command.proofs.Keep.{counted-span}
use Rattle.ranged.proofs.Rows.{stores}
use Rattle.ranged.proofs.write_output.Goals as goal

pub output_range-range-requires : goal.output_range-range-requires
unfolding span_of
output_range-range-requires c = (counted-span SwitchOutput (length c.args.p.now) c.requires.p_value).0

pub returns-in_default : goal.returns-in_default
unfolding range_of
returns-in_default c = (rw (sym c.output_range-range.ensures) (c.refusal_of.ensures _), refl)

pub bounds-p-1 : goal.bounds-p-1
unfolding span_of
bounds-p-1 c = omega (arith, (counted-span SwitchOutput (length c.args.p.now) c.requires.p_value).0)

pub switch_output-requires-clause-sound_at : goal.switch_output-requires-clause-sound_at
switch_output-requires-clause-sound_at c = sound-at OutputByte at_outputs refl refl _ c.requires.sound

pub returns : goal.returns
unfolding range_of effect_of
returns c = stores SwitchOutput OutputByte at_outputs refl refl _ c.args.p.now _ (sym c.output_range-range.ensures ∙ c.in-Fits.is) c.switch_output.ensures
