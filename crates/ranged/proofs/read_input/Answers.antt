-- `read_input`: in range the data are put, out of range nothing is.
use Rattle.std.proofs.Common.{◌∙◌, sym, refl, length, arith}
use Rattle.record.specs.Layout.{record_of}
use Rattle.record.proofs.InPlaceLaws.{sound-long}
use Rattle.command.specs.declared.Command.TheVariants.{ReadInput}
use Rattle.command.specs.Tables.{span_of, range_of}
use Rattle.command.specs.Effects.{data_of}
use Rattle.command.proofs.Keep.{counted-span}
use Rattle.ranged.proofs.read_input.Goals as goal

pub channel_range-range-requires : goal.channel_range-range-requires
unfolding span_of
channel_range-range-requires c = (counted-span ReadInput (length c.args.p.now) c.requires.p_value).0

pub returns-in_default : goal.returns-in_default
unfolding range_of
returns-in_default c = (rw (sym c.channel_range-range.ensures) (c.refusal_of.ensures _), refl)

pub put_input-requires-clause-at_inputs_in_bounds : goal.put_input-requires-clause-at_inputs_in_bounds
put_input-requires-clause-at_inputs_in_bounds c = (omega (arith, sound-long c.args.rec.now c.requires.sound), c.requires.data_most_in_bounds)

pub returns : goal.returns
unfolding range_of data_of record_of
returns c = (sym c.channel_range-range.ensures ∙ c.in-Fits.is, c.put_input.ensures)
