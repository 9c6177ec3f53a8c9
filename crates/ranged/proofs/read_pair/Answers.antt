-- `read_pair`: in range the data are put, out of range nothing is.
use Rattle.std.proofs.Common.{◌∙◌, sym, refl, length, arith}
use Rattle.record.proofs.InPlaceLaws.{sound-long}
use Rattle.command.specs.declared.Command.TheVariants.{ReadPair}
use Rattle.command.specs.Tables.{span_of, range_of}
use Rattle.command.proofs.Keep.{counted-span}
use Rattle.command.proofs.Admitted.{pair-channel}
use Rattle.ranged.proofs.Rows.{tells-pair}
use Rattle.ranged.proofs.read_pair.Goals as goal

pub pair_range-range-requires : goal.pair_range-range-requires
unfolding span_of
pair_range-range-requires c = (counted-span ReadPair (length c.args.p.now) c.requires.p_value).0

pub returns-in_default : goal.returns-in_default
unfolding range_of
returns-in_default c = (rw (sym c.pair_range-range.ensures) (c.refusal_of.ensures _), refl)

pub put_pair-requires-clause-channel_in_bounds : goal.put_pair-requires-clause-channel_in_bounds
unfolding range_of
put_pair-requires-clause-channel_in_bounds c =
    let k = pair-channel c.args.p.now (sym c.pair_range-range.ensures ∙ c.in-Fits.is) in
    (omega (arith, sound-long c.args.rec.now c.requires.sound, k), c.requires.data_most_in_bounds)

pub returns : goal.returns
unfolding range_of
returns c = tells-pair _ _ _ _ _ c.requires.sound (sym c.pair_range-range.ensures ∙ c.in-Fits.is) c.put_pair.ensures
