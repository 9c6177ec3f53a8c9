-- `write_name`: in range it is stored, out of range nothing is.
use Rattle.std.proofs.Common.{◌∙◌, sym, refl, length}
use Rattle.record.specs.Layout.{NamePart, at_name_length}
use Rattle.record.proofs.InPlaceLaws.{sound-at}
use Rattle.command.specs.declared.Command.TheVariants.{SetName}
use Rattle.command.specs.Tables.{span_of, range_of}
use Rattle.command.specs.Effects.{effect_of}
use Rattle.command.proofs.Keep.{counted-span}
use Rattle.ranged.proofs.Rows.{stores}
use Rattle.ranged.proofs.write_name.Goals as goal

pub returns-in_default : goal.returns-in_default
unfolding range_of
returns-in_default c = (rw (sym c.name_range-range.ensures) (c.refusal_of.ensures _), refl)

pub set_name-requires-clause-sound_at : goal.set_name-requires-clause-sound_at
set_name-requires-clause-sound_at c = sound-at NamePart at_name_length refl refl _ c.requires.sound

pub set_name-requires-clause-p_len_bound : goal.set_name-requires-clause-p_len_bound
unfolding span_of
set_name-requires-clause-p_len_bound c = (counted-span SetName (length c.args.p.now) c.requires.p_value).1

pub returns : goal.returns
unfolding range_of effect_of
returns c = stores SetName NamePart at_name_length refl refl _ _ _ (sym c.name_range-range.ensures ∙ c.in-Fits.is) c.set_name.ensures
