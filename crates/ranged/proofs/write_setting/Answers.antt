-- `write_setting`: in range the setting that the number sets is stored, out of range nothing is.
use Rattle.std.proofs.Common.{◌∙◌, sym, refl}
use Rattle.record.specs.Settings.{sheet_of}
use Rattle.record.proofs.InPlaceLaws.{sound-at}
use Rattle.record.proofs.SettingLaws.{setting-there, setting-stands}
use Rattle.command.specs.declared.Command.TheVariants.{Set}
use Rattle.command.specs.Tables.{range_of}
use Rattle.command.specs.Effects.{effect_of}
use Rattle.table.proofs.TouchedLaws.{sets-one}
use Rattle.ranged.proofs.Rows.{stores}
use Rattle.ranged.proofs.write_setting.Goals as goal

pub returns-in_default : goal.returns-in_default
unfolding range_of
returns-in_default c j e = rw (sym (sets-one _ _ c.setting_of-k.ensures j e)) (rw (sym c.setting_range-range.ensures) (c.refusal_of.ensures _), refl)

pub store-requires-clause-sound_at : goal.store-requires-clause-sound_at
store-requires-clause-sound_at c =
    let k = c.setting_of-k.result in
    sound-at (sheet_of k).part _ (setting-there k) (setting-stands k ∙ sym c.place_of.ensures) _ c.requires.sound

pub returns : goal.returns
unfolding range_of effect_of
returns c j e =
    let k = c.setting_of-k.result in
    rw (sym (sets-one _ _ c.setting_of-k.ensures j e)) (stores (Set k) (sheet_of k).part _ (setting-there k) (setting-stands k ∙ sym c.place_of.ensures) _ _ _ (sym c.setting_range-range.ensures ∙ c.in-Fits.is) c.store.ensures)
