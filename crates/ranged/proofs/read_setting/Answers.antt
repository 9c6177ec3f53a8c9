-- `read_setting`: the bytes of the setting that the number reads are put.
use Rattle.std.proofs.Common.{sym, arith}
use Rattle.record.proofs.InPlaceLaws.{sound-long}
use Rattle.record.proofs.SettingLaws.{setting-fits}
use Rattle.table.proofs.TouchedLaws.{reads-one}
use Rattle.ranged.proofs.Rows.{tells-setting}
use Rattle.ranged.proofs.read_setting.Goals as goal

pub put_setting-requires : goal.put_setting-requires
put_setting-requires c = (omega (arith, setting-fits c.setting_of.result, sound-long c.args.rec.now c.requires.sound), c.requires.data_most_in_bounds)

pub returns : goal.returns
returns c j e = rw (sym (reads-one _ _ c.setting_of.ensures j e)) (tells-setting _ _ _ _ c.requires.sound c.setting_of.result c.put_setting.ensures)
