-- `put_setting`: the bytes of a setting are put.
use native.Mathlib.Omega.{arith}
use Rattle.wire.proofs.PutLaws.{narrow}
use Rattle.record.specs.Settings.{setting_place, setting_width}
use Rattle.record.proofs.SettingLaws.{widths}
use Rattle.data.proofs.Data.{answers_number}
use Rattle.data.proofs.put_setting.Goals as goal

pub put_number-requires : goal.put_number-requires
put_number-requires c =
    let n = c.sheet_of-sheet.ensures.width in
    let w = widths c.args.k in
    record { narrow = rw n w; n_in_bounds = (omega (arith, n, narrow (setting_width c.args.k) w, c.requires), omega (arith, n, c.sheet_of-sheet.ensures.place, c.requires)) }

pub returns : goal.returns
returns c =
    let a = c.args in
    let n = c.sheet_of-sheet.ensures.width in
    let e = c.put_number.ensures in
    rw n (answers_number a.body.now c.requires.1 a.rec.now (setting_place a.k) (setting_width a.k) c.put_number.new.buffer (narrow (setting_width a.k) (widths a.k)).1 (rw (n, c.sheet_of-sheet.ensures.place) at e))
