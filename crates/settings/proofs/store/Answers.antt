-- `store`: the bytes of a number are the setting.
use native.Mathlib.Omega.{arith}
use Rattle.record.proofs.SettingLaws.{widths}
use Rattle.settings.proofs.Turn.{setting-there, turn-setting}
use Rattle.settings.proofs.store.Goals as goal

pub put_number-requires : goal.put_number-requires
put_number-requires c =
    let a = c.args in
    let n = c.sheet_of.ensures.width in
    record { narrow = rw n (widths a.k); n_in_bounds = (omega (arith, setting-there a.rec.now a.at a.k c.requires.sound_at, n), omega (arith, c.requires.p_len, n)) }

pub returns : goal.returns
returns c =
    let a = c.args in
    rw (c.put_number.ensures, c.sheet_of.ensures.width) (turn-setting a.rec.now a.at a.k a.p.now (λ i. (c.type_inv.p i).fits) (setting-there a.rec.now a.at a.k c.requires.sound_at))
