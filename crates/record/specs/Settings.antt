-- The settings that are one number each: the part that holds it, its range, how it is taken from parameters and how it is shown.
use Rattle.std.specs.Prelude.{ℕ, List, [], ◌∷◌, get_or}
use Rattle.wire.specs.Numbers.{half_at, word_at, bytes2, bytes4}
use Rattle.wire.specs.declared.Range.{Range}
use Rattle.record.specs.declared.Setting.{Setting}
use Rattle.record.specs.declared.Setting.TheVariants.{Power, Step, Mode, OnOff, Interval, Filter}
use Rattle.record.specs.declared.Limits.{Limits}
use Rattle.record.specs.declared.Limits.TheVariants.{Upto, OfPower, OfInterval, OfFilter}
use Rattle.record.specs.Record.{Settings, with_power, with_step, with_mode, with_on_off, with_interval, with_filter}
use Rattle.record.specs.Limits.{power_range, upto, step_limits, mode_limits, on_off_limits, interval_range, filter_range}
use Rattle.record.specs.Layout.{Part, PowerHalf, StepByte, ModeByte, OnOffByte, IntervalByte, FilterWord, Plan, current, width, at_power, at_step, at_mode, at_on_off, at_interval, at_filter}

-- ---- kinds of range

-- the range of parameters; that of a filter word depends on the layout
abbrev pub range_by : Limits → Plan → List ℕ → Range
range_by (Upto most) l p = upto most (get_or p 0 0)
range_by OfPower l p = power_range (half_at p 0)
range_by OfInterval l p = interval_range (get_or p 0 0)
range_by OfFilter l p = filter_range l.filters (word_at p 0)

-- how many parameters it looks at
abbrev pub looks_at : Limits → ℕ
looks_at (Upto most) = 1
looks_at OfPower = 2
looks_at OfInterval = 1
looks_at OfFilter = 4

-- ---- the sheets

pub record Sheet : Type 0 where
  pub part : Part
  pub limits : Limits
  pub stored : Settings → List ℕ → Settings
  pub shown : Settings → List ℕ

-- a setting of one byte
abbrev pub one_byte : Part → Limits → (Settings → ℕ → Settings) → (Settings → ℕ) → Sheet
one_byte part limits put get = record { part = part; limits = limits; stored = λ g p. put g (get_or p 0 0); shown = λ g. get g ∷ [] }

abbrev pub sheet_of : Setting → Sheet
-- "Classic power (2 bytes)"
sheet_of Power = record { part = PowerHalf; limits = OfPower; stored = λ g p. with_power g (half_at p 0); shown = λ g. bytes2 g.power }
-- "LE power step"
sheet_of Step = one_byte StepByte step_limits with_step (λ g. g.step)
-- "mode (1 Classic)"
sheet_of Mode = one_byte ModeByte mode_limits with_mode (λ g. g.mode)
-- "on/off state"
sheet_of OnOff = one_byte OnOffByte on_off_limits with_on_off (λ g. g.on_off)
-- "interval, one byte (*house*; 003 contradicts itself)"
sheet_of Interval = one_byte IntervalByte OfInterval with_interval (λ g. g.interval)
-- "filter word"
sheet_of Filter = record { part = FilterWord; limits = OfFilter; stored = λ g p. with_filter g (word_at p 0); shown = λ g. bytes4 g.filter }

abbrev pub settings : List Setting
settings = Power ∷ Step ∷ Mode ∷ OnOff ∷ Interval ∷ Filter ∷ []

-- where each stands in the current layout, and in how many bytes
abbrev pub setting_place : Setting → ℕ
setting_place Power = at_power
setting_place Step = at_step
setting_place Mode = at_mode
setting_place OnOff = at_on_off
setting_place Interval = at_interval
setting_place Filter = at_filter

abbrev pub setting_width : Setting → ℕ
setting_width k = width current (sheet_of k).part
