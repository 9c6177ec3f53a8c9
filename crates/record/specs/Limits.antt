-- The range of each setting, told once: the record's check and the setting commands both go by it.
use Rattle.std.specs.Prelude.{ℕ, cond, ◌&&◌, ◌||◌, List, [], ◌∷◌, ltb, leb, ℤ, pos, negsuc}
use Rattle.std.specs.Int.Signed.{lt_z}
use Rattle.wire.specs.Numbers.{signed8, signed16}
use Rattle.wire.specs.Ranges.{within, also}
use Rattle.wire.specs.declared.Range.{Range}
use Rattle.wire.specs.declared.Range.TheVariants.{Fits, Big, Small}
use Rattle.record.specs.declared.Limits.{Limits}
use Rattle.record.specs.declared.Limits.TheVariants.{Upto, OfPower, OfInterval, OfFilter}

-- Classic power: "2 signed, -20..12"; wrong is "Reading power low byte first, or unsigned."
abbrev pub power_range : ℕ → Range
power_range w = within (negsuc 19) (pos 12) (signed16 w)

-- a byte from 0 to a number; "One-byte parameters are signed."
abbrev pub upto : ℕ → ℕ → Range
upto most b = within (pos 0) (pos most) (signed8 b)

-- the range of a byte where a number gives it; the other kinds have ranges of their own, below
abbrev pub byte_range : Limits → ℕ → Range
byte_range (Upto most) b = upto most b
byte_range OfPower b = Fits
byte_range OfInterval b = Fits
byte_range OfFilter b = Fits

-- LE power step: "1, 0..5"
abbrev pub step_limits : Limits
step_limits = Upto 5

abbrev pub step_range : ℕ → Range
step_range b = byte_range step_limits b

-- mode: "1, 0..1"
abbrev pub mode_limits : Limits
mode_limits = Upto 1

abbrev pub mode_range : ℕ → Range
mode_range b = byte_range mode_limits b

-- on/off state: "1, 0..2"
abbrev pub on_off_limits : Limits
on_off_limits = Upto 2

abbrev pub on_off_range : ℕ → Range
on_off_range b = byte_range on_off_limits b

-- input type: "type 0..1"
abbrev pub input_range : ℕ → Range
input_range b = within (pos 0) (pos 1) (signed8 b)

-- interval: "0 or 4..59"; "-128..-1 and 1..3 are 55"
abbrev pub interval_of : ℤ → Range
interval_of v = cond (lt_z (pos 59) v) Big (cond (lt_z v (pos 0) || (lt_z (pos 0) v && lt_z v (pos 4))) Small Fits)

-- interval in the record and in F2: "One-byte parameters are signed."
abbrev pub interval_range : ℕ → Range
interval_range b = interval_of (signed8 b)

-- filter word: "any bit above bit 5 is 54"; the bound is `filters` of the layout, 64 in `plan1`
abbrev pub filter_range : ℕ → ℕ → Range
filter_range bound w = cond (ltb w bound) Fits Big

-- name: "a byte above 7F is 54"
abbrev pub name_byte : ℕ → Range
name_byte b = cond (leb b 0x7F) Fits Big

-- "a byte above 7F is 54", "parameters from the left": the whole name
unfoldable pub name_range : List ℕ → Range
name_range [] = Fits
name_range (b ∷ name) = also (name_byte b) (name_range name)
