-- Inner contract: a flag by its name.
use Rattle.std.specs.Prelude.{ℕ, Bool}
use Rattle.record.specs.declared.Flag.{Flag}
use Rattle.record.specs.declared.Flag.TheVariants.{Opened, Unlocked, Sending, Reading}
use Rattle.record.specs.Record.{Flags, with_opened, with_unlocked, with_sending, with_reading}

-- what its bit is worth in the byte of the flags
abbrev pub worth : Flag → ℕ
worth Opened = 1
worth Unlocked = 2
worth Sending = 4
worth Reading = 8

abbrev pub flag_of : Flags → Flag → Bool
flag_of f Opened = f.opened
flag_of f Unlocked = f.unlocked
flag_of f Sending = f.sending
flag_of f Reading = f.reading

abbrev pub with_flag : Flags → Flag → Bool → Flags
with_flag f Opened v = with_opened f v
with_flag f Unlocked v = with_unlocked f v
with_flag f Sending v = with_sending f v
with_flag f Reading v = with_reading f v
