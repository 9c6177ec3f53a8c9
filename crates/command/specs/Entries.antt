-- One table for all numbers: 512 entries of one byte, each what the rows say of one number under one kind of head.
use Rattle.std.specs.Prelude.{ℕ, zero, suc, ◌+◌, ◌-◌, ◌/◌, ◌%◌, Bool, cond, not, ◌||◌, List, [], ◌∷◌, ltb, eqb}
use Rattle.record.specs.Layout.{bit_of}
use Rattle.command.specs.declared.Listed.{Listed}
use Rattle.command.specs.declared.Listed.TheVariants.{Built, NotBuilt, Unlisted}
use Rattle.command.specs.declared.Numbered.{Numbered}
use Rattle.command.specs.declared.Numbered.TheVariants.{AsCommand, AsNotBuilt, AsUnknown}
use Rattle.command.specs.declared.Need.{Need}
use Rattle.command.specs.declared.Need.TheVariants.{Nothing, Opened, Closed, Unlocked, Code}
use Rattle.command.specs.Rows.{Span, exactly}
use Rattle.command.specs.Tables.{listed_of, span_of, need_of}

-- "each giving unknown, not built, or the access needed with the least and most parameters"
pub data Entry : Type 0 where
  SaysUnknown : Entry
  SaysNotBuilt : Entry
  Asks : Need → Span → Entry

-- what the rows say of a number under a head
abbrev pub said_by : Listed → Entry
said_by Unlisted = SaysUnknown
said_by NotBuilt = SaysNotBuilt
said_by (Built c) = Asks (need_of c) (span_of c)

abbrev pub rows_say : ℕ → ℕ → Entry
rows_say head number = said_by (listed_of head number)

-- 40, 41: unknown or not built, or else a command
abbrev pub numbered_by : Entry → Numbered
numbered_by SaysUnknown = AsUnknown
numbered_by SaysNotBuilt = AsNotBuilt
numbered_by (Asks need span) = AsCommand

-- ---- an entry as a byte

-- bits 0 to 2: k for exactly k parameters, 5 + k for k to 15
abbrev pub span_bits : Span → ℕ
span_bits s = cond (eqb s.least s.most) s.least (5 + s.least)

-- bit 3: taken while configuration mode is open; bit 4: while it is closed; bits 5 and 6, beside bit 4 alone: asks also for an unlocked board, for the code
abbrev pub need_bits : Need → ℕ
need_bits Nothing = 0x18
need_bits Opened = 0x08
need_bits Closed = 0x10
need_bits Unlocked = 0x30
need_bits Code = 0x50

-- what is taken in neither mode is no command; bit 7 is free
abbrev pub packed : Entry → ℕ
packed SaysUnknown = 0x00
packed SaysNotBuilt = 0x01
packed (Asks need span) = need_bits need + span_bits span

-- ---- what a byte says

-- the least and most parameters
abbrev pub span_in : ℕ → Span
span_in e = cond (ltb (e % 8) 5) (exactly (e % 8)) (record { least = e % 8 - 5; most = 15 })

-- the access needed
abbrev pub need_in : ℕ → Need
need_in e = cond (bit_of e 0x40) Code (cond (bit_of e 0x20) Unlocked (cond (bit_of e 0x10) (cond (bit_of e 0x08) Nothing Closed) Opened))

-- taken in one mode, or in both
abbrev pub is_built : ℕ → Bool
is_built e = not (eqb (e / 8 % 4) 0)

-- beside the span a command's entry has just the bits of what it needs
abbrev pub is_tidy : ℕ → Bool
is_tidy e = not (is_built e) || eqb (e / 8) (need_bits (need_in e) / 8)

unfoldable pub unpacked : ℕ → Entry
unpacked e = cond (is_built e) (Asks (need_in e) (span_in e)) (cond (eqb e 0) SaysUnknown SaysNotBuilt)

-- ---- the table

-- "256 for each kind of head": those of 9n, then those of An
abbrev pub kind_size : ℕ
kind_size = 256

abbrev pub head_at : ℕ → ℕ
head_at i = cond (ltb i kind_size) 0x90 0xA0

abbrev pub place_of : ℕ → ℕ → ℕ
place_of head number = cond (eqb (head / 16) 0xA) (kind_size + number) number

-- so many entries from a place on
unfoldable pub entries_from : ℕ → ℕ → List ℕ
unfolding listed_of span_of need_of
entries_from i zero = []
entries_from i (suc n) = packed (rows_say (head_at i) (i % kind_size)) ∷ entries_from (suc i) n

-- "one constant table of 512 entries"
abbrev pub table_size : ℕ
table_size = 512

unfoldable pub entries : List ℕ
unfolding entries_from
entries = entries_from 0 table_size
