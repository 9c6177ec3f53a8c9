-- Demand 2: the table that decides about a number says what the rows of the page say.
use Rattle.std.specs.Prelude.{ℕ, ◌+◌, ◌/◌, ◌%◌, ◌<◌, ◌≡◌, cond, length, get_or, ltb, eqb}
use Rattle.command.specs.Tables.{listed_of}
use Rattle.command.specs.Entries.{said_by, unpacked, entries}

pub record OneTable : Type 0 where
  -- "one constant table of 512 entries"
  pub size : length entries ≡ 512
  -- "256 for each kind of head": entry i says what the rows say of the number i % 256, under 9n in the first half and under An in the second.
  pub says : (i : ℕ) → i < 512 → unpacked (get_or entries i 0) ≡ said_by (listed_of (cond (ltb i 256) 0x90 0xA0) (i % 256))
  -- So the entry of a number under a head is at that number, for An 256 further on.
  pub found : (head number : ℕ) → number < 256 → unpacked (get_or entries (cond (eqb (head / 16) 0xA) (256 + number) number) 0) ≡ said_by (listed_of head number)
