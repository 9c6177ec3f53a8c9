-- Inner contract: how far a reading has come.
use Rattle.std.specs.Prelude.{ℕ, ◌+◌, ◌-◌, ◌*◌, ◌≤◌, ◌≡◌, List, ◌++◌, length, drop}
use Rattle.wire.specs.Numbers.{put}
use Rattle.wire.specs.Frames.{cut, placed_from}
use Rattle.wire.specs.Reader.{Entry, reader, entries_of, list_of}
use Rattle.call.specs.Read.{read_entries}
use Rattle.call.specs.declared.ReadDone.{ReadDone}

-- It stands at a place of the capture l; the entries up to there are written, from so many bytes of frames, and all that is left is the reading from there on.
pub record Reads (l before : List ℕ) (at entries framed : ℕ) (list : List ℕ) : Type 0 where
  pub es : List Entry
  pub many : length es ≡ entries
  pub within : at ≤ length l
  pub few : framed ≤ at
  pub fours : 4 * entries ≤ framed
  pub places : read_entries l ≡ es ++ entries_of (placed_from reader at 0 (drop at l))
  pub skips : (cut reader l).skipped ≡ at - framed + (cut reader (drop at l)).skipped
  pub waits : (cut reader l).waiting ≡ (cut reader (drop at l)).waiting
  pub writes : list ≡ put before 0 (list_of es)

-- the reading of a whole capture: it came to the end or to what waits
pub record ReadsAll (l before : List ℕ) (d : ReadDone) (list : List ℕ) : Type 0 where
  pub entries_are : d.entries ≡ length (read_entries l)
  pub skipped_is : d.skipped ≡ (cut reader l).skipped
  pub unread_is : d.unread ≡ length (cut reader l).waiting
  pub writes : list ≡ put before 0 (list_of (read_entries l))
  pub fits : (d.entries ≤ length l) × (d.skipped ≤ length l) × (d.unread ≤ length l)
