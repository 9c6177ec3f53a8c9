-- Inner contract: what the hunting code has done so far, for any set of heads; with what is left it gives the whole.
use Rattle.std.specs.Prelude.{ℕ, ◌+◌, ◌-◌, ◌≤◌, ◌≡◌, ◌⊎◌, List, ◌++◌, length, take, drop}
use Rattle.wire.specs.Sizes.{frame_most}
use Rattle.wire.specs.Numbers.{put}
use Rattle.wire.specs.Frames.{Heads, look, Wait}
use Rattle.wire.specs.Replies.{Reply, replies_bytes}
use Rattle.wire.specs.Run.{Along}
use Rattle.record.specs.Record.{Record, with_pending}
use Rattle.record.specs.Layout.{bytes_of}
use Rattle.record.specs.InPlace.{Holds, Turns}
use Rattle.command.specs.Step.{on_piece}
use Rattle.command.specs.Hunt.{hunt_of, record_after, room_for}
use Rattle.hunt.specs.declared.Progress.{Progress}
use Rattle.hunt.specs.declared.Counts.{Counts}

-- the board b on its way through the stream, and the replies written from a place of the output on
pub record Sofar (heads : Heads) (r : Record) (l before : List ℕ) (start : ℕ) (b : Record) (at skipped wrote : ℕ) (out : List ℕ) : Type 0 where
  pub said : List Reply
  pub along : Along heads on_piece r l b at skipped said
  pub room : length (replies_bytes said) ≤ room_for at
  pub wrote_is : wrote ≡ start + length (replies_bytes said)
  pub bytes : out ≡ put before start (replies_bytes said)

-- and the record's bytes those of the board
pub record Going (heads : Heads) (r : Record) (l before : List ℕ) (start at skipped wrote : ℕ) (kept out : List ℕ) : Type 0 where
  pub board : Record
  pub held : Holds board kept
  pub sofar : Sofar heads r l before start board at skipped wrote out

-- what the hunt through a stream leaves: it came up to a place, or to a candidate that waits
pub record Hunts (heads : Heads) (r : Record) (l before : List ℕ) (until start : ℕ) (p : Progress) (kept out : List ℕ) : Type 0 where
  pub going : Going heads r l before start p.at p.counts.skipped p.counts.written kept out
  pub stops : (until ≤ p.at) ⊎ (look heads (drop p.at l) ≡ Wait)

-- what the hunt through all of a stream leaves, with what waits as the pending bytes
pub record Rests (heads : Heads) (r : Record) (l before : List ℕ) (start : ℕ) (p : Progress) (kept out : List ℕ) : Type 0 where
  pub mid : List ℕ
  pub hunts : Hunts heads r l before (length l) start p mid out
  pub turns : Turns mid kept (λ z. with_pending z (drop p.at l))

-- the first n bytes of a buffer are the pending bytes and as much of the input as a candidate that starts in them can reach
abbrev pub Joins : List ℕ → List ℕ → ℕ → List ℕ → Type 0
Joins pending input n head = (n ≡ length pending + (length input - (length input - frame_most))) × (take n head ≡ pending ++ take (length input - (length input - frame_most)) input)

-- what a bytes call that passed its checks leaves
pub record Serves (r : Record) (input before : List ℕ) (t : Counts) (kept out : List ℕ) : Type 0 where
  pub record_is : kept ≡ bytes_of (record_after (hunt_of r input))
  pub written_is : t.written ≡ length (replies_bytes (hunt_of r input).said)
  pub skipped_is : t.skipped ≡ (hunt_of r input).skipped
  pub bytes : out ≡ put before 0 (replies_bytes (hunt_of r input).said)
