-- Inner contract: what carrying out one command leaves in the record's bytes and in the output.
use Rattle.std.specs.Prelude.{ℕ, ◌+◌, ◌≤◌, ◌<◌, ◌≡◌, true, List, length, get_or, Result, Ok, Err}
use Rattle.wire.specs.Sizes.{frame_most}
use Rattle.wire.specs.Numbers.{put}
use Rattle.wire.specs.Replies.{reply_bytes}
use Rattle.record.specs.Record.{Record}
use Rattle.record.specs.Layout.{at_tries}
use Rattle.record.specs.InPlace.{Holds}
use Rattle.command.specs.Entries.{is_tidy, rows_say, unpacked}
use Rattle.command.specs.Judge.{status_of}
use Rattle.command.specs.Step.{step_by, step_of}
use Rattle.command.specs.declared.Refusal.{Refusal}
use Rattle.command.specs.declared.Refusal.TheVariants.{BadCode}
use Rattle.data.specs.PutsData.{PutsData}

-- where a refusal counts a try, one is left to be counted
abbrev pub Countable : Refusal → List ℕ → Type 0
Countable why s = why ≡ BadCode → get_or s at_tries 0 < 3

-- the entry is that of the number under some head
abbrev pub Entered : ℕ → ℕ → Type 0
Entered entry number = (is_tidy entry ≡ true) × ((head : ℕ) × (unpacked entry ≡ rows_say head number))

-- status and number of data bytes of an answer
abbrev pub status_in : Result ℕ Refusal → ℕ
status_in (Ok n) = 0x00
status_in (Err why) = status_of why

abbrev pub count_in : Result ℕ Refusal → ℕ
count_in (Ok n) = n
count_in (Err why) = 0

-- a number under a head judged and carried out: the record that it leaves, and its data where the reply has them
pub record Acts (r : Record) (head number : ℕ) (p before : List ℕ) (a : Result ℕ Refusal) (kept after : List ℕ) : Type 0 where
  pub held : Holds (step_by r head number p).after kept
  pub status : (step_by r head number p).reply.status ≡ status_in a
  pub told : PutsData before (step_by r head number p).reply.body (count_in a) after

-- under whatever head has the entry
abbrev pub ActsBy : ℕ → ℕ → Record → List ℕ → List ℕ → Result ℕ Refusal → List ℕ → List ℕ → Type 0
ActsBy entry number r p before a kept after = (head : ℕ) → unpacked entry ≡ rows_say head number → Acts r head number p before a kept after

-- a whole frame carried out and answered
pub record Carries (r : Record) (f before : List ℕ) (at end : ℕ) (kept after : List ℕ) : Type 0 where
  pub held : Holds (step_of r f).after kept
  pub ends : end ≡ at + length (reply_bytes (step_of r f).reply)
  pub small : end ≤ at + frame_most
  pub bytes : after ≡ put before at (reply_bytes (step_of r f).reply)
