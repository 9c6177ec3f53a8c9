-- The reader: from a capture and a list to its outcome, refusals included. It has no record.
use Rattle.std.specs.Prelude.{ℕ, ◌/◌, ◌≡◌, List, [], ◌∷◌, length, ltb}
use Rattle.wire.specs.Sizes.{capture_most}
use Rattle.wire.specs.Numbers.{put}
use Rattle.wire.specs.Frames.{cut_from, cut, placed_from, placed}
use Rattle.wire.specs.Reader.{Entry, reader, entries_of, list_of}
use Rattle.call.specs.declared.CallRefusal.{CallRefusal}
use Rattle.call.specs.declared.CallRefusal.TheVariants.{BadLength, NoRoom}
use Rattle.call.specs.declared.ReadAnswer.{ReadAnswer}
use Rattle.call.specs.Outcome.{result_of, Cause, cause, first_of}

-- the answer, and the list of numbers
pub record ReadOutcome : Type 0 where
  pub answer : ReadAnswer
  pub list : List ℕ

-- "both with zero counts and the list untouched"
abbrev pub no_entries : CallRefusal → ReadAnswer
no_entries why = record { result = result_of why; entries = 0; skipped = 0; unread = 0 }

abbrev pub read_refused : List ℕ → CallRefusal → ReadOutcome
read_refused list why = record { answer = no_entries why; list = list }

-- "capture over 4,096 bytes gives 2, then a list of fewer entries than the whole part of its bytes / 4 gives 3"
abbrev pub read_causes : List ℕ → List ℕ → List Cause
read_causes capture list =
    cause (ltb capture_most (length capture)) BadLength
    ∷ cause (ltb (length list / 4) (length capture / 4)) NoRoom
    ∷ []

-- "0 done" with its counts
abbrev pub read_counts : ℕ → ℕ → ℕ → ReadAnswer
read_counts entries skipped unread = record { result = 0; entries = entries; skipped = skipped; unread = unread }

-- the entries of a capture, in its order
abbrev pub read_entries : List ℕ → List Entry
read_entries capture = entries_of (placed reader capture)

-- "Bytes that are no frame are skipped one at a time as in the board's hunt, and counted."; "left unread and its length returned"; numbers behind the last entry stay
abbrev pub after_read : List ℕ → List ℕ → ReadOutcome
after_read capture list = record {
  answer = read_counts (length (read_entries capture)) (cut reader capture).skipped (length (cut reader capture).waiting);
  list = put list 0 (list_of (read_entries capture));
}

-- "from a lent stream, replies of both kinds .. and measuring frames .., each with its data"
unfoldable pub read_call : List ℕ → List ℕ → ReadOutcome
unfolding reader cut_from placed_from entries_of list_of put
read_call capture list = first_of (read_causes capture list) (read_refused list) (after_read capture list)

-- the call left exactly its outcome
pub record ReadLeaves (z : ReadOutcome) (answer : ReadAnswer) (list : List ℕ) : Type 0 where
  pub answered : answer ≡ z.answer
  pub puts : list ≡ z.list

abbrev pub ReadAllows : ReadOutcome → ReadOutcome → Type 0
ReadAllows z x = ReadLeaves z x.answer x.list
