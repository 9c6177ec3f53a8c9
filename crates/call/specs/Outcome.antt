-- What a call over a record leaves: its answer, the record, the output buffer. Every such call is a total function to such an outcome.
use Rattle.std.specs.Prelude.{ℕ, ◌≡◌, Bool, true, false, cond, List, [], ◌∷◌, length}
use Rattle.wire.specs.Numbers.{put}
use Rattle.record.specs.Record.{Record}
use Rattle.record.specs.Layout.{bytes_of}
use Rattle.record.specs.declared.Form.{Form}
use Rattle.record.specs.declared.Form.TheVariants.{Good, Bad}
use Rattle.call.specs.declared.CallRefusal.{CallRefusal}
use Rattle.call.specs.declared.CallRefusal.TheVariants.{BadRecord, BadLength, NoRoom, NotFinite}
use Rattle.call.specs.declared.Answer.{Answer}

-- the column "no." of the table of call results, for a refusal; 0 is "done"
abbrev pub result_of : CallRefusal → ℕ
result_of (BadRecord place) = 1
result_of BadLength = 2
result_of NoRoom = 3
result_of NotFinite = 4

-- "the place is one more number beside the counts, 0 in all other answers"
abbrev pub faulty_place : CallRefusal → ℕ
faulty_place (BadRecord place) = place
faulty_place BadLength = 0
faulty_place NoRoom = 0
faulty_place NotFinite = 0

-- Letters, here and in all that follows: s the record's bytes and o the output buffer as a call finds them, z an outcome, r a record value, f a frame, l a stream; p is parameters in `command`, a layout in `record`.

-- the answer, the record's bytes, the output buffer ([] for a call without one)
pub record Outcome : Type 0 where
  pub answer : Answer
  pub kept : List ℕ
  pub output : List ℕ

-- a refusal with zero counts
abbrev pub no_counts : CallRefusal → Answer
no_counts why = record { result = result_of why; written = 0; skipped = 0; place = faulty_place why }

-- "A refusal returns its number and zero counts, and writes to no buffer."; the input is lent for reading only
abbrev pub refused : CallRefusal → List ℕ → List ℕ → Outcome
refused why s o = record { answer = no_counts why; kept = s; output = o }

-- "0 done; counts are bytes written and bytes skipped"
abbrev pub counts : ℕ → ℕ → Answer
counts written skipped = record { result = 0; written = written; skipped = skipped; place = 0 }

-- "output behind the written bytes is unchanged"
abbrev pub done : Record → List ℕ → ℕ → List ℕ → Outcome
done r out skipped o = record { answer = counts (length out) skipped; kept = bytes_of r; output = put o 0 out }

-- ---- the causes of a refusal

-- whether a cause applies, and how the call then ends
pub record Cause : Type 0 where
  pub applies : Bool
  pub why : CallRefusal

abbrev pub cause : Bool → CallRefusal → Cause
cause applies why = record { applies = applies; why = why }

-- "1: record not 123 bytes or not well formed": what the check answers of such a record
abbrev pub bad : Form → Bool
bad Good = false
bad Bad = true

-- "In this order": the first cause that applies decides; if none does, z is left. A call may leave any kind of thing.
abbrev pub first_of : {Z : Type 0} → List Cause → (CallRefusal → Z) → Z → Z
first_of [] refuse z = z
first_of (c ∷ causes) refuse z = cond c.applies (refuse c.why) (first_of causes refuse z)

abbrev pub in_order : List Cause → List ℕ → List ℕ → Outcome → Outcome
in_order causes s o z = first_of causes (λ why. refused why s o) z

-- ---- "the contract determines results, record and output buffer completely, refusals included": the call left exactly its outcome

pub record Leaves (z : Outcome) (answer : Answer) (kept output : List ℕ) : Type 0 where
  pub answered : answer ≡ z.answer
  pub keeps : kept ≡ z.kept
  pub puts : output ≡ z.output

-- a contract that says `Leaves z` allows the outcome x
abbrev pub Allows : Outcome → Outcome → Type 0
Allows z x = Leaves z x.answer x.kept x.output
