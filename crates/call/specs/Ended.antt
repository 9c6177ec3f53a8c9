-- Inner contract: how the code ends a call, and the answer that C has of it.
use Rattle.std.specs.Prelude.{ℕ, ◌≡◌, List, Result, Ok, Err}
use Rattle.record.specs.Form.{fault_of, form_of}
use Rattle.record.specs.declared.Form.TheVariants.{Bad}
use Rattle.call.specs.declared.CallRefusal.{CallRefusal}
use Rattle.call.specs.declared.CallRefusal.TheVariants.{BadRecord}
use Rattle.call.specs.declared.Done.{Done}
use Rattle.call.specs.declared.ReadDone.{ReadDone}
use Rattle.call.specs.declared.Answer.{Answer}
use Rattle.call.specs.declared.ReadAnswer.{ReadAnswer}
use Rattle.call.specs.Outcome.{no_counts, counts}
use Rattle.call.specs.Read.{no_entries, read_counts}

-- a record is bad, and the refusal tells where
abbrev pub BadForm : List ℕ → CallRefusal → Type 0
BadForm s why = (form_of s ≡ Bad) × (why ≡ BadRecord (fault_of s))

-- the counts of a call that is done, or what refuses it
abbrev pub answer_of : Result Done CallRefusal → Answer
answer_of (Ok d) = counts d.written d.skipped
answer_of (Err why) = no_counts why

-- the same of the reader
abbrev pub read_answer_of : Result ReadDone CallRefusal → ReadAnswer
read_answer_of (Ok d) = read_counts d.entries d.skipped d.unread
read_answer_of (Err why) = no_entries why
