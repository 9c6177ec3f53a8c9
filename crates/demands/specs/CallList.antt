-- A call over a record as a value: what it is lent, why it refuses, what it leaves, and when it tells nothing of a code. Every demand is stated over the list of them.
use Rattle.std.specs.Prelude.{ℕ, ◌+◌, ◌*◌, ◌/◌, ◌<◌, ◌≡◌, ◌≢◌, Bool, true, false, List, [], ◌∷◌, ◌++◌, length}
use Rattle.wire.specs.Numbers.{Bytes, word_at}
use Rattle.wire.specs.Frames.{cut}
use Rattle.wire.specs.Serial.{serial}
use Rattle.peak.specs.Pairs.{finite}
use Rattle.record.specs.Layout.{record_of}
use Rattle.record.specs.Form.{well_formed, fault_of}
use Rattle.call.specs.declared.CallRefusal.TheVariants.{BadRecord, BadLength, NoRoom, NotFinite}
use Rattle.call.specs.Outcome.{Outcome}
use Rattle.call.specs.Reasons.{Reason, reason}
use Rattle.call.specs.Calls.{factory_call, power_on_call, bytes_call, samples_call}
use Rattle.demands.specs.Premise.{QuietRun}

pub record Call : Type 1 where
  -- what it is lent beside the record, and the output buffer among it ([] for a call without one)
  pub Lent : Type 0
  pub output : Lent → List ℕ
  -- its input is a list of bytes
  pub OfBytes : Lent → Type 0
  -- what may be wrong, in the order of the table, and what is left
  pub reasons : Lent → List ℕ → List Reason
  pub outcome : Lent → List ℕ → Outcome
  -- on the boards s and t no compared unlock command carries either present code
  pub Quiet : Lent → List ℕ → List ℕ → Type 0
  -- it gives new tries
  pub resets : Bool

-- an input or a sample, and an output buffer
pub record Buffers : Type 0 where
  pub input : List ℕ
  pub output : List ℕ

-- ---- what may be wrong

-- 1: the record is not 123 bytes long, or a field is out of its range
abbrev pub Malformed : List ℕ → Type 0
Malformed s = well_formed s ≡ false

-- with the place of its first fault
abbrev pub malformed_at : List ℕ → Reason
malformed_at s = reason (Malformed s) (BadRecord (fault_of s))

-- 2: the input is over 4,096 bytes
abbrev pub TooLong : List ℕ → Type 0
TooLong input = 4096 < length input

-- 3: the output is shorter than 19 times the whole part of (pending + input) / 4
abbrev pub Cramped : List ℕ → List ℕ → List ℕ → Type 0
Cramped s input o = length o < 19 * ((length (record_of s).pending + length input) / 4)

-- 4: one of the six readings is infinite or no number
abbrev pub Stray : List ℕ → Type 0
Stray sample = (k : ℕ) × (k < 6) × (finite (word_at sample (4 * k)) ≡ false)

-- ---- the four calls

-- a call over the record alone
abbrev pub alone : (List ℕ → List Reason) → (List ℕ → Outcome) → Bool → Call
alone reasons outcome resets = record {
  Lent = Unit {0};
  output = λ l. [];
  OfBytes = λ l. Unit {0};
  reasons = λ l s. reasons s;
  outcome = λ l s. outcome s;
  Quiet = λ l s t. Unit {0};
  resets = resets;
}

abbrev pub factory_entry : Call
factory_entry = alone (λ s. reason (length s ≢ 123) (BadRecord 0) ∷ []) factory_call true

abbrev pub power_on_entry : Call
power_on_entry = alone (λ s. malformed_at s ∷ []) power_on_call true

-- a call over an input and an output buffer, which gives no new tries
abbrev pub buffered : (List ℕ → List ℕ → List ℕ → List Reason) → (List ℕ → List ℕ → List ℕ → Outcome) → (Buffers → List ℕ → List ℕ → Type 0) → Call
buffered reasons outcome quiet = record {
  Lent = Buffers;
  output = λ l. l.output;
  OfBytes = λ l. Bytes l.input;
  reasons = λ l s. reasons s l.input l.output;
  outcome = λ l s. outcome s l.input l.output;
  Quiet = quiet;
  resets = false;
}

abbrev pub bytes_reasons : List ℕ → List ℕ → List ℕ → List Reason
bytes_reasons s input o = malformed_at s ∷ reason (TooLong input) BadLength ∷ reason (Cramped s input o) NoRoom ∷ []

-- a call that is refused compares nothing
abbrev pub bytes_entry : Call
bytes_entry =
    buffered bytes_reasons bytes_call
    (λ l s t. (bytes_call s l.input l.output).answer.result ≡ 0 → QuietRun (record_of s) (record_of t) (cut serial ((record_of s).pending ++ l.input)).pieces)

abbrev pub samples_reasons : List ℕ → List ℕ → List ℕ → List Reason
samples_reasons s sample o = malformed_at s ∷ reason (length sample ≢ 24) BadLength ∷ reason (length o < 28) NoRoom ∷ reason (Stray sample) NotFinite ∷ []

abbrev pub samples_entry : Call
samples_entry = buffered samples_reasons samples_call (λ l s t. Unit {0})

-- ---- their list: a new call over a record is one more name here, and its laws

pub data Name : Type 0 where
  Factory : Name
  PowerOn : Name
  BytesIn : Name
  SamplesIn : Name

abbrev pub call_of : Name → Call
call_of Factory = factory_entry
call_of PowerOn = power_on_entry
call_of BytesIn = bytes_entry
call_of SamplesIn = samples_entry

-- one call made, with what it is lent
pub record Made : Type 0 where
  pub name : Name
  pub lent : (call_of name).Lent

abbrev pub outcome_of : Made → List ℕ → Outcome
outcome_of m s = (call_of m.name).outcome m.lent s
