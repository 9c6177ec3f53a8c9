-- Demand 3: two boards whose records differ in nothing but perhaps the unlock code cannot be told apart by one who does not send either code.
use Rattle.std.specs.Prelude.{ℕ, ◌≡◌, ◌≢◌, true, false, List, [], ◌∷◌, get_or, take, replicate}
use Rattle.wire.specs.Numbers.{Bytes}
use Rattle.record.specs.Record.{with_tries, with_code}
use Rattle.record.specs.Layout.{at_tries, bytes_of, record_of}
use Rattle.record.specs.Births.{factory}
use Rattle.command.specs.Compare.{compares}
use Rattle.call.specs.Calls.{bytes_call, samples_call}
use Rattle.demands.specs.Premise.{SameButCode, Alike}
use Rattle.demands.specs.CallList.{BytesIn, SamplesIn, call_of, Made, outcome_of}
use Rattle.demands.specs.Examples.{right_code, denied}

-- ---- calls made one after the other

-- their inputs are lists of bytes
abbrev pub AllOfBytes : List Made → Type 0
AllOfBytes [] = Unit {0}
AllOfBytes (m ∷ calls) = (call_of m.name).OfBytes m.lent × AllOfBytes calls

-- no compared unlock command carries either present code
abbrev pub AllQuiet : List ℕ → List ℕ → List Made → Type 0
AllQuiet s t [] = Unit {0}
AllQuiet s t (m ∷ calls) = (call_of m.name).Quiet m.lent s t × AllQuiet (outcome_of m s).kept (outcome_of m t).kept calls

-- the same answers and output bytes, and records that differ in nothing but perhaps the code, after every call
abbrev pub AllAlike : List ℕ → List ℕ → List Made → Type 0
AllAlike s t [] = Unit {0}
AllAlike s t (m ∷ calls) = Alike (outcome_of m s) (outcome_of m t) × AllAlike (outcome_of m s).kept (outcome_of m t).kept calls

-- One call in which no compared unlock command carries either present code tells nothing,
abbrev pub OneCall : Type 0
OneCall = (m : Made) (s t : List ℕ) → Bytes s → Bytes t → SameButCode s t → (call_of m.name).Quiet m.lent s t → Alike (outcome_of m s) (outcome_of m t)

-- and so does any list of calls of all kinds.
abbrev pub NothingTold : Type 0
NothingTold = (calls : List Made) (s t : List ℕ) → Bytes s → Bytes t → AllOfBytes calls → SameButCode s t → AllQuiet s t calls → AllAlike s t calls

-- ---- three wrong tries used

-- neither power-on nor factory
abbrev pub NoReset : List Made → Type 0
NoReset [] = Unit {0}
NoReset (m ∷ calls) = ((call_of m.name).resets ≡ false) × NoReset calls

-- With three wrong tries used this holds whatever codes are sent, until power-on or factory.
abbrev pub NothingToldUsedUp : Type 0
NothingToldUsedUp = (calls : List Made) (s t : List ℕ) → Bytes s → Bytes t → AllOfBytes calls → NoReset calls → SameButCode s t → get_or s at_tries 0 ≡ 3 → AllAlike s t calls

-- ---- the premise can be met, and is needed

-- a factory board, one with another code, an unlock command with a third, and room for a reply
abbrev pub ours : List ℕ
ours = bytes_of factory

abbrev pub theirs : List ℕ
theirs = bytes_of (with_code factory 0x01020304)

abbrev pub third_code : List ℕ
third_code = 0xAA ∷ 0x94 ∷ 0x19 ∷ 0x11 ∷ 0x22 ∷ 0x33 ∷ 0x44 ∷ 0x85 ∷ []

abbrev pub enough : List ℕ
enough = replicate 38 0x00

-- a reading of six zeros, and room for its measuring frame
abbrev pub six_zeros : List ℕ
six_zeros = replicate 24 0x00

abbrev pub frame_room : List ℕ
frame_room = replicate 28 0x00

-- the command sent, then the reading
abbrev pub harmless : List Made
harmless = record { name = BytesIn; lent = record { input = third_code; output = enough } } ∷ record { name = SamplesIn; lent = record { input = six_zeros; output = frame_room } } ∷ []

-- the factory board with three wrong tries used
abbrev pub spent : List ℕ
spent = bytes_of (with_tries factory 3)

-- The boards have different codes, both calls are done, the command is compared, the premise holds, and neither of the two calls gives new tries.
pub record PremiseMet : Type 0 where
  pub pair : SameButCode ours theirs
  pub differ : ours ≢ theirs
  pub done : (bytes_call ours third_code enough).answer.result ≡ 0
  pub read : (samples_call (bytes_call ours third_code enough).kept six_zeros frame_room).answer.result ≡ 0
  pub compared : compares (record_of ours) third_code ≡ true
  pub of_bytes : AllOfBytes harmless
  pub quiet : AllQuiet ours theirs harmless
  pub no_reset : NoReset harmless
  -- With three wrong tries used the call that carries the right code is done too; the reply is 62, and the record stays as it was.
  pub used_up : get_or spent at_tries 0 ≡ 3
  pub refused : let z = bytes_call spent right_code enough in (z.answer.result ≡ 0) × (take z.answer.written z.output ≡ denied) × (z.kept ≡ spent)

-- The code of one of them tells them apart.
abbrev pub PremiseNeeded : Type 0
PremiseNeeded = (bytes_call ours right_code enough).output ≢ (bytes_call theirs right_code enough).output
