-- The four calls: from what a call is given to its outcome, refusals included.
use Rattle.std.specs.Prelude.{ℕ, ◌+◌, ◌*◌, not, cond, List, [], ◌∷◌, ◌++◌, length, ltb, eqb}
use Rattle.wire.specs.Sizes.{input_most}
use Rattle.wire.specs.Numbers.{bytes_at, put}
use Rattle.wire.specs.Replies.{Reply, replies_bytes}
use Rattle.wire.specs.Run.{Hunted}
use Rattle.peak.specs.Pairs.{all_finite}
use Rattle.record.specs.Record.{Record}
use Rattle.record.specs.Layout.{record_size, channels, bytes_of, record_of}
use Rattle.record.specs.Form.{well_formed, fault_of, form_of}
use Rattle.record.specs.Births.{factory, powered_on}
use Rattle.record.specs.Reading.{reading_of}
use Rattle.command.specs.Hunt.{hunt_of, record_after, room_for}
use Rattle.call.specs.declared.CallRefusal.TheVariants.{BadRecord, BadLength, NoRoom, NotFinite}
use Rattle.call.specs.Outcome.{Outcome, done, Cause, cause, bad, in_order}

-- ---- factory and power-on

-- "(factory: only the length)"; "a wrong buffer length or length field is place 0"
abbrev pub factory_causes : List ℕ → List Cause
factory_causes s = cause (not (eqb (length s) record_size)) (BadRecord 0) ∷ []

-- "factory (write a new record)"; "factory and power-on: 0 and 0"
unfoldable pub factory_call : List ℕ → Outcome
unfolding factory bytes_of put
factory_call s = in_order (factory_causes s) s [] (done factory [] 0 [])

-- "1: record not 123 bytes or not well formed"; "Result 1 shall also return the place of the first byte of the first faulty field"; "All calls that take a record pass it on."
abbrev pub bad_record : List ℕ → Cause
bad_record s = cause (bad (form_of s)) (BadRecord (fault_of s))

abbrev pub power_on_causes : List ℕ → List Cause
power_on_causes s = bad_record s ∷ []

-- power-on, "factory and power-on: 0 and 0": what it leaves is `powered_on` of record/specs/Births
unfoldable pub power_on_call : List ℕ → Outcome
unfolding powered_on bytes_of record_of put well_formed fault_of
power_on_call s = in_order (power_on_causes s) s [] (done (powered_on (record_of s)) [] 0 [])

-- ---- bytes

-- "2: input over 4,096"; "3: output shorter than 19 times the whole part of (pending + input) / 4"
abbrev pub bytes_causes : List ℕ → List ℕ → List ℕ → List Cause
bytes_causes s input o =
    bad_record s
    ∷ cause (ltb input_most (length input)) BadLength
    ∷ cause (ltb (length o) (room_for (length (record_of s).pending + length input))) NoRoom
    ∷ []

-- "The call returns the reply bytes written and the number of bytes skipped."
abbrev pub after_bytes : Hunted Record Reply → List ℕ → Outcome
after_bytes h o = done (record_after h) (replies_bytes h.said) h.skipped o

-- "bytes (received bytes in, replies out)"
unfoldable pub bytes_call : List ℕ → List ℕ → List ℕ → Outcome
unfolding hunt_of record_after replies_bytes bytes_of record_of put well_formed fault_of
bytes_call s input o = in_order (bytes_causes s input o) s o (after_bytes (hunt_of (record_of s) input) o)

-- ---- samples

-- "24 bytes, six 32-bit floats, all finite"; `channels` is 6
abbrev pub sample_size : ℕ
sample_size = 4 * channels

-- "(28 bytes)"
abbrev pub measuring_size : ℕ
measuring_size = 4 + sample_size

-- "AA 15 B0, the 24 bytes, 85": a measuring frame of n channels, whose second byte is 15 at six; `six-channels` of call/proofs/SampleEnds shows it at six
abbrev pub measuring_frame : ℕ → List ℕ → List ℕ
measuring_frame n sample = 0xAA ∷ (0x0F + n) ∷ 0xB0 ∷ bytes_at (4 * n) sample 0 ++ (0x85 ∷ [])

-- "2: not 24"; "3: shorter than 28, also with sending off"; "4: a sample is infinite or not a number"
abbrev pub samples_causes : List ℕ → List ℕ → List ℕ → List Cause
samples_causes s sample o =
    bad_record s
    ∷ cause (not (eqb (length sample) sample_size)) BadLength
    ∷ cause (ltb (length o) measuring_size) NoRoom
    ∷ cause (not (all_finite channels sample 0)) NotFinite
    ∷ []

-- "If sending is on, the output gets AA 15 B0, the 24 bytes, 85 (28 bytes); else nothing."; "samples: 28 or 0, and 0"
abbrev pub after_sample : Record → List ℕ → List ℕ → Outcome
after_sample r sample o = done (reading_of r sample) (cond r.flags.sending (measuring_frame channels sample) []) 0 o

-- "samples (one reading of six channels in, a measuring frame out)"
unfoldable pub samples_call : List ℕ → List ℕ → List ℕ → Outcome
unfolding reading_of all_finite bytes_of record_of put well_formed fault_of
samples_call s sample o = in_order (samples_causes s sample o) s o (after_sample (record_of s) sample o)
