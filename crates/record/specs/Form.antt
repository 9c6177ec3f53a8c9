-- Which bytes are a board record: its fields in record order, each with its place and whether it is as it has to be.
use Rattle.std.specs.Prelude.{ℕ, zero, suc, ◌+◌, ◌%◌, ◌<◌, ◌≤◌, ◌≡◌, Bool, true, false, cond, not, ◌&&◌, ◌||◌, List, [], ◌∷◌, ◌++◌, length, get_or, take, drop, replicate, ltb, leb, eqb}
use Rattle.wire.specs.Numbers.{Bytes, half_at, word_at, bytes_at}
use Rattle.wire.specs.Ranges.{fits}
use Rattle.wire.specs.Zeros.{all_zero, zeros_behind, before_zero}
use Rattle.wire.specs.Frames.{look, waits}
use Rattle.wire.specs.Serial.{serial}
use Rattle.wire.specs.declared.Range.TheVariants.{Fits}
use Rattle.peak.specs.Pairs.{no_pair, pair_fits, pair_at, key}
use Rattle.record.specs.Record.{Outputs, Settings, Record}
use Rattle.record.specs.Limits.{power_range, step_range, mode_range, on_off_range, input_range, interval_range, filter_range, name_range}
use Rattle.record.specs.Layout.{Part, SizeBytes, VersionByte, FlagByte, TriesByte, CodeWord, PowerHalf, StepByte, ModeByte, OnOffByte, InputBytes, OutputByte, IntervalByte, FilterWord, NamePart, ModelPart, PendingPart, PairsPart, CounterHalf, Plan, name_room, model_room, current, has, place, part_in, plan_size, bit_of}
use Rattle.record.specs.declared.Form.{Form}
use Rattle.record.specs.declared.Form.TheVariants.{Good, Bad}

pub record Field : Type 0 where
  pub place : ℕ
  pub fine : Bool

abbrev pub field : ℕ → Bool → Field
field place fine = record { place = place; fine = fine }

-- a part of which the first n bytes are in use: they pass a test, and zeros stand behind them
abbrev pub part_fits : (List ℕ → Bool) → ℕ → List ℕ → Bool
part_fits test n s = test (take n s) && all_zero (drop n s)

-- n fields of the same kind, each so many bytes long, from byte k of their part on
abbrev pub several : ℕ → ℕ → (ℕ → Bool) → ℕ → ℕ → List Field
several zero width fine at k = []
several (suc n) width fine at k = field (at + k) (fine k) ∷ several n width fine at (k + width)

-- ---- the fields of a part that stands at a place, by its bytes

-- "flags (bit 0 open, 1 unlocked, 2 sending, 3 reading seen, others 0)"; without a configuration mode bit 0 is 0 too
abbrev pub flags_fit : Bool → ℕ → Bool
flags_fit true b = ltb b 16
flags_fit false b = ltb b 16 && eqb (b % 2) 0

-- "It is well formed when each field is in its range": the tests of each part, in the words of the record's description; `Limits` has the ranges of the settings; the places are for `first_fault`
abbrev pub tests_of : Plan → Bool → ℕ → List ℕ → Part → List Field
-- "length 00 7B; version 01"
tests_of p reading at c SizeBytes = field at (eqb (half_at c 0) (plan_size p)) ∷ []
tests_of p reading at c VersionByte = field at (eqb (get_or c 0 0) p.version) ∷ []
-- "flags (bit 0 open, 1 unlocked, 2 sending, 3 reading seen, others 0); tries 0..3"
tests_of p reading at c FlagByte = field at (flags_fit p.opens (get_or c 0 0)) ∷ []
tests_of p reading at c TriesByte = field at (leb (get_or c 0 0) 3) ∷ []
-- "Every code is well formed.": it has no test
tests_of p reading at c CodeWord = []
-- "Classic power 2; LE step; mode; on/off; input types 5 (channels 2 to 6)"
tests_of p reading at c PowerHalf = field at (fits (power_range (half_at c 0))) ∷ []
tests_of p reading at c StepByte = field at (fits (step_range (get_or c 0 0))) ∷ []
tests_of p reading at c ModeByte = field at (fits (mode_range (get_or c 0 0))) ∷ []
tests_of p reading at c OnOffByte = field at (fits (on_off_range (get_or c 0 0))) ∷ []
tests_of p reading at c InputBytes = several 5 1 (λ k. fits (input_range (get_or c k 0))) at 0
-- "outputs (output k in bit k - 1, bits 4 to 7 zero); interval; filter word 4"
tests_of p reading at c OutputByte = field at (ltb (get_or c 0 0) 16) ∷ []
tests_of p reading at c IntervalByte = field at (fits (interval_range (get_or c 0 0))) ∷ []
tests_of p reading at c FilterWord = field at (fits (filter_range p.filters (word_at c 0))) ∷ []
-- "name length and 15 bytes, each at most 7F, zero behind the name"
tests_of p reading at c NamePart = field at (leb (get_or c 0 0) name_room) ∷ field (at + 1) (part_fits (λ l. fits (name_range l)) (get_or c 0 0) (bytes_at name_room c 1)) ∷ []
-- "model 15, all zero from its first zero"
tests_of p reading at c ModelPart = field at (zeros_behind (bytes_at model_room c 0)) ∷ []
-- "pending bytes are such as the hunt can leave waiting with zeros behind"
tests_of p reading at c PendingPart = field at (leb (get_or c 0 0) p.room) ∷ field (at + 1) (part_fits (waits p.heads) (get_or c 0 0) (bytes_at p.room c 1)) ∷ []
-- "the pairs are all zero bytes without a reading, else finite with smallest not above greatest"
tests_of p reading at c PairsPart = several p.channels 8 (λ k. pair_fits reading (pair_at c k)) at 0
tests_of p reading at c CounterHalf = []

abbrev pub tests_by : (Part → List Field) → List Part → List Field
tests_by t [] = []
tests_by t (x ∷ ps) = t x ++ tests_by t ps

abbrev pub reading_by : List ℕ → Bool
reading_by c = bit_of (get_or c 0 0) 8

-- the fields of some parts, and all fields in record order
abbrev pub fields_at : Plan → List ℕ → List Part → List Field
fields_at p s qs = tests_by (λ q. tests_of p (reading_by (part_in p s FlagByte)) (place p q) (part_in p s q) q) qs

abbrev pub fields_in : Plan → List ℕ → List Field
fields_in p s = fields_at p s p.parts

abbrev pub all_fine : List Field → Bool
all_fine [] = true
all_fine (f ∷ fs) = f.fine && all_fine fs

-- "It is well formed when each field is in its range"
unfoldable pub well_in : Plan → List ℕ → Bool
unfolding name_range all_zero zeros_behind waits serial look key
well_in p s = eqb (length s) (plan_size p) && all_fine (fields_in p s)

-- the same for the board's layout
unfoldable pub well_formed : List ℕ → Bool
unfolding well_in
well_formed s = well_in current s

-- ---- "the place of the first byte of the first faulty field, in record order"

pub data Fault : Type 0 where
  NoFault : Fault
  FaultAt : ℕ → Fault

-- "Each input type, the name length, the name bytes, the pending length, the pending bytes and each pair is a field": the fields are those of `tests_of`
abbrev pub first_fault : List Field → Fault
first_fault [] = NoFault
first_fault (f ∷ fs) = cond f.fine (first_fault fs) (FaultAt f.place)

-- "a wrong buffer length or length field is place 0"
unfoldable pub fault_in : Plan → List ℕ → Fault
unfolding name_range all_zero zeros_behind waits serial look key
fault_in p s = cond (eqb (length s) (plan_size p)) (first_fault (fields_in p s)) (FaultAt 0)

-- as a number, 0 if there is none
abbrev pub fault_place : Fault → ℕ
fault_place NoFault = 0
fault_place (FaultAt place) = place

-- the same for the board's layout
unfoldable pub fault_of : List ℕ → ℕ
unfolding fault_in
fault_of s = fault_place (fault_in current s)

-- what the check answers
abbrev pub form_by : Bool → Form
form_by true = Good
form_by false = Bad

abbrev pub form_of : List ℕ → Form
form_of s = form_by (well_formed s)

-- what has to hold where a part is missing
abbrev pub Unless : Bool → Type 0 → Type 0
Unless true A = Unit {0}
Unless false A = A

-- what a layout without the radio's parts leaves zero or empty
pub record Silent (g : Settings) (o : Outputs) : Type 0 where
  pub power : g.power ≡ 0
  pub step : g.step ≡ 0
  pub mode : g.mode ≡ 0
  pub on-off : g.on_off ≡ 0
  pub inputs : g.inputs ≡ replicate 5 0
  pub interval : g.interval ≡ 0
  pub name : g.name ≡ []
  pub outputs : o ≡ record { first = false; second = false; third = false; fourth = false }

-- the same of a record value: each field in its range
pub record InRangeIn (p : Plan) (r : Record) : Type 0 where
  pub opened : (p.opens || not r.flags.opened) ≡ true
  pub tries : r.tries ≤ 3
  pub code : r.code < 0x100000000
  pub power : power_range r.settings.power ≡ Fits
  pub power_half : r.settings.power < 0x10000
  pub step : step_range r.settings.step ≡ Fits
  pub mode : mode_range r.settings.mode ≡ Fits
  pub on-off : on_off_range r.settings.on_off ≡ Fits
  pub five : length r.settings.inputs ≡ 5
  pub inputs : (i : ℕ) → input_range (get_or r.settings.inputs i 0) ≡ Fits
  pub interval : interval_range r.settings.interval ≡ Fits
  pub filter : filter_range p.filters r.settings.filter ≡ Fits
  pub name_length : length r.settings.name ≤ name_room
  pub name : name_range r.settings.name ≡ Fits
  pub model_length : length r.model ≤ model_room
  pub model : before_zero r.model ≡ r.model
  pub model_bytes : Bytes r.model
  pub pending : waits p.heads r.pending ≡ true
  pub pending_bytes : Bytes r.pending
  pub six : length r.pairs ≡ p.channels
  pub words : (i : ℕ) → ((get_or r.pairs i no_pair).greatest < 0x100000000) × ((get_or r.pairs i no_pair).smallest < 0x100000000)
  pub pairs : (i : ℕ) → i < p.channels → pair_fits r.flags.reading (get_or r.pairs i no_pair) ≡ true
  pub counter : r.counter < 0x10000
  pub silent : Unless (has p.parts PowerHalf) (Silent r.settings r.outputs)
  pub uncounted : Unless (has p.parts CounterHalf) (r.counter ≡ 0)

abbrev pub InRange : Record → Type 0
InRange r = InRangeIn current r
