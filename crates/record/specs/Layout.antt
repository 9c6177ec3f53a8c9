-- The bytes of a record: the parts that there are, a layout as a list of them, the bytes of a record value, and the value that bytes stand for.
-- Where each part of a layout stands is a sum over the parts before it; `Places` has the tables.
use Rattle.std.specs.Prelude.{ℕ, suc, ◌+◌, ◌*◌, ◌/◌, ◌%◌, Bool, true, false, cond, not, ◌&&◌, ◌||◌, List, [], ◌∷◌, ◌++◌, length, get_or, take, eqb, leb}
use Rattle.wire.specs.Numbers.{half_at, word_at, bytes2, bytes4, bytes_at}
use Rattle.wire.specs.Zeros.{before_zero}
use Rattle.wire.specs.Sizes.{wait_most}
use Rattle.wire.specs.Frames.{Heads}
use Rattle.wire.specs.Serial.{Fixed, NotHead, fronted, ends_in_85, serial}
use Rattle.peak.specs.Pairs.{pairs_at, pairs_bytes}
use Rattle.record.specs.Record.{Flags, Outputs, Record}

-- ---- the parts that a record can have

pub data Part : Type 0 where
  SizeBytes : Part
  VersionByte : Part
  FlagByte : Part
  TriesByte : Part
  CodeWord : Part
  PowerHalf : Part
  StepByte : Part
  ModeByte : Part
  OnOffByte : Part
  InputBytes : Part
  OutputByte : Part
  IntervalByte : Part
  FilterWord : Part
  NamePart : Part
  ModelPart : Part
  PendingPart : Part
  PairsPart : Part
  CounterHalf : Part

abbrev pub tag : Part → ℕ
tag SizeBytes = 0
tag VersionByte = 1
tag FlagByte = 2
tag TriesByte = 3
tag CodeWord = 4
tag PowerHalf = 5
tag StepByte = 6
tag ModeByte = 7
tag OnOffByte = 8
tag InputBytes = 9
tag OutputByte = 10
tag IntervalByte = 11
tag FilterWord = 12
tag NamePart = 13
tag ModelPart = 14
tag PendingPart = 15
tag PairsPart = 16
tag CounterHalf = 17

abbrev pub all_parts : List Part
all_parts = SizeBytes ∷ VersionByte ∷ FlagByte ∷ TriesByte ∷ CodeWord ∷ PowerHalf ∷ StepByte ∷ ModeByte ∷ OnOffByte ∷ InputBytes ∷ OutputByte ∷ IntervalByte ∷ FilterWord ∷ NamePart ∷ ModelPart ∷ PendingPart ∷ PairsPart ∷ CounterHalf ∷ []

abbrev pub same : Part → Part → Bool
same a b = eqb (tag a) (tag b)

abbrev pub has : List Part → Part → Bool
has [] q = false
has (x ∷ ps) q = same q x || has ps q

abbrev pub distinct : List Part → Bool
distinct [] = true
distinct (x ∷ ps) = not (has ps x) && distinct ps

abbrev pub each : {A : Type 0} → (Part → A) → List Part → List A
each f [] = []
each f (x ∷ ps) = f x ∷ each f ps

-- ---- a layout

-- its version byte; the room for pending bytes and the heads that they go by; its channels; the filter words are below `filters`; whether there is a configuration mode to open; its parts in record order
pub record Plan : Type 0 where
  pub version : ℕ
  pub room : ℕ
  pub heads : Heads
  pub channels : ℕ
  pub filters : ℕ
  pub opens : Bool
  pub parts : List Part

-- "name length and 15 bytes", "model 15"
abbrev pub name_room : ℕ
name_room = 15

abbrev pub model_room : ℕ
model_room = 15

-- how many bytes a part takes
abbrev pub width : Plan → Part → ℕ
width p SizeBytes = 2
width p VersionByte = 1
width p FlagByte = 1
width p TriesByte = 1
width p CodeWord = 4
width p PowerHalf = 2
width p StepByte = 1
width p ModeByte = 1
width p OnOffByte = 1
width p InputBytes = 5
width p OutputByte = 1
width p IntervalByte = 1
width p FilterWord = 4
width p NamePart = suc name_room
width p ModelPart = model_room
width p PendingPart = suc p.room
width p PairsPart = p.channels * 8
width p CounterHalf = 2

-- size and places are sums over the widths of the parts
module _ (w : Part → ℕ) where
  abbrev pub size_of : List Part → ℕ
  size_of [] = 0
  size_of (x ∷ ps) = w x + size_of ps

  -- a part that is not there stands behind the last
  abbrev pub place_of : List Part → Part → ℕ
  place_of [] q = 0
  place_of (x ∷ ps) q = cond (same q x) 0 (w x + place_of ps q)

-- the bytes of the parts, one behind the other
abbrev pub lay : (Part → List ℕ) → List Part → List ℕ
lay c [] = []
lay c (x ∷ ps) = c x ++ lay c ps

abbrev pub plan_size : Plan → ℕ
plan_size p = size_of (width p) p.parts

abbrev pub place : Plan → Part → ℕ
place p q = place_of (width p) p.parts q

-- the bytes of a part, none if it is not there
abbrev pub part_in : Plan → List ℕ → Part → List ℕ
part_in p s q = cond (has p.parts q) (bytes_at (width p q) s (place p q)) []

-- ---- the layouts

-- "length 00 7B; version 01; flags ..; tries 0..3; code 4; Classic power 2; LE step; mode; on/off; input types 5 (channels 2 to 6); outputs ..; interval; filter word 4; name length and 15 bytes ..; model 15 ..; pending length and 18 bytes; six pairs greatest, smallest, from channel 1 on"
abbrev pub board_parts : List Part
board_parts = SizeBytes ∷ VersionByte ∷ FlagByte ∷ TriesByte ∷ CodeWord ∷ PowerHalf ∷ StepByte ∷ ModeByte ∷ OnOffByte ∷ InputBytes ∷ OutputByte ∷ IntervalByte ∷ FilterWord ∷ NamePart ∷ ModelPart ∷ PendingPart ∷ PairsPart ∷ []

-- the board's record, "123 bytes (*house*)": version 01, 18 pending bytes, six channels, filter bits 0 to 5
abbrev pub plan1 : Plan
plan1 = record { version = 1; room = wait_most; heads = serial; channels = 6; filters = 64; opens = true; parts = board_parts }

-- one waiting byte more; no call takes it yet, nor those that follow
abbrev pub plan2 : Plan
plan2 = record { version = 2; room = 19; heads = serial; channels = 6; filters = 64; opens = true; parts = board_parts }

-- with a counter at its end
abbrev pub plan3 : Plan
plan3 = record { version = 3; room = 19; heads = serial; channels = 6; filters = 64; opens = true; parts = board_parts ++ (CounterHalf ∷ []) }

-- amplifier commands alone, 9n
unfoldable pub seat_heads : Heads
seat_heads = fronted (λ b. cond (leb 0x90 b && leb b 0x9F) (Fixed (b % 16)) NotHead) ends_in_85

-- a board without radio: eight channels, 16 filter bits, no configuration mode
abbrev pub seat : Plan
seat = record { version = 8; room = 19; heads = seat_heads; channels = 8; filters = 65536; opens = false; parts = SizeBytes ∷ VersionByte ∷ FlagByte ∷ TriesByte ∷ CodeWord ∷ FilterWord ∷ ModelPart ∷ PendingPart ∷ PairsPart ∷ [] }

-- the layout that all calls take
abbrev pub current : Plan
current = plan1

-- as `Places` and `record/src/places` have it in numbers
abbrev pub record_size : ℕ
record_size = plan_size current

abbrev pub version : ℕ
version = current.version

abbrev pub channels : ℕ
channels = current.channels

-- filter words are below it
abbrev pub filters : ℕ
filters = current.filters

-- at most so many bytes wait
abbrev pub pending_room : ℕ
pending_room = current.room

-- ---- places of the current layout

abbrev pub at_version : ℕ
at_version = place current VersionByte

abbrev pub at_flags : ℕ
at_flags = place current FlagByte

abbrev pub at_tries : ℕ
at_tries = place current TriesByte

abbrev pub at_code : ℕ
at_code = place current CodeWord

abbrev pub at_power : ℕ
at_power = place current PowerHalf

abbrev pub at_step : ℕ
at_step = place current StepByte

abbrev pub at_mode : ℕ
at_mode = place current ModeByte

abbrev pub at_on_off : ℕ
at_on_off = place current OnOffByte

abbrev pub at_inputs : ℕ
at_inputs = place current InputBytes

abbrev pub at_outputs : ℕ
at_outputs = place current OutputByte

abbrev pub at_interval : ℕ
at_interval = place current IntervalByte

abbrev pub at_filter : ℕ
at_filter = place current FilterWord

abbrev pub at_name_length : ℕ
at_name_length = place current NamePart

-- behind its length
abbrev pub at_name : ℕ
at_name = at_name_length + 1

abbrev pub at_model : ℕ
at_model = place current ModelPart

abbrev pub at_pending_length : ℕ
at_pending_length = place current PendingPart

-- behind their length
abbrev pub at_pending : ℕ
at_pending = at_pending_length + 1

abbrev pub at_pairs : ℕ
at_pairs = place current PairsPart

-- ---- four bits in a byte

abbrev pub bit : Bool → ℕ
bit true = 1
bit false = 0

abbrev pub nibble : Bool → Bool → Bool → Bool → ℕ
nibble a b c d = bit a + bit b * 2 + bit c * 4 + bit d * 8

-- "bit 0 open, 1 unlocked, 2 sending, 3 reading seen, others 0"
abbrev pub flags_byte : Flags → ℕ
flags_byte f = nibble f.opened f.unlocked f.sending f.reading

-- "output k in bit k - 1, bits 4 to 7 zero"
abbrev pub outputs_byte : Outputs → ℕ
outputs_byte o = nibble o.first o.second o.third o.fourth

-- bit k of a byte, for a divisor 2 ^ k
abbrev pub bit_of : ℕ → ℕ → Bool
bit_of b unit = eqb (b / unit % 2) 1

-- ---- the bytes of a record, part by part; what is shorter than its room has zeros behind it

abbrev pub part_bytes : Plan → Record → Part → List ℕ
-- "length 00 7B; version 01"
part_bytes p r SizeBytes = bytes2 (plan_size p)
part_bytes p r VersionByte = p.version ∷ []
-- "flags (bit 0 open, 1 unlocked, 2 sending, 3 reading seen, others 0); tries 0..3; code 4"
part_bytes p r FlagByte = flags_byte r.flags ∷ []
part_bytes p r TriesByte = r.tries ∷ []
part_bytes p r CodeWord = bytes4 r.code
-- "Classic power 2; LE step; mode; on/off; input types 5 (channels 2 to 6)"
part_bytes p r PowerHalf = bytes2 r.settings.power
part_bytes p r StepByte = r.settings.step ∷ []
part_bytes p r ModeByte = r.settings.mode ∷ []
part_bytes p r OnOffByte = r.settings.on_off ∷ []
part_bytes p r InputBytes = bytes_at 5 r.settings.inputs 0
-- "outputs (output k in bit k - 1, bits 4 to 7 zero); interval; filter word 4"
part_bytes p r OutputByte = outputs_byte r.outputs ∷ []
part_bytes p r IntervalByte = r.settings.interval ∷ []
part_bytes p r FilterWord = bytes4 r.settings.filter
-- "name length and 15 bytes, each at most 7F, zero behind the name; model 15, all zero from its first zero"
part_bytes p r NamePart = length r.settings.name ∷ bytes_at name_room r.settings.name 0
part_bytes p r ModelPart = bytes_at model_room r.model 0
-- "pending length and 18 bytes; six pairs greatest, smallest, from channel 1 on"
part_bytes p r PendingPart = length r.pending ∷ bytes_at p.room r.pending 0
part_bytes p r PairsPart = pairs_bytes p.channels r.pairs 0
part_bytes p r CounterHalf = bytes2 r.counter

unfoldable pub bytes_in : Plan → Record → List ℕ
bytes_in p r = lay (part_bytes p r) p.parts

unfoldable pub bytes_of : Record → List ℕ
unfolding bytes_in
bytes_of r = bytes_in current r

-- ---- the record that bytes stand for; a part that is not there is zero or empty

unfoldable pub value_of : Plan → (Part → List ℕ) → Record
unfolding before_zero
value_of p c = record {
  flags = record { opened = bit_of (get_or (c FlagByte) 0 0) 1; unlocked = bit_of (get_or (c FlagByte) 0 0) 2; sending = bit_of (get_or (c FlagByte) 0 0) 4; reading = bit_of (get_or (c FlagByte) 0 0) 8 };
  tries = get_or (c TriesByte) 0 0;
  code = word_at (c CodeWord) 0;
  settings = record {
    power = half_at (c PowerHalf) 0;
    step = get_or (c StepByte) 0 0;
    mode = get_or (c ModeByte) 0 0;
    on_off = get_or (c OnOffByte) 0 0;
    inputs = bytes_at 5 (c InputBytes) 0;
    interval = get_or (c IntervalByte) 0 0;
    filter = word_at (c FilterWord) 0;
    name = take (get_or (c NamePart) 0 0) (bytes_at name_room (c NamePart) 1);
  };
  outputs = record { first = bit_of (get_or (c OutputByte) 0 0) 1; second = bit_of (get_or (c OutputByte) 0 0) 2; third = bit_of (get_or (c OutputByte) 0 0) 4; fourth = bit_of (get_or (c OutputByte) 0 0) 8 };
  model = before_zero (bytes_at model_room (c ModelPart) 0);
  pending = take (get_or (c PendingPart) 0 0) (bytes_at p.room (c PendingPart) 1);
  pairs = pairs_at p.channels (c PairsPart) 0;
  counter = half_at (c CounterHalf) 0;
}

unfoldable pub record_in : Plan → List ℕ → Record
unfolding value_of
record_in p s = value_of p (part_in p s)

unfoldable pub record_of : List ℕ → Record
unfolding record_in
record_of s = record_in current s
