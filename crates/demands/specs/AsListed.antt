-- Demand 2: a command takes effect exactly when it is legal, and every frame of a stream is carried out in its turn.
use Rattle.std.specs.Prelude.{ℕ, ◌+◌, ◌*◌, ◌%◌, ◌≤◌, ◌<◌, ◌≡◌, ◌↔◌, ◌≢◌, true, false, cond, List, [], ◌∷◌, ◌++◌, length, get_or, take, drop, replicate, ltb, leb, eqb}
use Rattle.wire.specs.Numbers.{word_at}
use Rattle.wire.specs.Frames.{Piece, Whole, Broken, look, stop, skip_one, take_one, tear_one, cut}
use Rattle.wire.specs.Serial.{is_head, serial, six_lines, head_of, number_of, params_of}
use Rattle.wire.specs.Replies.{Reply, kind_of, replies_bytes}
use Rattle.wire.specs.Run.{runs}
use Rattle.wire.specs.declared.Range.{Range}
use Rattle.wire.specs.declared.Range.TheVariants.{Fits, Big, Small}
use Rattle.peak.specs.Pairs.{Pair, no_pair, less, seen}
use Rattle.record.specs.Record.{Record, with_reading, with_flags, with_tries, with_pending, with_pairs}
use Rattle.record.specs.Layout.{record_size, channels, bytes_of, record_of}
use Rattle.record.specs.Form.{InRange}
use Rattle.record.specs.Births.{factory}
use Rattle.record.specs.Reading.{reading_of}
use Rattle.command.specs.declared.Command.{Command}
use Rattle.command.specs.declared.Command.TheVariants.{ReadPair}
use Rattle.command.specs.declared.Listed.{Listed}
use Rattle.command.specs.declared.Listed.TheVariants.{Built, NotBuilt, Unlisted}
use Rattle.command.specs.declared.Counted.{Counted}
use Rattle.command.specs.declared.Counted.TheVariants.{Right, Wrong}
use Rattle.command.specs.declared.Access.{Access}
use Rattle.command.specs.declared.Access.TheVariants.{Given, Missing, WrongCode}
use Rattle.command.specs.Tables.{listed_of, counted_of, need_of, range_of}
use Rattle.command.specs.Judge.{access_of}
use Rattle.command.specs.Effects.{effect_of, data_of}
use Rattle.command.specs.Step.{step_of, on_piece}
use Rattle.call.specs.Outcome.{done}
use Rattle.call.specs.Reasons.{NoReason}
use Rattle.call.specs.Calls.{factory_call, power_on_call, bytes_call, measuring_frame, after_sample, samples_call}
use Rattle.demands.specs.CallList.{Malformed, bytes_reasons, samples_reasons}

-- ---- one frame f, on a board with the record r

module _ (r : Record) (f : List ℕ) where
  -- what the tables say of its number, its parameter count, its access and its parameters
  abbrev pub number : Listed
  number = listed_of (head_of f) (number_of f)

  abbrev pub count : Command → Counted
  count c = counted_of c (length (params_of f))

  abbrev pub access : Command → Access
  access c = access_of (need_of c) r (params_of f)

  abbrev pub range : Command → Range
  range c = range_of c (params_of f)

  -- all four are legal
  abbrev pub Legal : Command → Type 0
  Legal c = (number ≡ Built c) × (count c ≡ Right) × (access c ≡ Given) × (range c ≡ Fits)

  -- it leaves this record, and is answered by this status and these data
  abbrev pub Gives : Record → ℕ → List ℕ → Type 0
  Gives after status body = step_of r f ≡ record { after = after; reply = record { kind = kind_of (head_of f); status = status; body = body } }

  pub record FrameAsListed : Type 0 where
    -- A command is answered 00 exactly when number, parameter count, access and parameters are legal,
    pub exactly : ((step_of r f).reply.status ≡ 0x00) ↔ ((c : Command) × Legal c)
    -- and then the effect and the reply are the listed ones.
    pub effect : (c : Command) → Legal c → Gives (effect_of c r (params_of f)) 0x00 (data_of c r (params_of f))
    -- A refused one has the status of the first cause of the table and no data,
    pub unknown : number ≡ Unlisted → Gives r 0x40 []
    pub unbuilt : number ≡ NotBuilt → Gives r 0x41 []
    pub miscounted : (c : Command) → number ≡ Built c → count c ≡ Wrong → Gives r 0x5B []
    pub no_access : (c : Command) → number ≡ Built c → count c ≡ Right → access c ≡ Missing → Gives r 0x62 []
    pub wrong_code : (c : Command) → number ≡ Built c → count c ≡ Right → access c ≡ WrongCode → Gives (with_tries r (r.tries + 1)) 0x62 []
    pub too_big : (c : Command) → number ≡ Built c → count c ≡ Right → access c ≡ Given → range c ≡ Big → Gives r 0x54 []
    pub too_small : (c : Command) → number ≡ Built c → count c ≡ Right → access c ≡ Given → range c ≡ Small → Gives r 0x55 []
    -- and changes nothing but the tries.
    pub unchanged : (step_of r f).reply.status ≢ 0x00 → with_tries (step_of r f).after r.tries ≡ r

-- "Before any reading 53 gives 00 and eight zero bytes."
abbrev pub BeforeReading : Type 0
BeforeReading = (r : Record) (f : List ℕ) → InRange r → r.flags.reading ≡ false → Legal r f ReadPair → Gives r f r 0x00 (0x00 ∷ replicate 8 0x00)

-- ---- a stream l: the hunt from the left

module _ (l : List ℕ) where
  -- so many parameters does the byte behind the AA announce
  abbrev pub announced : ℕ
  announced = get_or l 1 0 % 16

  abbrev pub Headed : Type 0
  Headed = (get_or l 0 0 ≡ 0xAA) × (1 < length l) × (is_head (get_or l 1 0) ≡ true)

  pub record SixLines : Type 0 where
    -- "A byte other than AA is skipped."
    pub other : 0 < length l → get_or l 0 0 ≢ 0xAA → cut serial l ≡ skip_one (cut serial (drop 1 l))
    -- "AA with nothing after it waits."
    pub alone : get_or l 0 0 ≡ 0xAA → length l ≡ 1 → cut serial l ≡ stop l
    -- "AA followed by a byte that is no 9n or An: the AA is skipped."
    pub headless : get_or l 0 0 ≡ 0xAA → 1 < length l → is_head (get_or l 1 0) ≡ false → cut serial l ≡ skip_one (cut serial (drop 1 l))
    -- "A good head with fewer than 4 + n bytes present waits."
    pub unfinished : Headed → length l < 4 + announced → cut serial l ≡ stop l
    -- "All present and the last is 85: the frame is carried out and replied to, and the hunt goes on behind it."
    pub frame : Headed → 4 + announced ≤ length l → get_or l (3 + announced) 0 ≡ 0x85 → cut serial l ≡ take_one (take (4 + announced) l) (cut serial (drop (4 + announced) l))
    -- "All present and the last isn't 85: the AA is skipped without a reply, and the hunt goes on at the byte after that AA."
    pub broken : Headed → 4 + announced ≤ length l → get_or l (3 + announced) 0 ≢ 0x85 → cut serial l ≡ tear_one (get_or l 1 0) (cut serial (drop 1 l))
    -- Behind the last byte nothing is skipped and nothing waits.
    pub over : length l ≡ 0 → cut serial l ≡ stop []

-- ---- its pieces, one after the other

pub record InTurn : Type 0 where
  -- Every frame of a stream is carried out on the record that those before it left, and its reply stands behind theirs.
  pub frame : (r : Record) (ps qs : List Piece) (f : List ℕ)
      → let before = runs on_piece r ps in
      let step = step_of before.state f in
      let after = runs on_piece step.after qs in
      runs on_piece r (ps ++ Whole f ∷ qs) ≡ record { state = after.state; said = before.said ++ step.reply ∷ after.said }
  -- A broken head is passed in silence.
  pub broken : (r : Record) (ps qs : List Piece) (head : ℕ) → runs on_piece r (ps ++ Broken head ∷ qs) ≡ runs on_piece r (ps ++ qs)
  -- "Replies: AA, 5n or 6n (amplifier or BT121), status, n bytes, 85."
  pub reply : (a : Reply) (said : List Reply) → replies_bytes (a ∷ said) ≡ 0xAA ∷ (a.kind * 16 + length a.body) ∷ a.status ∷ (a.body ++ 0x85 ∷ []) ++ replies_bytes said
  -- "0 done; counts are bytes written and bytes skipped", "output behind the written bytes is unchanged"
  pub left : (r : Record) (out : List ℕ) (skipped : ℕ) (o : List ℕ)
      → done r out skipped o ≡ record { answer = record { result = 0; written = length out; skipped = skipped; place = 0 }; kept = bytes_of r; output = out ++ drop (length out) o }
  -- A bytes call that nothing stops cuts pending bytes and input into pieces, answers them in turn, and counts what the cut skipped.
  pub call : (s input o : List ℕ) → NoReason (bytes_reasons s input o)
      → let c = cut serial ((record_of s).pending ++ input) in
      let run = runs on_piece (record_of s) c.pieces in
      bytes_call s input o ≡ done (with_pending run.state c.waiting) (replies_bytes run.said) c.skipped o

-- ---- a reading, taken into the record r

pub record ReadingTaken (r : Record) (sample : List ℕ) : Type 0 where
  -- The reading flag is set, and nothing but it and the pairs changes;
  pub flagged : reading_of r sample ≡ with_pairs (with_flags r (with_reading r.flags true)) (reading_of r sample).pairs
  -- the pair of each channel takes the value of that channel,
  pub taken : (k : ℕ) → k < length r.pairs → get_or (reading_of r sample).pairs k no_pair ≡ seen r.flags.reading (get_or r.pairs k no_pair) (word_at sample (4 * k))
  -- and there are as many pairs as before.
  pub many : length (reading_of r sample).pairs ≡ length r.pairs

-- ---- the other three calls, when nothing stops them

pub record OtherCalls : Type 0 where
  -- Factory writes a new record.
  pub new_record : (s : List ℕ) → length s ≡ record_size → factory_call s ≡ done factory [] 0 []
  -- Power-on keeps the code, the settings and the model, and nothing else.
  pub powered-on : (s : List ℕ) → ¬ Malformed s
      → let r = record_of s in
      power_on_call s ≡ done (record { flags = factory.flags; tries = 0; code = r.code; settings = r.settings; outputs = factory.outputs; model = r.model; pending = []; pairs = factory.pairs; counter = 0 }) [] 0 []
  -- A reading goes into the pairs and, with sending on, out as a measuring frame.
  pub reading : (s sample o : List ℕ) → NoReason (samples_reasons s sample o) → samples_call s sample o ≡ after_sample (record_of s) sample o
  pub pairs : (r : Record) (sample : List ℕ) → ReadingTaken r sample
  -- "six pairs greatest, smallest, from channel 1 on"
  pub six : (s : List ℕ) → length (record_of s).pairs ≡ 6
  -- "The first reading sets both, with the reading flag; later a strictly greater or strictly smaller value replaces"
  pub first : (p : Pair) (x : ℕ) → seen false p x ≡ record { greatest = x; smallest = x }
  pub later : (p : Pair) (x : ℕ) → seen true p x ≡ record { greatest = cond (less p.greatest x) x p.greatest; smallest = cond (less x p.smallest) x p.smallest }
  -- "AA 15 B0, the 24 bytes, 85 (28 bytes)"
  pub measuring : (sample : List ℕ) → length sample ≡ 24 → measuring_frame channels sample ≡ 0xAA ∷ 0x15 ∷ 0xB0 ∷ sample ++ 0x85 ∷ []

-- The board answers as the tables say.
pub record AnswersAsListed : Type 0 where
  pub each_frame : (r : Record) (f : List ℕ) → FrameAsListed r f
  pub before_reading : BeforeReading
  -- What the hunt does at the front of a stream is the six lines: is the first byte AA, is there a second, is it a head, are 4 + n bytes present, is the last of them 85.
  pub looked : (l : List ℕ)
      → look serial l ≡ six_lines (eqb (get_or l 0 0) 0xAA) (ltb 1 (length l)) (is_head (get_or l 1 0)) (leb (4 + announced l) (length l)) (eqb (get_or l (3 + announced l) 0) 0x85) (announced l)
  pub hunted : (l : List ℕ) → SixLines l
  pub in_turn : InTurn
  pub others : OtherCalls
