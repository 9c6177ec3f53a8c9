-- Demand 1: result 1 also says where the record is bad, and no other answer does.
use Rattle.std.specs.Prelude.{ℕ, ◌<◌, ◌≡◌, ◌≢◌, Bool, true, false, List, [], ◌∷◌, map, length, get_or, set}
use Rattle.record.specs.Layout.{current, bytes_of}
use Rattle.record.specs.Form.{Field, fields_in, fault_of}
use Rattle.record.specs.Births.{factory}
use Rattle.call.specs.declared.Answer.{Answer}
use Rattle.call.specs.Calls.{factory_call, power_on_call}
use Rattle.demands.specs.Premise.{SameButCode}
use Rattle.demands.specs.CallList.{Malformed, Made, outcome_of}

-- the fields of a record in their order, as places and as tests
abbrev pub places_of : List Field → List ℕ
places_of fs = map (λ (f : Field). f.place) fs

abbrev pub fines_of : List Field → List Bool
fines_of fs = map (λ (f : Field). f.fine) fs

-- length; version; flags; tries; power; step; mode; on/off; five input types; outputs; interval; filter word; name length; name; model; pending length; pending bytes; six pairs. The code is none of them.
abbrev pub field_places : List ℕ
field_places = 0 ∷ 2 ∷ 3 ∷ 4 ∷ 9 ∷ 11 ∷ 12 ∷ 13 ∷ 14 ∷ 15 ∷ 16 ∷ 17 ∷ 18 ∷ 19 ∷ 20 ∷ 21 ∷ 25 ∷ 26 ∷ 41 ∷ 56 ∷ 57 ∷ 75 ∷ 83 ∷ 91 ∷ 99 ∷ 107 ∷ 115 ∷ []

-- field i is bad, and all before it are fine
pub record FirstBad (s : List ℕ) (i : ℕ) : Type 0 where
  pub there : i < length field_places
  pub fault : get_or (fines_of (fields_in current s)) i true ≡ false
  pub fine : (j : ℕ) → j < i → get_or (fines_of (fields_in current s)) j true ≡ true

-- ---- worn records: bytes of a factory record replaced, and the place that the board then says

pub record Wear : Type 0 where
  pub at : ℕ
  pub value : ℕ

pub record Worn : Type 0 where
  pub bytes : List Wear
  pub place : ℕ

abbrev pub wear : ℕ → ℕ → Wear
wear at value = record { at = at; value = value }

abbrev pub many : List Wear → ℕ → Worn
many bytes place = record { bytes = bytes; place = place }

abbrev pub one : ℕ → ℕ → ℕ → Worn
one at value place = many (wear at value ∷ []) place

abbrev pub replaced : List Wear → List ℕ → List ℕ
replaced [] s = s
replaced (b ∷ bs) s = replaced bs (set s b.at b.value)

abbrev pub worn : List Worn
worn =
    -- the length field, high and low byte; version; a fifth flag; a fourth try
    one 0 1 0
    ∷ one 1 124 0
    ∷ one 2 2 2
    ∷ one 3 0x10 3
    ∷ one 4 4 4
    -- power, high and low byte; step, mode, on/off; each input type
    ∷ one 9 1 9
    ∷ one 10 13 9
    ∷ one 11 6 11
    ∷ one 12 2 12
    ∷ one 13 3 13
    ∷ one 14 2 14
    ∷ one 15 2 15
    ∷ one 16 2 16
    ∷ one 17 2 17
    ∷ one 18 2 18
    -- a fifth output; an interval below 4; a seventh filter bit, and one in the first byte
    ∷ one 19 0x10 19
    ∷ one 20 3 20
    ∷ one 24 0x40 21
    ∷ one 21 1 21
    -- the name length; the last byte of the name, one behind it, a name cut short; a model behind its first zero
    ∷ one 25 16 25
    ∷ one 36 0x80 26
    ∷ one 40 1 26
    ∷ one 25 10 26
    ∷ one 55 1 41
    -- the pending length; a byte that cannot wait, a frame that is whole at this length, a byte behind those that wait
    ∷ one 56 19 56
    ∷ one 56 1 57
    ∷ many (wear 56 4 ∷ wear 57 0xAA ∷ wear 58 0x90 ∷ []) 57
    ∷ one 74 1 57
    -- each pair without a reading, by its first or its last byte
    ∷ one 75 1 75
    ∷ one 90 1 83
    ∷ one 91 1 91
    ∷ one 106 1 99
    ∷ one 107 1 107
    ∷ one 122 1 115
    -- with a reading: a smallest value above the greatest, a greatest one that is infinite
    ∷ many (wear 3 0x0C ∷ wear 119 0x3F ∷ []) 115
    ∷ many (wear 3 0x0C ∷ wear 91 0x7F ∷ wear 92 0x80 ∷ []) 91
    -- the first of two in record order; the code counts for nothing
    ∷ many (wear 122 1 ∷ wear 2 2 ∷ []) 2
    ∷ many (wear 13 3 ∷ wear 12 2 ∷ []) 12
    ∷ many (wear 5 0xFF ∷ wear 13 3 ∷ []) 13
    ∷ []

-- what power-on answers to one, and what it should answer
abbrev pub answered : Worn → Answer
answered w = (power_on_call (replaced w.bytes (bytes_of factory))).answer

abbrev pub due : Worn → Answer
due w = record { result = 1; written = 0; skipped = 0; place = w.place }

pub record SaysWhere : Type 0 where
  -- The fields stand where the page says.
  pub places : (s : List ℕ) → places_of (fields_in current s) ≡ field_places
  -- "a wrong buffer length or length field is place 0"
  pub other_length : (s : List ℕ) → length s ≢ 123 → fault_of s ≡ 0
  -- "the place of the first byte of the first faulty field, in record order"; a malformed record has one,
  pub first : (s : List ℕ) (i : ℕ) → length s ≡ 123 → FirstBad s i → fault_of s ≡ get_or field_places i 0
  pub some : (s : List ℕ) → length s ≡ 123 → Malformed s → (i : ℕ) × FirstBad s i
  -- and the code plays no part in it, whatever else is wrong.
  pub any_code : (s t : List ℕ) → SameButCode s t → fault_of s ≡ fault_of t
  -- "All calls that take a record pass it on.": with result 1 it is the place of the answer; "0 in all other answers"
  pub told : (m : Made) (s : List ℕ) → (outcome_of m s).answer.result ≡ 1 → (outcome_of m s).answer.place ≡ fault_of s
  pub silent : (m : Made) (s : List ℕ) → (outcome_of m s).answer.result ≢ 1 → (outcome_of m s).answer.place ≡ 0
  -- Factory looks at the length alone, so its place is always 0.
  pub of_factory : (s : List ℕ) → (factory_call s).answer.place ≡ 0
  pub worked : map answered worn ≡ map due worn
