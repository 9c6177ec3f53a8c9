-- What a board says is read back as what it meant.
-- "All that our bytes and samples calls write, in captures of whole frames and at most 4,096 bytes, must be read back as what it meant, nothing skipped."
use Rattle.std.specs.Prelude.{ℕ, ◌+◌, ◌*◌, ◌/◌, ◌≤◌, ◌≡◌, cond, List, [], ◌∷◌, ◌++◌, length, take, drop, replicate, eqb}
use Rattle.wire.specs.Numbers.{Bytes}
use Rattle.wire.specs.Reader.{Entry, entries_in}
use Rattle.wire.specs.Replies.{Reply}
use Rattle.record.specs.Layout.{record_of}
use Rattle.command.specs.Hunt.{hunt_of}
use Rattle.call.specs.Read.{ReadOutcome, read_call}
use Rattle.demands.specs.CallList.{Name, Factory, PowerOn, BytesIn, SamplesIn, call_of, Made, outcome_of}
use Rattle.demands.specs.Examples.{open_frame}
use Rattle.demands.specs.Secrecy.{AllOfBytes, ours, six_zeros, frame_room}

-- ---- what a board means

-- a reply, with its kind, status and data; or a reading, with the bytes of its six values
pub data Said : Type 0 where
  Replied : Reply → Said
  Measured : List ℕ → Said

unfoldable pub replied : List Reply → List Said
replied [] = []
replied (a ∷ said) = Replied a ∷ replied said

-- what a call that is done means to say, on a board with the record s
abbrev pub meant_by : (n : Name) → (call_of n).Lent → List ℕ → List Said
meant_by Factory l s = []
meant_by PowerOn l s = []
-- the replies to its frames
meant_by BytesIn l s = replied (hunt_of (record_of s) l.input).said
-- the reading, with sending on
meant_by SamplesIn l s = cond (record_of s).flags.sending (Measured l.input ∷ []) []

-- a call that is refused says nothing
abbrev pub meant : Made → List ℕ → List Said
meant m s = cond (eqb (outcome_of m s).answer.result 0) (meant_by m.name m.lent s) []

-- calls made one after the other, each on the record that the one before it left: all that they mean, and all that they write
abbrev pub all_meant : List Made → List ℕ → List Said
all_meant [] s = []
all_meant (m ∷ calls) s = meant m s ++ all_meant calls (outcome_of m s).kept

abbrev pub wrote : Made → List ℕ → List ℕ
wrote m s = take (outcome_of m s).answer.written (outcome_of m s).output

abbrev pub all_wrote : List Made → List ℕ → List ℕ
all_wrote [] s = []
all_wrote (m ∷ calls) s = wrote m s ++ all_wrote calls (outcome_of m s).kept

-- ---- what an entry tells

-- its data, in the capture
abbrev pub data_in : List ℕ → Entry → List ℕ
data_in capture e = take e.count (drop e.place capture)

-- head byte (kind and length), status and data of a reply; head 15, status B0 and the 24 bytes of a reading
abbrev pub Tells : List ℕ → Entry → Said → Type 0
Tells capture e (Replied a) = (e.head ≡ a.kind * 16 + length a.body) × (e.status ≡ a.status) × (e.count ≡ length a.body) × (data_in capture e ≡ a.body)
Tells capture e (Measured sample) = (e.head ≡ 0x15) × (e.status ≡ 0xB0) × (e.count ≡ 24) × (data_in capture e ≡ sample)

-- one entry for each, in order
abbrev pub AllTell : List ℕ → List Entry → List Said → Type 0
AllTell capture [] [] = Unit {0}
AllTell capture [] (m ∷ said) = ⊥
AllTell capture (e ∷ es) [] = ⊥
AllTell capture (e ∷ es) (m ∷ said) = Tells capture e m × AllTell capture es said

-- nothing skipped, nothing unread, and the list tells all that was said
pub record ReadsBack (capture : List ℕ) (said : List Said) (z : ReadOutcome) : Type 0 where
  pub answered : z.answer ≡ record { result = 0; entries = length said; skipped = 0; unread = 0 }
  pub told : AllTell capture (entries_in (length said) z.list) said

-- Take any calls of a board, one after the other, from any record, and join all that they wrote: if that is at most 4,096 bytes, and the list has room, it is read back.
abbrev pub ReadBack : Type 0
ReadBack = (calls : List Made) (s list : List ℕ) → Bytes s → AllOfBytes calls → length (all_wrote calls s) ≤ 4096 → length (all_wrote calls s) / 4 ≤ length list / 4
    → ReadsBack (all_wrote calls s) (all_meant calls s) (read_call (all_wrote calls s) list)

-- ---- it says something

-- a factory board is opened, given a name of 15 letters and asked for it, and closed; then a reading is taken
abbrev pub full_name : List ℕ
full_name = 0x66 ∷ 0x69 ∷ 0x66 ∷ 0x74 ∷ 0x65 ∷ 0x65 ∷ 0x6E ∷ 0x20 ∷ 0x6C ∷ 0x65 ∷ 0x74 ∷ 0x74 ∷ 0x65 ∷ 0x72 ∷ 0x73 ∷ []

abbrev pub name_given : List ℕ
name_given = open_frame ++ (0xAA ∷ 0xAF ∷ 0xE9 ∷ full_name ++ (0x85 ∷ 0xAA ∷ 0xA0 ∷ 0xE8 ∷ 0x85 ∷ 0xAA ∷ 0xA0 ∷ 0xE1 ∷ 0x85 ∷ []))

abbrev pub visit : List Made
visit = record { name = BytesIn; lent = record { input = name_given; output = replicate 190 0x00 } } ∷ record { name = SamplesIn; lent = record { input = six_zeros; output = frame_room } } ∷ []

-- Four replies, the third of which is the full name, and a reading: 61 bytes.
pub record SomethingSaid : Type 0 where
  pub of_bytes : AllOfBytes visit
  pub said : length (all_meant visit ours) ≡ 5
  pub wrote : all_wrote visit ours
      ≡ 0xAA ∷ 0x62 ∷ 0x00 ∷ 0x00 ∷ 0x14 ∷ 0x85 ∷ 0xAA ∷ 0x60 ∷ 0x00 ∷ 0x85 ∷ 0xAA ∷ 0x6F ∷ 0x00 ∷ full_name ++ (0x85 ∷ 0xAA ∷ 0x60 ∷ 0x00 ∷ 0x85 ∷ 0xAA ∷ 0x15 ∷ 0xB0 ∷ six_zeros ++ (0x85 ∷ []))
