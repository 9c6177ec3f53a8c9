-- What boards say, as a capture has it: replies of both kinds and measuring frames, and the entry of each.
use Rattle.std.specs.Prelude.{ℕ, zero, suc, ◌+◌, ◌-◌, ◌%◌, List, [], ◌∷◌, ◌++◌, Bool, cond, ◌&&◌, ◌||◌, length, get_or, drop, leb, eqb}
use Rattle.wire.specs.declared.Size.{Size}
use Rattle.wire.specs.declared.Size.TheVariants.{NoHead, Of}
use Rattle.wire.specs.Sizes.{data_most, six_values}
use Rattle.wire.specs.Frames.{Heads, Placed}
use Rattle.wire.specs.Serial.{Head, NotHead, Fixed, ByThird, fronted, ends_in_85, head_of, number_of}

-- "replies of both kinds (heads 5n and 6n)"
abbrev pub is_reply : ℕ → Bool
is_reply b = leb 0x50 b && leb b 0x6F

-- "Source document 000's long reply": the heads with n = 15
abbrev pub is_long : ℕ → Bool
is_long b = eqb b 0x5F || eqb b 0x6F

-- "with length 15 the data length is the status byte plus 15, up to 270"
abbrev pub long_by : ℕ → Size
long_by t = Of (t + data_most)

-- "measuring frames with head 15 and status B0"
abbrev pub measuring_by : ℕ → Size
measuring_by t = cond (eqb t 0xB0) (Of six_values) NoHead

-- what the byte behind the AA announces in a capture
abbrev pub reader_head : ℕ → Head
reader_head b = cond (eqb b 0x15) (ByThird measuring_by) (cond (is_long b) (ByThird long_by) (cond (is_reply b) (Fixed (b % 16)) NotHead))

-- the reader's set of heads
unfoldable pub reader : Heads
reader = fronted reader_head ends_in_85

-- ---- the entry of a frame

-- "each with its data": head byte, status, place of the first data byte in the capture, number of data bytes
pub record Entry : Type 0 where
  pub head : ℕ
  pub status : ℕ
  pub place : ℕ
  pub count : ℕ

-- "A reply of exactly 15 bytes, as a full name gives, has status 0 there": the third byte of a long reply belongs to its length
abbrev pub status_told : ℕ → ℕ → ℕ
status_told head third = cond (is_long head) 0 third

-- the entry of a frame that begins at a place
abbrev pub entry_of : Placed → Entry
entry_of p = record { head = head_of p.frame; status = status_told (head_of p.frame) (number_of p.frame); place = p.at + 3; count = length p.frame - 4 }

unfoldable pub entries_of : List Placed → List Entry
entries_of [] = []
entries_of (p ∷ ps) = entry_of p ∷ entries_of ps

-- ---- entries as numbers, four for each, one behind the other

abbrev pub entry_numbers : Entry → List ℕ
entry_numbers e = e.head ∷ e.status ∷ e.place ∷ e.count ∷ []

unfoldable pub list_of : List Entry → List ℕ
list_of [] = []
list_of (e ∷ es) = entry_numbers e ++ list_of es

-- the first n entries of a list of numbers
unfoldable pub entries_in : ℕ → List ℕ → List Entry
entries_in zero l = []
entries_in (suc n) l = record { head = get_or l 0 0; status = get_or l 1 0; place = get_or l 2 0; count = get_or l 3 0 } ∷ entries_in n (drop 4 l)
