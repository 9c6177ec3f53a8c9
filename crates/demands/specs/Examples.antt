-- "The starred examples are one table under one statement": the worked examples that are proved.
use Rattle.std.specs.Prelude.{ℕ, ◌≡◌, true, false, List, [], ◌∷◌, ◌++◌, length, take, replicate, ℤ, pos, negsuc}
use Rattle.wire.specs.Numbers.{signed16}
use Rattle.record.specs.Layout.{bytes_of, record_of}
use Rattle.record.specs.Births.{factory}
use Rattle.call.specs.Outcome.{Outcome}
use Rattle.call.specs.Calls.{bytes_call}

-- what a row says of the board afterwards
pub data Fact : Type 0 where
  NoFact : Fact
  SendingOff : Fact
  Power : ℤ → Fact
  NowUnlocked : Fact
  Tries : ℕ → Fact
  Skipped : ℕ → Fact
  Pending : ℕ → Fact

pub record Example : Type 0 where
  pub input : List ℕ
  pub replies : List ℕ
  pub fact : Fact

-- E0, and its reply
abbrev pub open_frame : List ℕ
open_frame = 0xAA ∷ 0xA0 ∷ 0xE0 ∷ 0x85 ∷ []

abbrev pub open_reply : List ℕ
open_reply = 0xAA ∷ 0x62 ∷ 0x00 ∷ 0x00 ∷ 0x14 ∷ 0x85 ∷ []

-- the factory code, and three others: wrong in the first byte, back to front, wrong in the last byte
abbrev pub right_code : List ℕ
right_code = 0xAA ∷ 0x94 ∷ 0x19 ∷ 0x55 ∷ 0x53 ∷ 0x43 ∷ 0x31 ∷ 0x85 ∷ []

abbrev pub wrong_codes : List ℕ
wrong_codes =
    0xAA ∷ 0x94 ∷ 0x19 ∷ 0x54 ∷ 0x53 ∷ 0x43 ∷ 0x31 ∷ 0x85
    ∷ 0xAA ∷ 0x94 ∷ 0x19 ∷ 0x31 ∷ 0x43 ∷ 0x53 ∷ 0x55 ∷ 0x85
    ∷ 0xAA ∷ 0x94 ∷ 0x19 ∷ 0x55 ∷ 0x53 ∷ 0x43 ∷ 0x32 ∷ 0x85
    ∷ []

-- 62 to an amplifier command
abbrev pub denied : List ℕ
denied = 0xAA ∷ 0x50 ∷ 0x62 ∷ 0x85 ∷ []

abbrev pub example : List ℕ → List ℕ → Fact → Example
example input replies fact = record { input = input; replies = replies; fact = fact }

-- "From a factory record; 'open' means after E0. Starred ones are the proved set.": in an open row E0 and its reply come first
abbrev pub starred : List Example
starred =
    example (0xAA ∷ 0x90 ∷ 0x23 ∷ 0x85 ∷ []) (0xAA ∷ 0x50 ∷ 0x00 ∷ 0x85 ∷ []) SendingOff
    ∷ example (0xAA ∷ 0xA0 ∷ 0xED ∷ 0x85 ∷ []) (0xAA ∷ 0x60 ∷ 0x62 ∷ 0x85 ∷ []) NoFact
    ∷ example (open_frame ++ (0xAA ∷ 0xA2 ∷ 0xE3 ∷ 0x00 ∷ 0x0C ∷ 0x85 ∷ [])) (open_reply ++ (0xAA ∷ 0x60 ∷ 0x00 ∷ 0x85 ∷ [])) (Power (pos 12))
    ∷ example (open_frame ++ (0xAA ∷ 0xA2 ∷ 0xE3 ∷ 0x00 ∷ 0x0D ∷ 0x85 ∷ [])) (open_reply ++ (0xAA ∷ 0x60 ∷ 0x54 ∷ 0x85 ∷ [])) NoFact
    ∷ example (open_frame ++ (0xAA ∷ 0xA2 ∷ 0xE3 ∷ 0xFF ∷ 0xEC ∷ 0x85 ∷ [])) (open_reply ++ (0xAA ∷ 0x60 ∷ 0x00 ∷ 0x85 ∷ [])) (Power (negsuc 19))
    ∷ example (open_frame ++ (0xAA ∷ 0xA2 ∷ 0xE3 ∷ 0xFF ∷ 0xEB ∷ 0x85 ∷ [])) (open_reply ++ (0xAA ∷ 0x60 ∷ 0x55 ∷ 0x85 ∷ [])) NoFact
    ∷ example (open_frame ++ (0xAA ∷ 0xA2 ∷ 0xE3 ∷ 0x01 ∷ 0x00 ∷ 0x85 ∷ [])) (open_reply ++ (0xAA ∷ 0x60 ∷ 0x54 ∷ 0x85 ∷ [])) NoFact
    ∷ example (open_frame ++ (0xAA ∷ 0xA1 ∷ 0xE2 ∷ 0x0C ∷ 0x85 ∷ [])) (open_reply ++ (0xAA ∷ 0x60 ∷ 0x5B ∷ 0x85 ∷ [])) NoFact
    ∷ example (open_frame ++ (0xAA ∷ 0xA2 ∷ 0xEB ∷ 0x01 ∷ 0x02 ∷ 0x85 ∷ [])) (open_reply ++ (0xAA ∷ 0x60 ∷ 0x55 ∷ 0x85 ∷ [])) NoFact
    ∷ example right_code (0xAA ∷ 0x50 ∷ 0x00 ∷ 0x85 ∷ []) NowUnlocked
    ∷ example (wrong_codes ++ right_code) (denied ++ (denied ++ (denied ++ denied))) (Tries 3)
    ∷ example (0xAA ∷ 0xA4 ∷ 0xAA ∷ 0x90 ∷ 0x23 ∷ 0x85 ∷ 0x00 ∷ 0x00 ∷ []) (0xAA ∷ 0x50 ∷ 0x00 ∷ 0x85 ∷ []) (Skipped 4)
    ∷ example (0xAA ∷ 0xAA ∷ 0x90 ∷ 0x23 ∷ 0x85 ∷ []) [] (Pending 5)
    ∷ []

-- the bytes call on the factory record, with room for all of these replies
abbrev pub run : List ℕ → Outcome
run input = bytes_call (bytes_of factory) input (replicate 190 0)

-- what a fact says of the outcome
abbrev pub Says : Fact → Outcome → Type 0
Says NoFact z = Unit {0}
Says SendingOff z = (record_of z.kept).flags.sending ≡ false
Says (Power v) z = signed16 (record_of z.kept).settings.power ≡ v
Says NowUnlocked z = (record_of z.kept).flags.unlocked ≡ true
Says (Tries n) z = (record_of z.kept).tries ≡ n
Says (Skipped n) z = z.answer.skipped ≡ n
Says (Pending n) z = length (record_of z.kept).pending ≡ n

-- every row: the call is done, the replies are those of the row, and its fact is true
abbrev pub ExamplesHold : List Example → Type 0
ExamplesHold [] = Unit {0}
ExamplesHold (e ∷ es) =
    (((run e.input).answer.result ≡ 0) × (take (run e.input).answer.written (run e.input).output ≡ e.replies) × Says e.fact (run e.input)) × ExamplesHold es
