-- Demand 2 shuts out five wrong kinds of board.
-- "Demand 2 shuts out a board that refuses everything, one that sends AA 50 00 85 to all, one that does nothing, one that carries out the first frame of a stream and only replies to the rest, and one that invents the skipped count."
use Rattle.std.specs.Prelude.{ℕ, ◌≡◌, ◌≢◌, List, [], ◌∷◌, ◌++◌, get_or, take}
use Rattle.wire.specs.Frames.{Whole, cut}
use Rattle.wire.specs.Serial.{serial}
use Rattle.record.specs.Layout.{record_of}
use Rattle.call.specs.Outcome.{Outcome, Allows}
use Rattle.call.specs.Calls.{bytes_call}

-- whatever takes a record, an input and an output buffer and leaves an outcome
abbrev pub Board : Type 0
Board = List ℕ → List ℕ → List ℕ → Outcome

-- the bytes f are one whole frame
abbrev pub OneFrame : List ℕ → Type 0
OneFrame f = cut serial f ≡ record { pieces = Whole f ∷ []; skipped = 0; waiting = [] }

module _ (b : Board) where
  -- its outcomes are such as the contract of the bytes call allows
  abbrev pub Meets : Type 0
  Meets = (s input o : List ℕ) → Allows (bytes_call s input o) (b s input o)

  -- it refuses no call that the contract lets through
  abbrev pub Works : Type 0
  Works = (s input o : List ℕ) → (bytes_call s input o).answer.result ≡ 0 → (b s input o).answer.result ≡ 0

  -- a call that is done and holds one frame, on a record without pending bytes, gets a status other than 00
  abbrev pub RefusesAll : Type 0
  RefusesAll = (s f o : List ℕ) → OneFrame f → (record_of s).pending ≡ [] → (b s f o).answer.result ≡ 0 → get_or (b s f o).output 2 0 ≢ 0x00

  -- it says AA 50 00 85 to every frame
  abbrev pub SaysDone : Type 0
  SaysDone = (s f o : List ℕ) → OneFrame f → (record_of s).pending ≡ [] → (b s f o).answer.result ≡ 0
      → take (b s f o).answer.written (b s f o).output ≡ 0xAA ∷ 0x50 ∷ 0x00 ∷ 0x85 ∷ []

  -- it leaves every setting as it was (so does a board that does nothing at all)
  abbrev pub DoesNothing : Type 0
  DoesNothing = (s input o : List ℕ) → (record_of (b s input o).kept).settings ≡ (record_of s).settings

  -- it carries out a frame that comes alone
  abbrev pub Starts : Type 0
  Starts = (s f o : List ℕ) → OneFrame f → (record_of s).pending ≡ [] → (b s f o).kept ≡ (bytes_call s f o).kept

  -- a second frame, replied to or not, changes nothing more
  abbrev pub FirstOnly : Type 0
  FirstOnly = (s f g o : List ℕ) → OneFrame f → OneFrame g → (record_of s).pending ≡ [] → (b s f o).answer.result ≡ 0 → (b s (f ++ g) o).answer.result ≡ 0 → (b s (f ++ g) o).kept ≡ (b s f o).kept

  -- a call that is done may give a skipped count that is not the cut's
  abbrev pub InventsCount : Type 0
  InventsCount = (s input o : List ℕ) × ((b s input o).answer.result ≡ 0) × ((b s input o).answer.skipped ≢ (cut serial ((record_of s).pending ++ input)).skipped)

  -- None of them meets the contract.
  pub record ShutOut : Type 0 where
    pub refuser : ¬ RefusesAll
    pub sayer : ¬ SaysDone
    pub idler : ¬ DoesNothing
    pub starter : ¬ FirstOnly
    pub inventor : ¬ InventsCount

abbrev pub WrongShutOut : Type 0
WrongShutOut = (b : Board) → Meets b → ShutOut b

-- Each of the five kinds has a board, and one that refuses no call which the contract lets through; the starter carries out a frame that comes alone.
pub record KindsExist : Type 0 where
  pub refuser : (b : Board) × Works b × RefusesAll b
  pub sayer : (b : Board) × Works b × SaysDone b
  pub idler : (b : Board) × Works b × DoesNothing b
  pub starter : (b : Board) × Works b × Starts b × FirstOnly b
  pub inventor : (b : Board) × Works b × InventsCount b
