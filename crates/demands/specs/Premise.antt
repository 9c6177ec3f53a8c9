-- Two boards that differ in nothing but perhaps the unlock code, and when a stream carries neither code.
-- "Demand 3 alone would admit some of these, so it is stated over demand 2's definitions.": over `on_piece`, `listed_of` and `counted_of`.
use Rattle.std.specs.Prelude.{ℕ, ◌+◌, ◌≤◌, ◌<◌, ◌≡◌, ◌↔◌, ◌≢◌, true, false, List, [], ◌∷◌, length, get_or}
use Rattle.wire.specs.Frames.{Piece, Whole, Broken}
use Rattle.wire.specs.Serial.{head_of, number_of, params_of}
use Rattle.record.specs.Record.{Record, with_code}
use Rattle.record.specs.Layout.{at_code}
use Rattle.command.specs.declared.Listed.TheVariants.{Built}
use Rattle.command.specs.declared.Counted.TheVariants.{Right}
use Rattle.command.specs.declared.Command.TheVariants.{Unlock}
use Rattle.command.specs.Tables.{listed_of, counted_of}
use Rattle.command.specs.Step.{on_piece}
use Rattle.command.specs.Compare.{compares, code_in}
use Rattle.call.specs.Outcome.{Outcome}

-- two records, well formed or not: as long, and the same at every place but 5 to 8, where the code stands
pub record SameButCode (s t : List ℕ) : Type 0 where
  pub long : length s ≡ length t
  pub before : (i : ℕ) → i < at_code → get_or s i 0 ≡ get_or t i 0
  pub behind : (i : ℕ) → at_code + 4 ≤ i → get_or s i 0 ≡ get_or t i 0

-- the same answer and the same output bytes, and records that differ in nothing but perhaps the code; "Demand 3 counts the place among the results.": it stands in the answer
abbrev pub Alike : Outcome → Outcome → Type 0
Alike z w = (z.answer ≡ w.answer) × (z.output ≡ w.output) × SameButCode z.kept w.kept

-- "compared": a rightly built unlock command, configuration mode closed, fewer than three wrong tries used; another code makes no difference to it
pub record ComparedExactly : Type 0 where
  pub exactly : (r : Record) (f : List ℕ)
      → (compares r f ≡ true) ↔ ((listed_of (head_of f) (number_of f) ≡ Built Unlock) × (counted_of Unlock (length (params_of f)) ≡ Right) × (r.flags.opened ≡ false) × (r.tries < 3))
  pub any_code : (r : Record) (k : ℕ) (f : List ℕ) → compares (with_code r k) f ≡ compares r f

-- a piece that is compared carries the code of neither board
abbrev pub QuietPiece : Record → Record → Piece → Type 0
QuietPiece r q (Whole f) = compares r f ≡ true → (code_in f ≢ r.code) × (code_in f ≢ q.code)
QuietPiece r q (Broken head) = Unit {0}

-- and so on, each board in the state that the piece before it left
abbrev pub QuietRun : Record → Record → List Piece → Type 0
QuietRun r q [] = Unit {0}
QuietRun r q (p ∷ ps) = QuietPiece r q p × QuietRun (on_piece r p).state (on_piece q p).state ps
