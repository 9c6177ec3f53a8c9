-- The pieces of a stream answered one after the other, for any kind of state and answer.
use Rattle.std.specs.Prelude.{ℕ, ◌+◌, ◌≤◌, ◌≡◌, List, [], ◌∷◌, ◌++◌, length, drop}
use Rattle.wire.specs.Frames.{Heads, Piece, Cut, cut_from, cut}

-- a state, and what was said on the way to it
pub record Run (S A : Type 0) : Type 0 where
  pub state : S
  pub said : List A

-- each piece is answered in the state that the one before it left
unfoldable pub runs : {S A : Type 0} → (S → Piece → Run S A) → S → List Piece → Run S A
runs answer s [] = record { state = s; said = [] }
runs answer s (p ∷ ps) = record { state = (runs answer (answer s p).state ps).state; said = (answer s p).said ++ (runs answer (answer s p).state ps).said }

-- the whole of a hunt: the run, the bytes skipped, the bytes that wait
pub record Hunted (S A : Type 0) : Type 0 where
  pub state : S
  pub said : List A
  pub skipped : ℕ
  pub waiting : List ℕ

abbrev pub run_cut : {S A : Type 0} → (S → Piece → Run S A) → S → Cut → Hunted S A
run_cut answer s c = record { state = (runs answer s c.pieces).state; said = (runs answer s c.pieces).said; skipped = c.skipped; waiting = c.waiting }

unfoldable pub hunt : {S A : Type 0} → Heads → (S → Piece → Run S A) → S → List ℕ → Hunted S A
unfolding runs cut_from
hunt heads answer s l = run_cut answer s (cut heads l)

-- a hunt that stops at once, and one with something said and skipped before it
abbrev pub halt : {S A : Type 0} → S → List ℕ → Hunted S A
halt s l = record { state = s; said = []; skipped = 0; waiting = l }

abbrev pub ahead : {S A : Type 0} → List A → ℕ → Hunted S A → Hunted S A
ahead said k h = record { state = h.state; said = said ++ h.said; skipped = k + h.skipped; waiting = h.waiting }

-- a hunt on its way through a stream: it stands at a place in this state, so many bytes skipped, this said,
-- and the hunt from there on is all that is left of the whole
pub record Along {S A : Type 0} (heads : Heads) (answer : S → Piece → Run S A) (s : S) (l : List ℕ) (b : S) (at skipped : ℕ) (said : List A) : Type 0 where
  pub within : at ≤ length l
  pub few : skipped ≤ at
  pub hunts : hunt heads answer s l ≡ ahead said skipped (hunt heads answer b (drop at l))
