-- How a stream of bytes is cut into frames, broken heads, skipped bytes and waiting bytes, for any set of heads.
use Rattle.std.specs.Prelude.{ℕ, zero, suc, ◌+◌, ◌≤◌, ◌<◌, ◌≡◌, List, [], ◌∷◌, Bool, true, false, ◌||◌, length, get_or, take, drop, leb, eqb}
use Rattle.wire.specs.declared.Size.{Size}
use Rattle.wire.specs.declared.Size.TheVariants.{NoHead, NeedMore, Of}

-- a set of heads: the size that the front announces, and whether all the bytes of a candidate are a frame
pub record Heads : Type 0 where
  pub size : List ℕ → Size
  pub sound : List ℕ → Bool

-- what the hunt does at the front: pass one byte, wait, carry out a frame of 4 + n bytes, pass the AA of a broken one
pub data Look : Type 0 where
  Skip : Look
  Wait : Look
  Take : ℕ → Look
  Tear : Look

-- a candidate of 4 + n bytes: are all present, and are they a frame
abbrev pub settle : Bool → Bool → ℕ → Look
settle false s n = Wait
settle true true n = Take n
settle true false n = Tear

-- what the hunt does, by the size that the front announces
abbrev pub weigh : (List ℕ → Bool) → List ℕ → Size → Look
weigh sound l NoHead = Skip
weigh sound l NeedMore = Wait
weigh sound l (Of n) = settle (leb (4 + n) (length l)) (sound (take (4 + n) l)) n

unfoldable pub look : Heads → List ℕ → Look
look h l = weigh h.sound l (h.size l)

-- what a stream holds for the board: the bytes of a whole frame, or the head byte of a broken one
pub data Piece : Type 0 where
  Whole : List ℕ → Piece
  Broken : ℕ → Piece

-- how many bytes of a stream its frames take: each frame's own, and none for a broken head, whose AA is skipped
unfoldable pub sizes : List Piece → ℕ
sizes [] = 0
sizes (Whole f ∷ pieces) = length f + sizes pieces
sizes (Broken head ∷ pieces) = sizes pieces

-- every piece of a list has a property
unfoldable pub All : (Piece → Type 0) → List Piece → Type 0
All P [] = Unit {0}
All P (p ∷ pieces) = P p × All P pieces

-- a stream cut: its pieces in their order, how many bytes were skipped, what waits
pub record Cut : Type 0 where
  pub pieces : List Piece
  pub skipped : ℕ
  pub waiting : List ℕ

-- nothing but waiting bytes
abbrev pub stop : List ℕ → Cut
stop l = record { pieces = []; skipped = 0; waiting = l }

-- so many bytes skipped before a cut
abbrev pub skips : ℕ → Cut → Cut
skips k c = record { pieces = c.pieces; skipped = k + c.skipped; waiting = c.waiting }

abbrev pub skip_one : Cut → Cut
skip_one c = skips 1 c

-- a whole frame before a cut
abbrev pub take_one : List ℕ → Cut → Cut
take_one f c = record { pieces = Whole f ∷ c.pieces; skipped = c.skipped; waiting = c.waiting }

-- a broken head before a cut: its AA alone is skipped
abbrev pub tear_one : ℕ → Cut → Cut
tear_one h c = record { pieces = Broken h ∷ c.pieces; skipped = 1 + c.skipped; waiting = c.waiting }

-- one decision and what follows: `go k` is the hunt on the bytes behind the first, k more of them passed
abbrev pub onward : Look → List ℕ → (ℕ → Cut) → Cut
onward Skip l go = skip_one (go 0)
onward Wait l go = stop l
onward (Take n) l go = take_one (take (4 + n) l) (go (3 + n))
onward Tear l go = tear_one (get_or l 1 0) (go 0)

-- the hunt from the left, when the next k bytes belong to a frame that was carried out
unfoldable pub cut_from : Heads → ℕ → List ℕ → Cut
unfolding look
cut_from h k [] = stop []
cut_from h zero (x ∷ l) = onward (look h (x ∷ l)) (x ∷ l) (λ k. cut_from h k l)
cut_from h (suc k) (x ∷ l) = cut_from h k l

abbrev pub cut : Heads → List ℕ → Cut
cut h l = cut_from h 0 l

-- ---- the frames with their places

-- a whole frame, and where it begins
pub record Placed : Type 0 where
  pub at : ℕ
  pub frame : List ℕ

-- one decision and what follows, as `onward`, at a place
abbrev pub placed_on : Look → ℕ → List ℕ → (ℕ → List Placed) → List Placed
placed_on Skip at l go = go 0
placed_on Wait at l go = []
placed_on (Take n) at l go = record { at = at; frame = take (4 + n) l } ∷ go (3 + n)
placed_on Tear at l go = go 0

-- the frames that `cut_from` takes from a stream that begins at a place
unfoldable pub placed_from : Heads → ℕ → ℕ → List ℕ → List Placed
unfolding look
placed_from h at k [] = []
placed_from h at zero (x ∷ l) = placed_on (look h (x ∷ l)) at (x ∷ l) (λ k. placed_from h (at + 1) k l)
placed_from h at (suc k) (x ∷ l) = placed_from h (at + 1) k l

abbrev pub placed : Heads → List ℕ → List Placed
placed h l = placed_from h 0 0 l

-- ---- what may wait

-- the front waits
abbrev pub is_wait : Look → Bool
is_wait Skip = false
is_wait Wait = true
is_wait (Take n) = false
is_wait Tear = false

-- "such as the hunt can leave waiting": nothing, or a front that waits
unfoldable pub waits : Heads → List ℕ → Bool
unfolding look
waits h l = eqb (length l) 0 || is_wait (look h l)

-- something holds at each place of a stream from one up to another
pub record Stretch (l : List ℕ) (Is : ℕ → Type 0) (from at : ℕ) : Type 0 where
  pub after : from ≤ at
  pub inside : at ≤ length l
  pub each : (i : ℕ) → from ≤ i → i < at → Is i

-- every byte from one place up to another is skipped
abbrev pub Passed : Heads → List ℕ → ℕ → ℕ → Type 0
Passed h l from at = Stretch l (λ i. look h (drop i l) ≡ Skip) from at
