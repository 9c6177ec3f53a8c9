-- Heads that the bytes behind the AA make known, and those of this board: 9n and An.
use Rattle.std.specs.Prelude.{ℕ, ◌-◌, ◌%◌, ◌≢◌, List, Bool, true, false, cond, ◌&&◌, length, get_or, take, drop, ltb, leb, eqb}
use Rattle.wire.specs.declared.Line.{Line}
use Rattle.wire.specs.declared.Line.TheVariants.{Board}
use Rattle.wire.specs.declared.Size.{Size}
use Rattle.wire.specs.declared.Size.TheVariants.{NoHead, NeedMore, Of}
use Rattle.wire.specs.Frames.{Heads, Look, Skip, Wait, Take, Tear, Stretch}

-- what the byte behind the AA announces: no frame, one of 4 + n bytes, or what the third byte says
pub data Head : Type 0 where
  NotHead : Head
  Fixed : ℕ → Head
  ByThird : (ℕ → Size) → Head

-- what a head says of the size: is there a third byte, and which
abbrev pub told : Head → Bool → ℕ → Size
told NotHead third t = NoHead
told (Fixed n) third t = Of n
told (ByThird says) false t = NeedMore
told (ByThird says) true t = says t

-- is the first byte AA, is there a second, what does its head say
abbrev pub front : Bool → Bool → Size → Size
front false second said = NoHead
front true false said = NeedMore
front true true said = said

-- the set of heads that the bytes behind the AA make known, with the test of a whole candidate
abbrev pub fronted : (ℕ → Head) → (List ℕ → Bool) → Heads
fronted head sound = record {
  size = λ l. front (eqb (get_or l 0 0) 0xAA) (ltb 1 (length l)) (told (head (get_or l 1 0)) (ltb 2 (length l)) (get_or l 2 0));
  sound = sound;
}

-- "The head is 9n for an amplifier command, An for a BT121 command, n = 0 to 15"
abbrev pub is_head : ℕ → Bool
is_head b = leb 0x90 b && leb b 0xAF

-- "Its size is 4 + n, at most 19": n is the low half of the head
abbrev pub serial_head : ℕ → Head
serial_head b = cond (is_head b) (Fixed (b % 16)) NotHead

-- "the last is 85"
abbrev pub ends_in_85 : List ℕ → Bool
ends_in_85 f = eqb (get_or f (length f - 1) 0) 0x85

-- the board's set of heads
unfoldable pub serial : Heads
serial = fronted serial_head ends_in_85

-- the heads of each line: what the byte behind the AA announces there, and the set that it makes
abbrev pub line_head : Line → ℕ → Head
line_head Board = serial_head

abbrev pub heads_of : Line → Heads
heads_of Board = serial

-- none of the bytes from one place up to another is AA
abbrev pub Noise : List ℕ → ℕ → ℕ → Type 0
Noise l from at = Stretch l (λ i. get_or l i 0 ≢ 0xAA) from at

-- The six lines of the hunt, as the page has them: is the first byte AA, is there a second, is it a head, are 4 + n bytes
-- present, is the last of them 85. That `look serial` is these lines is `looked` of demands/specs/AsListed.
abbrev pub six_lines : Bool → Bool → Bool → Bool → Bool → ℕ → Look
-- "A byte other than AA is skipped."
six_lines false second headed present ended n = Skip
-- "AA with nothing after it waits."
six_lines true false headed present ended n = Wait
-- "AA followed by a byte that is no 9n or An: the AA is skipped."
six_lines true true false present ended n = Skip
-- "A good head with fewer than 4 + n bytes present waits."
six_lines true true true false ended n = Wait
-- "All present and the last is 85: the frame is carried out and replied to, and the hunt goes on behind it."
six_lines true true true true true n = Take n
-- "All present and the last isn't 85: the AA is skipped without a reply, and the hunt goes on at the byte after that AA."
six_lines true true true true false n = Tear

-- "A frame is AA, a head byte, a number byte, n parameters, 85.": its parts
abbrev pub head_of : List ℕ → ℕ
head_of f = get_or f 1 0

abbrev pub number_of : List ℕ → ℕ
number_of f = get_or f 2 0

-- "the parameters are the n bytes after the command number"
abbrev pub params_of : List ℕ → List ℕ
params_of f = take (length f - 4) (drop 3 f)
