-- The room that result 3 asks for is enough for all replies of a call.
use Prim.Native.Nat.{ℕ, ◌+◌, ◌*◌, ◌≤◌}
use mathlib.Core.Path.{◌≡◌, refl}
use mathlib.Core.List.{List, [], ◌∷◌, ◌++◌}
use native.Mathlib.Omega.{arith}
use lib.ListN.{length, length-append}
use Rattle.wire.specs.Sizes.{frame_most, stream_most}
use Rattle.wire.specs.Numbers.{Bytes}
use Rattle.wire.specs.Frames.{Heads, Piece, Whole, Broken, sizes, All, cut}
use Rattle.wire.specs.Serial.{serial}
use Rattle.wire.specs.Replies.{replies_bytes}
use Rattle.wire.specs.Run.{runs, hunt}
use Rattle.wire.proofs.NumberLaws.{bytes-append}
use Rattle.wire.proofs.CutLaws.{Fair, frames, conserved, pieces-fair}
use Rattle.wire.proofs.ReplyLaws.{reply-bounds, length_none, length-cons}
use Rattle.record.specs.Record.{Record}
use Rattle.record.specs.Form.{InRange}
use Rattle.command.specs.Step.{step_of, on_piece}
use Rattle.command.proofs.Keep.{step_in, reply-short}
use Rattle.command.specs.Hunt.{hunt_of, room_for}

-- each frame has at least four bytes
four : (ps : List Piece) → All Fair ps → 4 * frames ps ≤ sizes ps
unfolding All frames sizes
four [] f = omega arith
four (Whole f ∷ ps) h = omega (arith, four ps h.1, h.0.0)
four (Broken head ∷ ps) h = four ps h.1

-- and at most nineteen of reply
nineteen : (r : Record) (ps : List Piece) → All Fair ps → InRange r → length (replies_bytes (runs on_piece r ps).said) ≤ frame_most * frames ps
unfolding All frames runs
nineteen r [] f i = omega (arith, length_none)
nineteen r (Whole f ∷ ps) h i =
    let b = reply-bounds (step_of r f).reply (reply-short r f i) in
    let more = nineteen (step_of r f).after ps h.1 (step_in r f h.0.1 i) in
    rw (length-cons (step_of r f).reply (runs on_piece (step_of r f).after ps).said) (omega (arith, b.1, more))
nineteen r (Broken head ∷ ps) h i = nineteen r ps h.1 i

pub hunt-fits : (heads : Heads) (r : Record) (l : List ℕ) → Bytes l → InRange r → length (replies_bytes (hunt heads on_piece r l).said) ≤ room_for (length l)
unfolding hunt
hunt-fits heads r l b i =
    let fair = pieces-fair heads l b in
    omega (arith, nineteen r (cut heads l).pieces fair i, four (cut heads l).pieces fair, conserved heads l)

pub room-enough : (r : Record) (input : List ℕ) → Bytes input → InRange r → length (replies_bytes (hunt_of r input).said) ≤ room_for (length r.pending + length input)
unfolding hunt_of
room-enough r input b i = rw (← length-append r.pending input) (hunt-fits serial r (r.pending ++ input) (bytes-append r.pending input i.pending_bytes b) i)

-- "So 4,096 bytes with 18 pending need 19,532 bytes of room."
pub most-room : room_for stream_most ≡ 19532
most-room = refl
