-- A hunt keeps the record in range, and what waits may become its pending bytes.
use Prim.Native.Nat.{ℕ}
use mathlib.Core.Path.{◌≡◌}
use mathlib.Core.List.{List, ◌++◌}
use mathlib.Core.Bool.{true}
use Rattle.wire.specs.Numbers.{Bytes}
use Rattle.wire.specs.Frames.{Heads, Piece, Whole, Broken, cut, waits}
use Rattle.wire.specs.Serial.{serial}
use Rattle.wire.specs.Replies.{Reply}
use Rattle.wire.specs.Run.{runs, hunt}
use Rattle.wire.proofs.NumberLaws.{bytes-append}
use Rattle.wire.proofs.CutLaws.{Fair, cut-waits, cut-bytes, pieces-fair}
use Rattle.wire.proofs.RunLaws.{runs-keep}
use Rattle.record.specs.Record.{Record, with_pending}
use Rattle.record.specs.Form.{InRange}
use Rattle.command.specs.Step.{on_piece}
use Rattle.command.proofs.Keep.{step_in}
use Rattle.command.specs.Hunt.{hunt_of, record_after}

answer-in : (r : Record) (p : Piece) → Fair p → InRange r → InRange (on_piece r p).state
answer-in r (Whole f) h i = step_in r f h.1 i
answer-in r (Broken head) h i = i

pub runs-in : (heads : Heads) (r : Record) (l : List ℕ) → Bytes l → InRange r → InRange (runs on_piece r (cut heads l).pieces).state
runs-in heads r l b i = runs-keep Record Reply heads on_piece InRange Fair answer-in r (cut heads l).pieces (pieces-fair heads l b) i

pending-in : (r : Record) (l : List ℕ) → waits serial l ≡ true → Bytes l → InRange r → InRange (with_pending r l)
unfolding with_pending
pending-in r l w b i = search

pub hunt-in : (r : Record) (input : List ℕ) → Bytes input → InRange r → InRange (record_after (hunt_of r input))
unfolding record_after hunt_of hunt
hunt-in r input b i =
    let l = r.pending ++ input in
    let bytes : Bytes l = bytes-append r.pending input i.pending_bytes b in
    pending-in (runs on_piece r (cut serial l).pieces).state (cut serial l).waiting (cut-waits serial l) (cut-bytes serial l bytes) (runs-in serial r l bytes i)
