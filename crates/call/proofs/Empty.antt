-- An empty input that passes the checks is done: zero counts, and record and output as they were.
use Prim.Native.Nat.{ℕ, ◌+◌, ◌≤◌}
use mathlib.Core.Path.{◌≡◌, refl, ap, ◌∙◌}
use mathlib.Core.Bool.{true}
use mathlib.Core.List.{List, [], append-nil}
use lib.ListN.{length}
use borrow.Author.Tests.{le-ltb}
use Rattle.wire.specs.Sizes.{wait_most}
use Rattle.wire.specs.Numbers.{Bytes}
use Rattle.wire.specs.Serial.{serial}
use Rattle.wire.specs.Replies.{replies_bytes}
use Rattle.wire.specs.Run.{runs, run_cut, hunt}
use Rattle.wire.proofs.CutLaws.{waits-cut}
use Rattle.wire.proofs.PutLaws.{put-nil}
use Rattle.record.specs.Record.{Record, with_pending}
use Rattle.record.specs.Layout.{record_of}
use Rattle.record.specs.Form.{InRange, well_formed}
use Rattle.record.proofs.RoundTrip.{in-range, write-back}
use Rattle.command.specs.Step.{on_piece}
use Rattle.command.specs.Hunt.{hunt_of, record_after, room_for}
use Rattle.call.specs.Outcome.{counts}
use Rattle.call.specs.Calls.{bytes_call}
use Rattle.call.proofs.Unfolded.{bytes-by}
use Rattle.call.proofs.Ends.{form-good}

-- nothing new: what waited waits
idle : (r : Record) → InRange r → hunt_of r [] ≡ record { state = r; said = []; skipped = 0; waiting = r.pending }
unfolding hunt_of hunt runs
idle r i = rw (append-nil r.pending) (ap (run_cut on_piece r) (waits-cut serial r.pending i.pending))

kept-is : (r : Record) → record_after (record { state = r; said = []; skipped = 0; waiting = r.pending }) ≡ r
unfolding record_after with_pending
kept-is r = refl

nothing_written : replies_bytes [] ≡ []
unfolding replies_bytes
nothing_written = refl

pub empty-input : (s o : List ℕ) → Bytes s → well_formed s ≡ true → room_for (length (record_of s).pending + 0) ≤ length o → bytes_call s [] o ≡ record { answer = counts 0 0; kept = s; output = o }
empty-input s o b w room =
    bytes-by s [] o
    ∙ rw (form-good s w, le-ltb (length o) (room_for (length (record_of s).pending + 0)) room, idle (record_of s) (in-range s b w), kept-is (record_of s), nothing_written, write-back s b w, put-nil o 0) refl

-- "(76 bytes of room with 18 pending)"
pub idle_room : room_for wait_most ≡ 76
idle_room = refl
