-- The board's hunt: the pending bytes and the input, cut by 9n and An, each frame carried out on the record that the one before it left.
use Rattle.std.specs.Prelude.{ℕ, ◌*◌, ◌/◌, List, ◌++◌}
use Rattle.wire.specs.Sizes.{frame_most}
use Rattle.wire.specs.Serial.{serial}
use Rattle.wire.specs.Replies.{Reply}
use Rattle.wire.specs.Run.{Hunted, hunt}
use Rattle.record.specs.Record.{Record, with_pending}
use Rattle.command.specs.Step.{step_of, on_piece}

-- the hunt of a board through a stream
abbrev pub hunt_from : Record → List ℕ → Hunted Record Reply
hunt_from r l = hunt serial on_piece r l

-- "The bytes call joins the pending bytes of the record and its input, and hunts from the left (*house*)"
unfoldable pub hunt_of : Record → List ℕ → Hunted Record Reply
unfolding serial hunt step_of
hunt_of r input = hunt_from r (r.pending ++ input)

-- "Waiting bytes (at most 18) become the new pending bytes."
unfoldable pub record_after : Hunted Record Reply → Record
unfolding with_pending
record_after h = with_pending h.state h.waiting

-- "19 times the whole part of (pending + input) / 4": the room for the replies to so many bytes
abbrev pub room_for : ℕ → ℕ
room_for n = frame_most * (n / 4)
