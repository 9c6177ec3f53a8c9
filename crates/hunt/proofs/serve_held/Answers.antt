-- `serve_held`: the hunt through the join and the hunt through the input are the hunt through both.
use native.Mathlib.Omega.{arith}
use mathlib.Core.Path.{refl}
use Rattle.record.specs.Layout.{pending_room, at_pending_length}
use Rattle.record.proofs.InPlaceLaws.{here-pending}
use Rattle.wire.proofs.SerialLaws.{serial-huntable}
use Rattle.hunt.proofs.GoingLaws.{going-sound}
use Rattle.hunt.proofs.ServeLaws.{serves-board}
use Rattle.hunt.proofs.JoinLaws.{joined, first-asks, serves-first, serves-second}
use Rattle.hunt.proofs.serve_held.Goals as goal

pub set_pending-requires : goal.set_pending-requires
set_pending-requires c =
    let q = first-asks (joined c.requires.sound c.requires.held_value c.join-total.ensures) c.hunt_in-first.ensures serial-huntable c.if-at-held.true in
    record { sound_pending = q.0; p_len_bound = q.1.0; le_room = q.1.1 }

pub returns-then-at-held : goal.returns-then-at-held
returns-then-at-held c =
    let j = joined c.requires.sound c.requires.held_value c.join-total.ensures in
    serves-board (serves-first j c.hunt_in-first.ensures serial-huntable c.if-at-held.true (here-pending at_pending_length pending_room _ _ _ refl refl c.set_pending.ensures))

pub hunt_rest-rest-requires-clause-sound : goal.hunt_rest-rest-requires-clause-sound
hunt_rest-rest-requires-clause-sound c = going-sound c.hunt_in-first.ensures.going

pub returns : goal.returns
returns c =
    let j = joined c.requires.sound c.requires.held_value c.join-total.ensures in
    serves-board (serves-second j c.hunt_in-first.ensures (omega (arith, c.if-at-held.false)) c.requires.input_in_bounds serial-huntable c.hunt_rest-rest.ensures)
