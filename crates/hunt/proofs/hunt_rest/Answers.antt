-- `hunt_rest`: what waits behind the hunt becomes the pending bytes.
use mathlib.Core.Path.{refl}
use Rattle.wire.proofs.SerialLaws.{huntable}
use Rattle.record.specs.Layout.{pending_room, at_pending_length}
use Rattle.record.proofs.InPlaceLaws.{here-pending}
use Rattle.hunt.proofs.JoinLaws.{rests-ask, rests}
use Rattle.hunt.proofs.hunt_rest.Goals as goal

pub set_pending-requires : goal.set_pending-requires
set_pending-requires c =
    let q = rests-ask c.hunt_in-p.ensures (huntable c.args.line) in
    record { sound_pending = q.0; p_len_bound = q.1.0; le_room = q.1.1 }

pub returns : goal.returns
returns c = rests c.hunt_in-p.ensures (here-pending at_pending_length pending_room _ _ _ refl refl c.set_pending.ensures)
