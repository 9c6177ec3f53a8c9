-- Each layout meets what is asked of it, by computing.
use Prim.Native.Nat.{◌%◌}
use mathlib.Core.Path.{refl}
use mathlib.Core.Bool.{cond, ◌&&◌}
use native.Mathlib.Omega.{arith}
use lib.Dec.{leb}
use Rattle.wire.specs.Sizes.{frame_most}
use Rattle.wire.specs.Serial.{Fixed, NotHead, ends_in_85}
use Rattle.wire.proofs.CutLaws.{Under, waits-short}
use Rattle.wire.proofs.SerialLaws.{fronted-under, low_half, pending-short}
use Rattle.record.specs.Layout.{current, plan1, plan2, plan3, seat_heads, seat}
use Rattle.record.specs.Laid.{Laid}

pub laid1 : Laid plan1
laid1 = record { apart = refl; core = refl; radio = refl; size = omega arith; version = omega arith; room = omega arith; filters = omega arith; short = pending-short }

pub laid2 : Laid plan2
laid2 = record { apart = refl; core = refl; radio = refl; size = omega arith; version = omega arith; room = omega arith; filters = omega arith; short = λ l t. omega (arith, pending-short l t) }

pub laid3 : Laid plan3
laid3 = record { apart = refl; core = refl; radio = refl; size = omega arith; version = omega arith; room = omega arith; filters = omega arith; short = λ l t. omega (arith, pending-short l t) }

seat-under : Under seat_heads frame_most
unfolding seat_heads
seat-under = fronted-under (λ b. cond (leb 0x90 b && leb b 0x9F) (Fixed (b % 16)) NotHead) ends_in_85 frame_most (λ b. low_half (leb 0x90 b && leb b 0x9F) b) (omega arith)

pub laid-seat : Laid seat
laid-seat = record { apart = refl; core = refl; radio = refl; size = omega arith; version = omega arith; room = omega arith; filters = omega arith; short = λ l t. omega (arith, waits-short seat_heads frame_most seat-under l t) }

-- of the version that all calls take
pub laid : Laid current
laid = laid1
