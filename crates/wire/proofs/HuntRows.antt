-- The rows of the hunt come out.
use mathlib.Core.Path.{refl}
use Rattle.wire.specs.Frames.{cut_from}
use Rattle.wire.specs.Serial.{serial}
use Rattle.wire.specs.HuntRows.{rows, CutsHold}

pub rows-hold : CutsHold rows
unfolding cut_from serial
rows-hold = (refl, (refl, (refl, tt)))
