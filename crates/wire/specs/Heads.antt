-- Inner contract: what the byte behind the AA announces by itself, if it is a head of a frame.
use Rattle.std.specs.Prelude.{ℕ, Option, Some, None}
use Rattle.wire.specs.Serial.{Head, NotHead, Fixed, ByThird, line_head}
use Rattle.wire.specs.declared.Line.{Line}

abbrev pub announced_by : Head → Option ℕ
announced_by NotHead = None
announced_by (Fixed n) = Some n
-- no line of commands has such a head
announced_by (ByThird says) = None

abbrev pub announced_of : Line → ℕ → Option ℕ
announced_of k b = announced_by (line_head k b)
