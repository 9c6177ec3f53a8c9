-- When a frame has the board compare a code, and which.
use Rattle.std.specs.Prelude.{ℕ, Bool, true, false, not, ◌&&◌, List, length, ltb}
use Rattle.wire.specs.Numbers.{word_at}
use Rattle.wire.specs.Serial.{head_of, number_of, params_of}
use Rattle.record.specs.Record.{Record}
use Rattle.command.specs.declared.Listed.{Listed}
use Rattle.command.specs.declared.Listed.TheVariants.{Built, NotBuilt, Unlisted}
use Rattle.command.specs.declared.Counted.{Counted}
use Rattle.command.specs.declared.Counted.TheVariants.{Right, Wrong}
use Rattle.command.specs.declared.Need.{Need}
use Rattle.command.specs.declared.Need.TheVariants.{Nothing, Opened, Closed, Unlocked, Code}
use Rattle.command.specs.Tables.{listed_of, counted_of, need_of}

abbrev pub is_right : Counted → Bool
is_right Right = true
is_right Wrong = false

-- the need of the unlock command alone
abbrev pub is_code : Need → Bool
is_code Nothing = false
is_code Opened = false
is_code Closed = false
is_code Unlocked = false
is_code Code = true

-- a built command with the right number of parameters that needs the code
abbrev pub unlocking : List ℕ → Listed → Bool
unlocking p (Built c) = is_right (counted_of c (length p)) && is_code (need_of c)
unlocking p NotBuilt = false
unlocking p Unlisted = false

-- Wrong is "Comparing the code when three tries are used, or while configuration mode is open.": a rightly built unlock command that comes while configuration mode is closed and fewer than three wrong tries are used
unfoldable pub compares : Record → List ℕ → Bool
unfolding listed_of counted_of need_of
compares r f = unlocking (params_of f) (listed_of (head_of f) (number_of f)) && not r.flags.opened && ltb r.tries 3

-- the code that such a frame carries
abbrev pub code_in : List ℕ → ℕ
code_in f = word_at (params_of f) 0
