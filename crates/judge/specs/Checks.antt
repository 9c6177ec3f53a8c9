-- Inner contract: what the checks of an entry read and say.
use Rattle.std.specs.Prelude.{ℕ, ◌≡◌, true, List, length, Result, Ok, Err, ⊤}
use Rattle.record.specs.Record.{Record}
use Rattle.command.specs.declared.Need.{Need}
use Rattle.command.specs.declared.Need.TheVariants.{Nothing, Opened, Closed, Unlocked, Code}
use Rattle.command.specs.declared.Counted.{Counted}
use Rattle.command.specs.declared.Counted.TheVariants.{Right, Wrong}
use Rattle.command.specs.declared.Access.{Access}
use Rattle.command.specs.declared.Access.TheVariants.{Given, Missing, WrongCode}
use Rattle.command.specs.declared.Refusal.{Refusal}
use Rattle.command.specs.declared.Refusal.TheVariants.{Unknown, Unbuilt, Miscounted, NoAccess, BadCode}
use Rattle.command.specs.Tables.{counted_in}
use Rattle.command.specs.Entries.{Entry, SaysUnknown, SaysNotBuilt, Asks, is_tidy, rows_say, unpacked}
use Rattle.command.specs.Judge.{access_of}

-- so many parameters does the check of a need read
abbrev pub asks : Need → ℕ
asks Nothing = 0
asks Opened = 0
asks Closed = 0
asks Unlocked = 0
asks Code = 4

-- a tidy entry that says what the rows say of some number under some head
abbrev pub Known : ℕ → Type 0
Known e = (is_tidy e ≡ true) × ((head : ℕ) × (number : ℕ) × (unpacked e ≡ rows_say head number))

abbrev pub judged_count : Counted → Result ⊤ Refusal → Result ⊤ Refusal
judged_count Wrong next = Err Miscounted
judged_count Right next = next

abbrev pub judged_access : Access → Result ⊤ Refusal
judged_access Missing = Err NoAccess
judged_access WrongCode = Err BadCode
judged_access Given = Ok tt

-- the first check that does not pass, of those that an entry decides
unfoldable pub judged_by : Entry → Record → List ℕ → Result ⊤ Refusal
judged_by SaysUnknown r p = Err Unknown
judged_by SaysNotBuilt r p = Err Unbuilt
judged_by (Asks need span) r p = judged_count (counted_in span (length p)) (judged_access (access_of need r p))
