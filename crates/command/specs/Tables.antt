-- Which number is which command, and the columns of its row that the checks go by.
use Rattle.std.specs.Prelude.{ℕ, ◌/◌, ◌≡◌, Bool, true, false, cond, ◌&&◌, List, [], ◌∷◌, ◌++◌, leb, eqb}
use Rattle.wire.specs.declared.Range.{Range}
use Rattle.record.specs.Limits.{name_range}
use Rattle.record.specs.Layout.{Plan, current}
use Rattle.command.specs.declared.Command.{Command}
use Rattle.command.specs.declared.Listed.{Listed}
use Rattle.command.specs.declared.Listed.TheVariants.{Built, NotBuilt, Unlisted}
use Rattle.command.specs.declared.Counted.{Counted}
use Rattle.command.specs.declared.Counted.TheVariants.{Right, Wrong}
use Rattle.command.specs.declared.Need.{Need}
use Rattle.command.specs.Rows.{Span, row_of, radio_commands, amplifier_commands}

-- ---- which number is which command

pub record CommandRow : Type 0 where
  pub number : ℕ
  pub listed : Listed

-- each command under the number of its row
abbrev pub built : List Command → List CommandRow
built [] = []
built (c ∷ cs) = record { number = (row_of c).number; listed = Built c } ∷ built cs

abbrev pub unbuilt : List ℕ → List CommandRow
unbuilt [] = []
unbuilt (n ∷ ns) = record { number = n; listed = NotBuilt } ∷ unbuilt ns

-- "Known but not built: EA, EC, EF."
abbrev pub bt121 : List CommandRow
bt121 = built radio_commands ++ unbuilt (0xEA ∷ 0xEC ∷ 0xEF ∷ [])

-- "Known but not built: 17, 18, 50, 54, 55."
abbrev pub amplifier : List CommandRow
amplifier = built amplifier_commands ++ unbuilt (0x17 ∷ 0x18 ∷ 0x50 ∷ 0x54 ∷ 0x55 ∷ [])

abbrev pub look_up : ℕ → List CommandRow → Listed
look_up n [] = Unlisted
look_up n (r ∷ rows) = cond (eqb n r.number) r.listed (look_up n rows)

-- "number not listed for this head": An heads the BT121 commands, 9n the amplifier's; no other head comes here
unfoldable pub listed_of : ℕ → ℕ → Listed
listed_of head number = cond (eqb (head / 16) 0xA) (look_up number bt121) (look_up number amplifier)

-- no number stands in both tables, so that the number alone names a built command
unfoldable pub named_by : ℕ → Listed
named_by number = look_up number (bt121 ++ amplifier)

-- a number that is built
abbrev pub Stands : Listed → Type 0
Stands x = (c : Command) × (x ≡ Built c)

-- ---- how many parameters

-- "Where the command tables of 003 and its examples differ, the tables decide."
unfoldable pub span_of : Command → Span
span_of c = (row_of c).span

-- the answer of a test
abbrev pub counted_by : Bool → Counted
counted_by true = Right
counted_by false = Wrong

-- 5B: "wrong number of parameters"
abbrev pub counted_in : Span → ℕ → Counted
counted_in s n = counted_by (leb s.least n && leb n s.most)

unfoldable pub counted_of : Command → ℕ → Counted
unfolding span_of
counted_of c n = counted_in (span_of c) n

-- ---- what a command needs of the board

-- "a BT121 command other than E0 with configuration mode closed; any amplifier command with it open; 1C while locked; 19 with three wrong tries used; 19 with a wrong code": what each need asks is `access_of` of `Judge`
unfoldable pub need_of : Command → Need
need_of c = (row_of c).need

-- ---- in which range

-- "parameters from the left"; l has the numbers that differ between layouts: channels and filter bound
unfoldable pub range_in : Plan → Command → List ℕ → Range
unfolding name_range
range_in l c p = (row_of c).range l p

unfoldable pub range_of : Command → List ℕ → Range
unfolding range_in
range_of c p = range_in current c p
