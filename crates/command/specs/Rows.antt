-- The two command tables, a row for each command: number, parameters, access, range, effect and reply data.
use Rattle.std.specs.Prelude.{ℕ, ◌-◌, Bool, true, false, cond, List, [], ◌∷◌, ◌++◌, length, get_or, set, ltb, eqb, pos}
use Rattle.wire.specs.Numbers.{signed8}
use Rattle.wire.specs.Ranges.{within, unsigned, also}
use Rattle.wire.specs.Zeros.{before_zero}
use Rattle.wire.specs.declared.Range.{Range}
use Rattle.wire.specs.declared.Range.TheVariants.{Fits}
use Rattle.peak.specs.Pairs.{Pair, no_pair, pair_bytes}
use Rattle.record.specs.declared.Setting.{Setting}
use Rattle.record.specs.declared.Setting.TheVariants.{Power, Step, Mode, OnOff, Interval, Filter}
use Rattle.record.specs.Record.{Flags, Outputs, Settings, Record, with_flags, with_settings, with_outputs, with_model, with_opened, with_unlocked, with_sending, with_output, with_inputs, with_name}
use Rattle.record.specs.Limits.{input_range, name_range}
use Rattle.record.specs.Layout.{Plan, model_room}
use Rattle.record.specs.Settings.{range_by, sheet_of, setting_width}
use Rattle.command.specs.declared.Command.{Command}
use Rattle.command.specs.declared.Command.TheVariants.{Open, Close, Read, Set, ReadName, SetName, SetInput, ReadInput, SwitchOutput, Unlock, ReadLock, ReadModel, SetModel, StopSending, StartSending, ReadPair}
use Rattle.command.specs.declared.Need.{Need}
use Rattle.command.specs.declared.Need.TheVariants.{Nothing, Opened, Closed, Unlocked, Code}

-- ---- the columns

-- "parameters", as far as they are counted
pub record Span : Type 0 where
  pub least : ℕ
  pub most : ℕ

abbrev pub exactly : ℕ → Span
exactly n = record { least = n; most = n }

abbrev pub up_to : ℕ → ℕ → Span
up_to n m = record { least = n; most = m }

-- "effect": what a command changes of the record, by its parameters
pub data Change : Type 0 where
  Unchanged : Change
  OfFlags : (Flags → Flags) → Change
  OfSettings : (Settings → List ℕ → Settings) → Change
  OfOutputs : (Outputs → List ℕ → Outputs) → Change
  OfModel : (List ℕ → List ℕ) → Change

abbrev pub changed : Change → Record → List ℕ → Record
changed Unchanged r p = r
changed (OfFlags f) r p = with_flags r (f r.flags)
changed (OfSettings f) r p = with_settings r (f r.settings p)
changed (OfOutputs f) r p = with_outputs r (f r.outputs p)
changed (OfModel f) r p = with_model r (f p)

-- "reply data": what they are told of, by the parameters
pub data Telling : Type 0 where
  Always : List ℕ → Telling
  FromFlags : (Flags → List ℕ) → Telling
  FromSettings : (Settings → List ℕ → List ℕ) → Telling
  FromModel : (List ℕ → List ℕ) → Telling
  FromPairs : (List Pair → List ℕ → List ℕ) → Telling

abbrev pub told : Telling → Record → List ℕ → List ℕ
told (Always d) r p = d
told (FromFlags f) r p = f r.flags
told (FromSettings f) r p = f r.settings p
told (FromModel f) r p = f r.model
told (FromPairs f) r p = f r.pairs p

pub record Row : Type 0 where
  pub number : ℕ
  pub span : Span
  pub need : Need
  pub range : Plan → List ℕ → Range
  pub effect : Change
  pub reply : Telling

-- ---- kinds of rows

-- a command that reads: no parameters, or the number of a channel; nothing changes
abbrev pub asks : ℕ → Need → Telling → Row
asks n need tell = record { number = n; span = exactly 0; need = need; range = λ l p. Fits; effect = Unchanged; reply = tell }

abbrev pub asks_of : ℕ → Need → (Plan → ℕ → Range) → Telling → Row
asks_of n need channel tell = record { number = n; span = exactly 1; need = need; range = λ l p. channel l (get_or p 0 0); effect = Unchanged; reply = tell }

-- a command that changes the record: no data
abbrev pub does : ℕ → Need → Change → Row
does n need change = record { number = n; span = exactly 0; need = need; range = λ l p. Fits; effect = change; reply = Always [] }

abbrev pub takes : ℕ → Span → Need → (Plan → List ℕ → Range) → Change → Row
takes n span need range change = record { number = n; span = span; need = need; range = range; effect = change; reply = Always [] }

-- ---- the rows of settings that are one number: "read, set"; range, bytes and store are in the sheet of the setting

pub record Numbers : Type 0 where
  pub reader : ℕ
  pub setter : ℕ
  pub radio : Bool

abbrev pub of_radio : ℕ → ℕ → Numbers
of_radio reads sets = record { reader = reads; setter = sets; radio = true }

abbrev pub numbers_of : Setting → Numbers
-- | E2, E3 | none; 2 signed, -20..12 | read, set Classic power (2 bytes) |
numbers_of Power = of_radio 0xE2 0xE3
-- | E4, E5 | none; 1, 0..5 | read, set LE power step |
numbers_of Step = of_radio 0xE4 0xE5
-- | E6, E7 | none; 1, 0..1 | read, set mode (1 Classic) |
numbers_of Mode = of_radio 0xE6 0xE7
-- | ED, EE | none; 1, 0..2 | read, set on/off state |
numbers_of OnOff = of_radio 0xED 0xEE
-- | F2 | 1: 0 or 4..59 | set interval; -128..-1 and 1..3 are 55 |, | F3 | none | read interval, one byte (*house*; 003 contradicts itself) |
numbers_of Interval = of_radio 0xF3 0xF2
-- | 51, 52 | none; 4 | read, set filter word; any bit above bit 5 is 54 |
numbers_of Filter = record { reader = 0x51; setter = 0x52; radio = false }

-- a BT121 command needs configuration mode open, an amplifier command closed
abbrev pub mode_for : Bool → Need
mode_for radio = cond radio Opened Closed

-- ---- what the rows say of their parameters and data

-- EB, F0: "channel 2..6"; "One-byte parameters are signed."
abbrev pub input_channel : ℕ → Range
input_channel b = within (pos 2) (pos 6) (signed8 b)

-- F1: "output 1..4", signed
abbrev pub output_number : ℕ → Range
output_number b = within (pos 1) (pos 4) (signed8 b)

-- F1: "0..1", signed
abbrev pub output_value : ℕ → Range
output_value b = within (pos 0) (pos 1) (signed8 b)

-- 53: "channel 1..6, unsigned", as many as the layout has: `channels` of `plan1` is 6
abbrev pub pair_channel : ℕ → ℕ → Range
pair_channel most b = unsigned 1 most b

-- 1B: "a 00 follows if shorter than 15"
abbrev pub model_data : List ℕ → List ℕ
model_data m = m ++ cond (ltb (length m) model_room) (0x00 ∷ []) []

-- ---- the rows

abbrev pub row_of : Command → Row
-- | E0 | none | opens configuration mode, also if open; 00 14 |
row_of Open = record { number = 0xE0; span = exactly 0; need = Nothing; range = λ l p. Fits; effect = OfFlags (λ f. with_opened f true); reply = Always (0x00 ∷ 0x14 ∷ []) }
-- | E1 | none | closes it |
row_of Close = does 0xE1 Opened (OfFlags (λ f. with_opened f false))
-- E2 to E7, ED, EE, F2, F3, 51, 52
row_of (Read k) = asks (numbers_of k).reader (mode_for (numbers_of k).radio) (FromSettings (λ g p. (sheet_of k).shown g))
row_of (Set k) = takes (numbers_of k).setter (exactly (setting_width k)) (mode_for (numbers_of k).radio) (range_by (sheet_of k).limits) (OfSettings (sheet_of k).stored)
-- | E8, E9 | none; 0 to 15 bytes | read, set name; a byte above 7F is 54 |
row_of ReadName = asks 0xE8 Opened (FromSettings (λ g p. g.name))
row_of SetName = takes 0xE9 (up_to 0 15) Opened (λ l p. name_range p) (OfSettings (λ g p. with_name g p))
-- | EB | channel 2..6, type 0..1 | set input type |; that of channel 2 is the first
row_of SetInput =
    takes 0xEB (exactly 2) Opened (λ l p. also (input_channel (get_or p 0 0)) (input_range (get_or p 1 0)))
    (OfSettings (λ g p. with_inputs g (set g.inputs (get_or p 0 0 - 2) (get_or p 1 0))))
-- | F0 | channel 2..6 | read input type |
row_of ReadInput = asks_of 0xF0 Opened (λ l b. input_channel b) (FromSettings (λ g p. get_or g.inputs (get_or p 0 0 - 2) 0 ∷ []))
-- | F1 | output 1..4, 0..1 | switch an output |
row_of SwitchOutput =
    takes 0xF1 (exactly 2) Opened (λ l p. also (output_number (get_or p 0 0)) (output_value (get_or p 1 0)))
    (OfOutputs (λ o p. with_output o (get_or p 0 0) (eqb (get_or p 1 0) 1)))
-- | 19 | 4 | compare with the code; equal: unlocked, tries unchanged |
row_of Unlock = takes 0x19 (exactly 4) Code (λ l p. Fits) (OfFlags (λ f. with_unlocked f true))
-- | 1A | none | 00 locked, 08 unlocked |
row_of ReadLock = asks 0x1A Closed (FromFlags (λ f. cond f.unlocked 0x08 0x00 ∷ []))
-- | 1B | none | model; a 00 follows if shorter than 15 |
row_of ReadModel = asks 0x1B Closed (FromModel model_data)
-- | 1C | 1 to 15 bytes | set model: the bytes before the first 00 |
row_of SetModel = takes 0x1C (up_to 1 15) Unlocked (λ l p. Fits) (OfModel before_zero)
-- | 23, 24 | none | stop, start sending of measuring frames |
row_of StopSending = does 0x23 Closed (OfFlags (λ f. with_sending f false))
row_of StartSending = does 0x24 Closed (OfFlags (λ f. with_sending f true))
-- | 53 | channel 1..6, unsigned | 00, greatest, smallest (floats) |; the pair of channel 1 is the first
row_of ReadPair = asks_of 0x53 Closed (λ l b. pair_channel l.channels b) (FromPairs (λ q p. 0x00 ∷ pair_bytes (get_or q (get_or p 0 0 - 1) no_pair)))

-- ---- the tables, in their order

-- "Frames come from source document 000, BT121 commands from 003 and 004 (same content)."
abbrev pub radio_commands : List Command
radio_commands = Open ∷ Close ∷ Read Power ∷ Set Power ∷ Read Step ∷ Set Step ∷ Read Mode ∷ Set Mode ∷ ReadName ∷ SetName ∷ Read OnOff ∷ Set OnOff ∷ SetInput ∷ ReadInput ∷ SwitchOutput ∷ Set Interval ∷ Read Interval ∷ []

-- "Numbers are from 000 and 003; 1B and 1C follow its GSV-8 entry."
abbrev pub amplifier_commands : List Command
amplifier_commands = Unlock ∷ ReadLock ∷ ReadModel ∷ SetModel ∷ StopSending ∷ StartSending ∷ Read Filter ∷ Set Filter ∷ ReadPair ∷ []

-- ---- what a fitter names on his sheet, in its order, each with the command that sets it

-- one line of the sheet: a number, the input type of a channel, the name
pub data Item : Type 0 where
  Number : Setting → Item
  InputType : ℕ → Item
  Name : Item

-- "power, LE step, mode, on/off, five input types, name, interval, filter word"
abbrev pub sheet : List Item
sheet =
    Number Power
    ∷ Number Step
    ∷ Number Mode
    ∷ Number OnOff
    ∷ InputType 2
    ∷ InputType 3
    ∷ InputType 4
    ∷ InputType 5
    ∷ InputType 6
    ∷ Name
    ∷ Number Interval
    ∷ Number Filter
    ∷ []

abbrev pub set_by : Item → Command
set_by (Number k) = Set k
set_by (InputType channel) = SetInput
set_by Name = SetName

-- ---- commands that read only

abbrev pub is_unchanged : Change → Bool
is_unchanged Unchanged = true
is_unchanged (OfFlags f) = false
is_unchanged (OfSettings f) = false
is_unchanged (OfOutputs f) = false
is_unchanged (OfModel f) = false

-- by its row it changes nothing
abbrev pub reads_only : Command → Bool
reads_only c = is_unchanged (row_of c).effect
