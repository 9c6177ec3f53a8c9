-- Inner contract: what a command that may be carried out leaves, by its number alone.
use Rattle.std.specs.Prelude.{ℕ, ◌≡◌, List, Result, Ok, Err}
use Rattle.wire.specs.declared.Range.TheVariants.{Fits}
use Rattle.record.specs.Layout.{record_of}
use Rattle.record.specs.InPlace.{Turns}
use Rattle.command.specs.declared.Command.{Command}
use Rattle.command.specs.declared.Listed.TheVariants.{Built}
use Rattle.command.specs.declared.Counted.TheVariants.{Right}
use Rattle.command.specs.declared.Refusal.{Refusal}
use Rattle.command.specs.declared.Verdict.TheVariants.{Do, Refuse}
use Rattle.command.specs.Tables.{named_by, counted_of, range_of}
use Rattle.command.specs.Judge.{by_range}
use Rattle.command.specs.Effects.{effect_of, data_of}
use Rattle.data.specs.PutsData.{PutsData}

-- the number is that of a built command, and it takes so many parameters
abbrev pub Calls : ℕ → ℕ → Type 0
Calls number n = (c : Command) × (named_by number ≡ Built c) × (counted_of c n ≡ Right)

-- what a command with the parameters p leaves of the record bytes s and of the part `before` of the output, at whose front the data of the reply stand; out of range the check of the range says why, and nothing is written
abbrev pub Does : Command → List ℕ → List ℕ → List ℕ → Result ℕ Refusal → List ℕ → List ℕ → Type 0
Does c s p before (Ok n) t after = (range_of c p ≡ Fits) × Turns s t (λ r. effect_of c r p) × PutsData before (data_of c (record_of s) p) n after
Does c s p before (Err why) t after = (by_range (range_of c p) (Do c) ≡ Refuse why) × (t ≡ s) × (after ≡ before)

-- of whatever command has the number
abbrev pub Carried : ℕ → List ℕ → List ℕ → List ℕ → Result ℕ Refusal → List ℕ → List ℕ → Type 0
Carried number s p before d t after = (c : Command) → named_by number ≡ Built c → Does c s p before d t after
