-- Inner contract: what a command leaves that only changes the record, or only reads it.
use Rattle.std.specs.Prelude.{ℕ, ◌≡◌, List, [], Result, Ok, Err}
use Rattle.wire.specs.declared.Range.TheVariants.{Fits}
use Rattle.record.specs.declared.Setting.{Setting}
use Rattle.record.specs.Layout.{record_of}
use Rattle.record.specs.Settings.{setting_width}
use Rattle.record.specs.InPlace.{Turns}
use Rattle.command.specs.declared.Command.{Command}
use Rattle.command.specs.declared.Command.TheVariants.{Read, Set}
use Rattle.command.specs.declared.Refusal.{Refusal}
use Rattle.command.specs.declared.Verdict.TheVariants.{Do, Refuse}
use Rattle.command.specs.Rows.{numbers_of}
use Rattle.command.specs.Tables.{range_of}
use Rattle.command.specs.Judge.{by_range}
use Rattle.command.specs.Effects.{effect_of, data_of}
use Rattle.data.specs.PutsData.{PutsData}

-- of the record bytes s, for the parameters p; out of range the check of the range says why, and nothing is written
abbrev pub Stores : Command → List ℕ → List ℕ → Result ℕ Refusal → List ℕ → Type 0
Stores c s p (Ok n) t = (range_of c p ≡ Fits) × Turns s t (λ r. effect_of c r p) × (n ≡ 0)
Stores c s p (Err why) t = (by_range (range_of c p) (Do c) ≡ Refuse why) × (t ≡ s)

-- of the part of the output in which the data of the reply stand, at its front
abbrev pub Tells : Command → List ℕ → List ℕ → List ℕ → Result ℕ Refusal → List ℕ → Type 0
Tells c s p before (Ok n) after = (range_of c p ≡ Fits) × PutsData before (data_of c (record_of s) p) n after
Tells c s p before (Err why) after = (by_range (range_of c p) (Do c) ≡ Refuse why) × (after ≡ before)

-- ---- the two commands of a setting, by their numbers

abbrev pub IsRead : ℕ → Type 0
IsRead number = (k : Setting) × ((numbers_of k).reader ≡ number)

abbrev pub IsSet : ℕ → ℕ → Type 0
IsSet number n = (k : Setting) × ((numbers_of k).setter ≡ number) × (n ≡ setting_width k)

abbrev pub TellsSetting : ℕ → List ℕ → List ℕ → Result ℕ Refusal → List ℕ → Type 0
TellsSetting number s before d after = (k : Setting) → (numbers_of k).reader ≡ number → Tells (Read k) s [] before d after

abbrev pub StoresSetting : ℕ → List ℕ → List ℕ → Result ℕ Refusal → List ℕ → Type 0
StoresSetting number s p d t = (k : Setting) → (numbers_of k).setter ≡ number → Stores (Set k) s p d t
