-- What holds of the two commands of a setting that is one number, and of commands that read only.
use Prim.Native.Nat.{ℕ}
use mathlib.Core.Path.{◌≡◌, refl}
use mathlib.Core.Bool.{Bool, true, false}
use mathlib.Core.List.{List}
use Rattle.record.specs.Record.{Record}
use Rattle.command.specs.declared.Command.{Command}
use Rattle.command.specs.Rows.{Change, Unchanged, OfFlags, OfSettings, OfOutputs, OfModel, changed, mode_for, row_of, is_unchanged, reads_only}
use Rattle.command.specs.Effects.{effect_of}
use Rattle.command.specs.Compare.{is_code}

pub no_code : (radio : Bool) → is_code (mode_for radio) ≡ false
no_code true = refl
no_code false = refl

unchanged : (x : Change) (r : Record) (p : List ℕ) → is_unchanged x ≡ true → changed x r p ≡ r
unchanged Unchanged r p h = refl
unchanged (OfFlags f) r p h = cc
unchanged (OfSettings f) r p h = cc
unchanged (OfOutputs f) r p h = cc
unchanged (OfModel f) r p h = cc

-- a command that reads only leaves every record as it was
pub reads_only_lem : (c : Command) (r : Record) (p : List ℕ) → reads_only c ≡ true → effect_of c r p ≡ r
unfolding effect_of
reads_only_lem c r p h = unchanged (row_of c).effect r p h
