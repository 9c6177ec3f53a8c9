-- What a command that passed its checks does to the record, and the data of its reply: columns of its row.
use Rattle.std.specs.Prelude.{ℕ, List}
use Rattle.wire.specs.Zeros.{before_zero}
use Rattle.record.specs.Record.{Record, with_flags, with_settings, with_outputs, with_model}
use Rattle.command.specs.declared.Command.{Command}
use Rattle.command.specs.Rows.{changed, told, row_of}

unfoldable pub effect_of : Command → Record → List ℕ → Record
unfolding with_flags with_settings with_outputs with_model before_zero
effect_of c r p = changed (row_of c).effect r p

unfoldable pub data_of : Command → Record → List ℕ → List ℕ
data_of c r p = told (row_of c).reply r p
