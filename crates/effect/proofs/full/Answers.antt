-- `full`: each number of a command with parameters leaves what its row says; what is left sets a setting.
use Rattle.std.proofs.Common.{refl, length, [], rules}
use Rattle.record.specs.Layout.{FlagByte, ModelPart, at_flags, at_model}
use Rattle.record.proofs.InPlaceLaws.{sound-at}
use Rattle.command.specs.declared.Command.TheVariants.{Set, SetName, SetInput, ReadInput, SwitchOutput, Unlock, SetModel, ReadPair}
use Rattle.command.specs.Tables.{named_by, span_of, range_of}
use Rattle.command.specs.Effects.{effect_of, data_of}
use Rattle.command.proofs.Keep.{counted-span}
use Rattle.effect.proofs.Arms.{counted, stored, told, left-sets}
use Rattle.effect.proofs.Rows.{changes}
use Rattle.effect.proofs.full.Goals as goal

pub write_name-requires-clause-p_value : goal.write_name-requires-clause-p_value
unfolding named_by
write_name-requires-clause-p_value c = counted c.args.number SetName (rw c.in-233.is refl) _ c.requires.in_bounds.1

pub write_input-requires-clause-p_value : goal.write_input-requires-clause-p_value
unfolding named_by
write_input-requires-clause-p_value c = counted c.args.number SetInput (rw c.in-235.is refl) _ c.requires.in_bounds.1

pub read_input-requires-clause-p_value : goal.read_input-requires-clause-p_value
unfolding named_by
read_input-requires-clause-p_value c = counted c.args.number ReadInput (rw c.in-240.is refl) _ c.requires.in_bounds.1

pub write_output-requires-clause-p_value : goal.write_output-requires-clause-p_value
unfolding named_by
write_output-requires-clause-p_value c = counted c.args.number SwitchOutput (rw c.in-241.is refl) _ c.requires.in_bounds.1

pub raise-requires : goal.raise-requires
raise-requires c = sound-at FlagByte at_flags refl refl _ c.requires.sound

pub set_model-requires-clause-sound_at : goal.set_model-requires-clause-sound_at
set_model-requires-clause-sound_at c = sound-at ModelPart at_model refl refl _ c.requires.sound

pub set_model-requires-clause-p_len_bound : goal.set_model-requires-clause-p_len_bound
unfolding named_by span_of
set_model-requires-clause-p_len_bound c = (counted-span SetModel _ (counted c.args.number SetModel (rw c.in-28.is refl) _ c.requires.in_bounds.1)).1

pub read_pair-requires-clause-p_value : goal.read_pair-requires-clause-p_value
unfolding named_by
read_pair-requires-clause-p_value c = counted c.args.number ReadPair (rw c.in-83.is refl) _ c.requires.in_bounds.1

pub write_setting-requires-clause-set : goal.write_setting-requires-clause-set
write_setting-requires-clause-set c =
    let q = left-sets c.args.number (length c.args.p.now) c.requires.in_bounds.0 c.requires.in_bounds.1 (search rules) in
    (q.0, q.2, q.3)

pub returns-in-233 : goal.returns-in-233
unfolding named_by data_of
returns-in-233 c = stored c.args.number SetName (rw c.in-233.is refl) _ c.args.p.now _ refl _ _ c.write_name.ensures

pub returns-in-235 : goal.returns-in-235
unfolding named_by data_of
returns-in-235 c = stored c.args.number SetInput (rw c.in-235.is refl) _ c.args.p.now _ refl _ _ c.write_input.ensures

pub returns-in-240 : goal.returns-in-240
unfolding named_by effect_of
returns-in-240 c = told c.args.number ReadInput (rw c.in-240.is refl) _ c.args.p.now _ (λ r. refl) _ _ c.read_input.ensures

pub returns-in-241 : goal.returns-in-241
unfolding named_by data_of
returns-in-241 c = stored c.args.number SwitchOutput (rw c.in-241.is refl) _ c.args.p.now _ refl _ _ c.write_output.ensures

pub returns-in-25 : goal.returns-in-25
unfolding named_by range_of effect_of data_of
returns-in-25 c = changes c.args.number Unlock (rw c.in-25.is refl) FlagByte refl _ c.args.p.now _ _ refl refl search

pub returns-in-28 : goal.returns-in-28
unfolding named_by range_of effect_of data_of
returns-in-28 c = changes c.args.number SetModel (rw c.in-28.is refl) ModelPart refl _ c.args.p.now _ _ refl refl search

pub returns-in-83 : goal.returns-in-83
unfolding named_by effect_of
returns-in-83 c = told c.args.number ReadPair (rw c.in-83.is refl) _ c.args.p.now _ (λ r. refl) _ _ c.read_pair.ensures

pub returns-in_default : goal.returns-in_default
unfolding data_of
returns-in_default c =
    let q = left-sets c.args.number (length c.args.p.now) c.requires.in_bounds.0 c.requires.in_bounds.1 (search rules) in
    stored _ (Set q.0) q.1 _ c.args.p.now _ (refl {a = []}) _ _ (c.write_setting.ensures q.0 q.2)
