-- `bare`: each number of a command without parameters leaves what its row says; what is left reads a setting.
use Rattle.std.proofs.Common.{refl, [], Ok, arith, rules}
use Rattle.record.specs.Layout.{FlagByte, NamePart, at_flags, at_name_length, record_of}
use Rattle.record.proofs.InPlaceLaws.{sound-at, sound-long, here}
use Rattle.command.specs.declared.Command.TheVariants.{Open, Close, Read, ReadName, SetName, ReadLock, ReadModel, StopSending, StartSending}
use Rattle.command.specs.Tables.{named_by, range_of}
use Rattle.command.specs.Effects.{effect_of, data_of}
use Rattle.effect.proofs.Arms.{carried, told, left-reads}
use Rattle.effect.proofs.Rows.{sound-name, changes}
use Rattle.effect.proofs.bare.Goals as goal

pub raise-requires : goal.raise-requires
raise-requires c = sound-at FlagByte at_flags refl refl _ c.requires.sound

pub lower-requires : goal.lower-requires
lower-requires c = sound-at FlagByte at_flags refl refl _ c.requires.sound

pub put_name-requires-clause-name_room_in_bounds : goal.put_name-requires-clause-name_room_in_bounds
put_name-requires-clause-name_room_in_bounds c = (omega (arith, sound-long c.args.rec.now c.requires.sound), c.requires.data_most_in_bounds)

pub put_name-requires-clause-at_name_length_bound : goal.put_name-requires-clause-at_name_length_bound
put_name-requires-clause-at_name_length_bound c = sound-name c.args.rec.now c.requires.sound

pub clear_name-requires : goal.clear_name-requires
clear_name-requires c = sound-at NamePart at_name_length refl refl _ c.requires.sound

pub bounds-rec-3 : goal.bounds-rec-3
bounds-rec-3 c = omega (arith, sound-long c.args.rec.now c.requires.sound)

pub put_model-requires : goal.put_model-requires
put_model-requires c = (omega (arith, sound-long c.args.rec.now c.requires.sound), c.requires.data_most_in_bounds)

pub lower-requires-in-35 : goal.lower-requires-in-35
lower-requires-in-35 c = sound-at FlagByte at_flags refl refl _ c.requires.sound

pub raise-requires-in-36 : goal.raise-requires-in-36
raise-requires-in-36 c = sound-at FlagByte at_flags refl refl _ c.requires.sound

pub read_setting-requires-clause-read : goal.read_setting-requires-clause-read
read_setting-requires-clause-read c =
    let q = left-reads c.args.number c.requires.calls (search rules) in
    (q.0, q.2)

pub returns-in-224 : goal.returns-in-224
unfolding named_by range_of effect_of data_of
returns-in-224 c = carried c.args.number Open (rw c.in-224.is refl) _ [] _ (Ok _) _ _ (refl, here FlagByte at_flags refl refl _ _ (λ r. effect_of Open r []) search, search)

pub returns-in-225 : goal.returns-in-225
unfolding named_by range_of effect_of data_of
returns-in-225 c = changes c.args.number Close (rw c.in-225.is refl) FlagByte refl _ [] _ _ refl refl search

pub returns-in-232 : goal.returns-in-232
unfolding named_by range_of effect_of data_of record_of
returns-in-232 c = told c.args.number ReadName (rw c.in-232.is refl) _ [] _ (λ r. refl) (Ok _) _ (refl, c.put_name.ensures)

pub returns-in-233 : goal.returns-in-233
unfolding named_by range_of effect_of data_of
returns-in-233 c = changes c.args.number SetName (rw c.in-233.is refl) NamePart refl _ [] _ _ refl refl search

pub returns-in-26 : goal.returns-in-26
unfolding named_by range_of effect_of data_of record_of
returns-in-26 c = told c.args.number ReadLock (rw c.in-26.is refl) _ [] _ (λ r. refl) (Ok _) _ (refl, c.put_lock.ensures)

pub returns-in-27 : goal.returns-in-27
unfolding named_by range_of effect_of data_of record_of
returns-in-27 c = told c.args.number ReadModel (rw c.in-27.is refl) _ [] _ (λ r. refl) (Ok _) _ (refl, c.put_model.ensures)

pub returns-in-35 : goal.returns-in-35
unfolding named_by range_of effect_of data_of
returns-in-35 c = changes c.args.number StopSending (rw c.in-35.is refl) FlagByte refl _ [] _ _ refl refl search

pub returns-in-36 : goal.returns-in-36
unfolding named_by range_of effect_of data_of
returns-in-36 c = changes c.args.number StartSending (rw c.in-36.is refl) FlagByte refl _ [] _ _ refl refl search

pub returns-in_default : goal.returns-in_default
unfolding effect_of
returns-in_default c =
    let q = left-reads c.args.number c.requires.calls (search rules) in
    told _ (Read q.0) q.1 _ [] _ (λ r. refl {a = r}) _ _ (c.read_setting.ensures q.0 q.2)
