-- `refuse_on`: a refusal leaves the record as it was, but for the try of a wrong code.
use mathlib.Core.Path.{refl, sym, ap, ◌∙◌}
use Rattle.record.specs.Layout.{TriesByte, at_tries, bytes_of}
use Rattle.record.proofs.InPlaceLaws.{sound-at, here}
use Rattle.command.specs.declared.Refusal.TheVariants.{BadCode}
use Rattle.command.specs.Step.{left_by}
use Rattle.carry.proofs.Acted.{left-none, left_as}
use Rattle.carry.proofs.refuse_on.Goals as goal

pub count_try-requires-clause-sound_at : goal.count_try-requires-clause-sound_at
count_try-requires-clause-sound_at c = sound-at TriesByte at_tries refl refl _ c.requires.sound

pub returns-in-BadCode : goal.returns-in-BadCode
unfolding left_by
returns-in-BadCode c = left_as c.args.why BadCode c.in-BadCode.is c.args.rec.now _ (here TriesByte at_tries refl refl c.args.rec.now _ _ c.count_try.ensures)

pub returns-in_default : goal.returns-in_default
returns-in_default c = λ r i e. e ∙ ap bytes_of (sym (left-none c.args.why c.in_default.not-BadCode r))
