-- `code_access`: the code is compared only with configuration mode closed and a try left.
use Rattle.std.proofs.Common.{◌∙◌, sym, arith}
use Rattle.record.proofs.InPlaceLaws.{sound-long}
use Rattle.judge.proofs.Checks.{flag-sound, code-open, code-used, code-right, code-wrong}
use Rattle.judge.proofs.code_access.Goals.{then-opened-via-then-opened, then-opened-via-else-opened+then-rec-ge3}
use Rattle.judge.proofs.code_access.Goals as goal

pub has_flag-opened-requires : goal.has_flag-opened-requires
has_flag-opened-requires c = flag-sound _ c.requires.sound

pub bounds-rec-4 : goal.bounds-rec-4
bounds-rec-4 c = omega (arith, sound-long c.args.rec.now c.requires.sound)

pub returns-then-opened : goal.returns-then-opened
returns-then-opened c = elim c.then-opened.branch [
  | then-opened-via-then-opened w ↦ code-open _ _ _ c.has_flag-opened.ensures w.if-opened.true
  | then-opened-via-else-opened+then-rec-ge3 w ↦ code-used _ _ _ c.has_flag-opened.ensures w.if-opened.false (omega arith)
]

pub word_at-requires-2 : goal.word_at-requires-2
word_at-requires-2 c = omega (arith, sound-long c.args.rec.now c.requires.sound)

pub returns-then-word_at : goal.returns-then-word_at
returns-then-word_at c = code-right _ _ _ c.has_flag-opened.ensures c.if-opened.false (omega arith) (sym c.word_at.ensures ∙ c.if-word_at.true ∙ c.word_at-2.ensures)

pub returns : goal.returns
returns c = code-wrong _ _ _ c.has_flag-opened.ensures c.if-opened.false (omega arith) (λ e. c.if-word_at.false (c.word_at.ensures ∙ e ∙ sym c.word_at-2.ensures))
