-- `check_access`: what the entry's bits ask, as the definition of access says.
use Rattle.command.specs.Judge.{access_of}
use Rattle.judge.proofs.Checks.{flag-sound, flag-is, upper, not-unlocked, open-given, open-missing, closed-missing, closed-given}
use Rattle.judge.proofs.check_access.Goals as goal

pub has_flag-requires : goal.has_flag-requires
has_flag-requires c = flag-sound _ c.requires.sound

pub returns-then-entry-eq1 : goal.returns-then-entry-eq1
returns-then-entry-eq1 c r i e = open-given _ r _ _ (upper _ c.requires.value.0 c.requires.value.1) (flag-is _ _ c.has_flag.ensures c.if-has_flag.true r i e) c.if-entry-eq1.true

pub returns-then-has_flag : goal.returns-then-has_flag
returns-then-has_flag c r i e = open-missing _ r _ _ (upper _ c.requires.value.0 c.requires.value.1) (flag-is _ _ c.has_flag.ensures c.if-has_flag.true r i e) c.if-entry-eq1.false

pub returns-then-entry-ne1 : goal.returns-then-entry-ne1
returns-then-entry-ne1 c r i e = closed-missing _ r _ _ (upper _ c.requires.value.0 c.requires.value.1) (flag-is _ _ c.has_flag.ensures c.if-has_flag.false r i e) c.if-entry-ne1.true

pub returns-then-entry-lt-LOCK : goal.returns-then-entry-lt-LOCK
returns-then-entry-lt-LOCK c r i e = closed-given _ r _ _ (upper _ c.requires.value.0 c.requires.value.1) (flag-is _ _ c.has_flag.ensures c.if-has_flag.false r i e) c.if-entry-ne1.false c.if-entry-lt-LOCK.true

pub returns-then-entry-lt-CODE : goal.returns-then-entry-lt-CODE
unfolding access_of
returns-then-entry-lt-CODE c r i e = rw (not-unlocked _ _ (upper _ c.requires.value.0 c.requires.value.1) c.if-entry-lt-LOCK.false c.if-entry-lt-CODE.true) (c.lock_access.ensures r i e)
