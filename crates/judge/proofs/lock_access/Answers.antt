-- `lock_access`: configuration mode first, then the lock.
use Rattle.std.proofs.Common.{refl}
use Rattle.command.specs.Judge.{access_of}
use Rattle.judge.proofs.Checks.{flag-sound, flag-is}
use Rattle.judge.proofs.lock_access.Goals as goal

pub has_flag-requires : goal.has_flag-requires
has_flag-requires c = flag-sound _ c.requires

pub returns-then-has_flag : goal.returns-then-has_flag
unfolding access_of
returns-then-has_flag c r i e = rw (flag-is _ _ c.has_flag.ensures c.if-has_flag.true r i e) refl

pub has_flag-requires-2 : goal.has_flag-requires-2
has_flag-requires-2 c = flag-sound _ c.requires

pub returns-then-has_flag-2 : goal.returns-then-has_flag-2
unfolding access_of
returns-then-has_flag-2 c r i e = rw (flag-is _ _ c.has_flag.ensures c.if-has_flag.false r i e, flag-is _ _ c.has_flag-2.ensures c.if-has_flag-2.true r i e) refl

pub returns : goal.returns
unfolding access_of
returns c r i e = rw (flag-is _ _ c.has_flag.ensures c.if-has_flag.false r i e, flag-is _ _ c.has_flag-2.ensures c.if-has_flag-2.false r i e) refl
