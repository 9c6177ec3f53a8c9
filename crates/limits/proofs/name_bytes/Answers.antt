-- `name_bytes`: every byte is at most 7F exactly where the name fits.
use borrow.Author.Rules.{rules}
use Rattle.limits.proofs.Tests.{name-is}
use Rattle.limits.proofs.name_bytes.Goals as goal

pub returns : goal.returns
returns c = name-is c.args.s.now c.all.result (search rules)
