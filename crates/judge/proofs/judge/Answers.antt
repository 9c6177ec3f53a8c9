-- `judge`: the first check that does not pass is what the entry decides.
use Rattle.command.specs.declared.Access.TheVariants.{Given, Missing, WrongCode}
use Rattle.judge.proofs.Checks.{may-ask, by-unbuilt, by-unknown, by_count_lem, by-access, left-missing}
use Rattle.judge.proofs.judge.Goals as goal

pub returns-in-AsNotBuilt : goal.returns-in-AsNotBuilt
returns-in-AsNotBuilt c r i e = by-unbuilt _ c.requires.known _ c.check_number-numbered.ensures c.in-AsNotBuilt.is r

pub returns-in_default-numbered : goal.returns-in_default-numbered
returns-in_default-numbered c r i e = by-unknown _ c.requires.known _ c.check_number-numbered.ensures c.in_default.not-AsCommand c.in_default-numbered.not-AsNotBuilt r

pub returns-in_default-check_count : goal.returns-in_default-check_count
returns-in_default-check_count c r i e = by_count_lem _ c.requires.known _ c.check_number-numbered.ensures c.in-AsCommand.is c.check_count.ensures c.in_default-check_count.is r

pub check_access-access-requires-clause-value : goal.check_access-access-requires-clause-value
check_access-access-requires-clause-value c = may-ask _ c.requires.known _ c.check_number-numbered.ensures c.in-AsCommand.is c.check_count.ensures c.in-Right.is

pub returns-in-WrongCode : goal.returns-in-WrongCode
returns-in-WrongCode c r i e = by-access _ c.requires.known _ c.check_number-numbered.ensures c.in-AsCommand.is c.check_count.ensures c.in-Right.is WrongCode r (c.check_access-access.ensures r i e) c.in-WrongCode.is

pub returns-in_default-access-2 : goal.returns-in_default-access-2
returns-in_default-access-2 c r i e = by-access _ c.requires.known _ c.check_number-numbered.ensures c.in-AsCommand.is c.check_count.ensures c.in-Right.is Missing r (c.check_access-access.ensures r i e) (left-missing _ c.in_default-access.not-Given c.in_default-access-2.not-WrongCode)

pub returns : goal.returns
returns c r i e = by-access _ c.requires.known _ c.check_number-numbered.ensures c.in-AsCommand.is c.check_count.ensures c.in-Right.is Given r (c.check_access-access.ensures r i e) c.in-Given.is
