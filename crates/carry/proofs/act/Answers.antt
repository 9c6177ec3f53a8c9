-- `act`: what the entry refuses and what is carried out leave what the definition says.
use Rattle.std.proofs.Common.{arith}
use Rattle.carry.proofs.Acted.{passes, refuses, calls, countable, acts-denied, acts}
use Rattle.carry.proofs.act.Goals as goal

pub refuse_on-requires-clause-countable : goal.refuse_on-requires-clause-countable
refuse_on-requires-clause-countable c =
    let sound = c.requires.sound in
    let told = c.judge.ensures _ sound.fit sound.same in
    let under = c.requires.entered.1 in
    countable c.args.rec.now sound under.0 c.args.number c.args.p.now _ (refuses _ under.0 c.args.number _ _ under.1 told _ c.in-Err.is)

pub returns-in-Err : goal.returns-in-Err
returns-in-Err c head says =
    let sound = c.requires.sound in
    let told = c.judge.ensures _ sound.fit sound.same in
    acts-denied _ sound head _ _ (λ i. omega (arith, c.type_inv.p i)) _ _ (refuses _ head c.args.number _ _ says told _ c.in-Err.is) _ c.refuse_on.ensures

pub carry_out-requires-clause-calls : goal.carry_out-requires-clause-calls
carry_out-requires-clause-calls c =
    let sound = c.requires.sound in
    let told = c.judge.ensures _ sound.fit sound.same in
    let under = c.requires.entered.1 in
    calls _ under.0 c.args.number _ (passes _ under.0 c.args.number _ _ under.1 told c.in_default.is)

pub returns : goal.returns
returns c head says =
    let sound = c.requires.sound in
    let told = c.judge.ensures _ sound.fit sound.same in
    acts _ sound head _ _ (λ i. omega (arith, c.type_inv.p i)) _ (passes _ head c.args.number _ _ says told c.in_default.is) _ _ _ c.carry_out.ensures
