-- `carry`: a whole frame leaves the record and the reply of its step.
use Rattle.std.proofs.Common.{refl, sym, get_or}
use Rattle.carry.proofs.Acted.{carries}
use Rattle.carry.proofs.carry.Goals as goal

pub returns-then-n-eq0 : goal.returns-then-n-eq0
returns-then-n-eq0 c =
    let acted = c.act-said.ensures (get_or c.args.frame.now 1 0) c.entry_of-entry.ensures.0 in
    carries _ _ c.args.out.now c.args.at acted c.requires.frame_most_in_bounds c.in-Ok.is refl (sym c.if-n-eq0.true) c.close_reply.ensures

pub returns-else-n-eq0 : goal.returns-else-n-eq0
returns-else-n-eq0 c =
    let acted = c.act-said.ensures (get_or c.args.frame.now 1 0) c.entry_of-entry.ensures.0 in
    carries _ _ c.args.out.now c.args.at acted c.requires.frame_most_in_bounds c.in-Ok.is refl refl c.close_reply-in-Ok.ensures

pub returns-in-Err : goal.returns-in-Err
returns-in-Err c =
    let acted = c.act-said.ensures (get_or c.args.frame.now 1 0) c.entry_of-entry.ensures.0 in
    carries _ _ c.args.out.now c.args.at acted c.requires.frame_most_in_bounds c.in-Err.is c.status_of.ensures refl c.close_reply-in-Err.ensures
