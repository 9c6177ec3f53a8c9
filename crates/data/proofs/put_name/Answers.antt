-- `put_name`: as many bytes of the name as its length says are put.
use lib.ListN.{get_or}
use Rattle.record.specs.Layout.{at_name_length}
use Rattle.data.proofs.Data.{answers-name}
use Rattle.data.proofs.put_name.Goals as goal

pub returns : goal.returns
returns c =
    let a = c.args in
    let i = c.put_few in
    answers-name a.body.now c.requires.name_room_in_bounds.1 a.rec.now (get_or a.rec.now at_name_length 0) i.new.buffer c.requires.name_room_in_bounds.0 c.requires.at_name_length_bound i.ensures.1
