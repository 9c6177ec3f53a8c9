-- `put_entry`: the four numbers of an entry, in their place.
use Rattle.wire.proofs.EntryLaws.{entry-put}
use Rattle.reader.proofs.put_entry.Goals as goal

pub returns : goal.returns
returns c = entry-put c.args.s.now c.args.at c.args.n c.requires.n_in_bounds.0 c.args.list.now c.args.k c.status_in-status.result c.requires.k_in_bounds c.status_in-status.ensures
