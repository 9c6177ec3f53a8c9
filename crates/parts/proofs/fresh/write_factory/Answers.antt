-- `write_factory`: the bytes written are those of the factory record.
use Rattle.parts.proofs.Stores.{factory-stores}
use Rattle.parts.proofs.fresh.write_factory.Goals as goal

pub returns : goal.returns
returns c = factory-stores c.args.rec.now _ _ _ c.requires c.clear.ensures c.put_in.ensures.1 c.put_in-2.ensures.1
