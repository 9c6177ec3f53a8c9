-- The laws of every call over a record: a new one adds its line here.
use Rattle.demands.specs.CallList.{Name, Factory, PowerOn, BytesIn, SamplesIn, call_of}
use Rattle.demands.proofs.Laws.{Laws}
use Rattle.demands.proofs.FactoryLaws.{factory-laws}
use Rattle.demands.proofs.PowerOnLaws.{power-on-laws}
use Rattle.demands.proofs.BytesLaws.{bytes_laws}
use Rattle.demands.proofs.SamplesLaws.{samples-laws}

pub laws-of : (n : Name) → Laws (call_of n)
laws-of Factory = factory-laws
laws-of PowerOn = power-on-laws
laws-of BytesIn = bytes_laws
laws-of SamplesIn = samples-laws
