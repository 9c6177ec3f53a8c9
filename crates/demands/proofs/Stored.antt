-- What is stored is read back, from the laws of the record.
use mathlib.Core.Path.{◌≡◌, refl, sym, ap, ◌∙◌}
use mathlib.Core.Bool.{true}
use Rattle.wire.specs.Numbers.{bytes_at}
use Rattle.record.specs.Record.{Record}
use Rattle.record.specs.Layout.{Part, has, current, width, place, part_bytes, bytes_of, record_of}
use Rattle.record.specs.Form.{well_formed}
use Rattle.record.specs.Births.{factory}
use Rattle.record.proofs.Plans.{laid}
use Rattle.record.proofs.RoundTrip as trip
use Rattle.record.proofs.Tables.{places1}
use Rattle.record.proofs.Whole.{bytes-bytes}
use Rattle.demands.specs.Stored.{Stored}

stands : (r : Record) (q : Part) → has current.parts q ≡ true → bytes_at (width current q) (bytes_of r) (place current q) ≡ part_bytes current r q
unfolding bytes_of
stands r q e = trip.get-part current laid r q e

pub stored : Stored
unfolding bytes_of factory
stored = record {
  read_back = trip.read_back;
  bytes = bytes-bytes;
  well-formed = λ s b. ((λ e. (trip.in-range s b e, trip.write-back s b e)), λ h. ap well_formed (sym h.1) ∙ trip.well-formed (record_of s) h.0);
  size = refl;
  places = places1;
  stands = stands;
  fresh = refl;
}
