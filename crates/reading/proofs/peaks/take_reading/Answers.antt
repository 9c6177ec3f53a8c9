-- `take_reading`: the record after a reading, with its flag.
use Prim.Native.Nat.{ℕ}
use mathlib.Core.List.{List}
use Rattle.record.proofs.Whole.{bytes-bytes}
use mathlib.Core.Path.{sym, ap, subst, ◌∙◌}
use native.Mathlib.Omega.{arith}
use lib.ListN.{length-set}
use Rattle.wire.specs.Numbers.{Bytes}
use Rattle.record.specs.Layout.{channels, at_flags, record_of}
use Rattle.reading.specs.Decoded.{AllNumbers, finite_all}
use Rattle.reading.specs.declared.Decoded.{Decoded}
use Rattle.reading.proofs.Readings.{finite-all, sound-long, there, all-numbers, taken}
use Rattle.reading.proofs.peaks.take_reading.Goals as goal

pub bounds-rec-3 : goal.bounds-rec-3
bounds-rec-3 c = omega (arith, sound-long c.args.rec.now c.requires.sound)

pub bounds-rec-3-2 : goal.bounds-rec-3-2
bounds-rec-3-2 c = omega (arith, sound-long c.args.rec.now c.requires.sound)

pub decode-was-requires : goal.decode-was-requires
decode-was-requires c = there c.args.rec.now c.requires.sound _

pub see_all-requires : goal.see_all-requires
see_all-requires c =
    let s = c.args.rec.now in
    let q = c.requires in
    record {
      channels_in_bounds = ((there s q.sound _).pairs, q.sample_len.0);
      all_numbers = (subst (λ (d : Decoded). AllNumbers d.peaks) (sym c.decode-was.ensures) (all-numbers s q.sound _), ap finite_all q.sample_len.1 ∙ finite-all channels c.args.sample.now 0 ∙ q.sample_value);
    }

pub shape_of-rec : goal.shape_of-rec
shape_of-rec c = c.see_all.auto.rec ∙ length-set c.args.rec.now at_flags _

pub returns : goal.returns
unfolding record_of
returns c =
    let s = c.args.rec.now in
    let v = c.args.sample.now in
    let b : Bytes s = subst (λ (l : List ℕ). Bytes l) (sym c.requires.sound.same) (bytes-bytes (record_of s) c.requires.sound.fit) in
    (c.flag_in-2.ensures, taken s v c.requires.sound b (λ i. (c.type_inv.sample i).fits) c.decode-was.result c.args.x c.decode-was.ensures c.requires.sample_len.1 _ (rw c.flag_in.ensures at c.see_all.ensures))
