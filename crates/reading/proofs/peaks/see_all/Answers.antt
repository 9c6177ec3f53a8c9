-- `see_all`: channel after channel, each by the pair that stood there.
use Rattle.std.proofs.Common.{sym, subst, refl, arith, rules, ◌≡◌, length, ◌∙◌}
use Rattle.std.proofs.Math.Seq.{get_or-set_other}
use Rattle.reading.specs.Decoded.{Numbers}
use Rattle.reading.proofs.Readings.{finite-of, seen_none, seen_more, seen_done}
use Rattle.reading.proofs.peaks.see_all.Goals as goal

pub loop-k-init : goal.loop-k-init
loop-k-init c = let z = c.args in record { stored = seen_none z.seen z.was.peaks z.x z.sample.now z.rec.now z.at; left = λ j h. refl }

pub see-requires-clause-numbers : goal.see-requires-clause-numbers
see-requires-clause-numbers c =
    let l = c.loop-k in
    let six : length c.args.x ≡ 6 = search rules in
    (subst Numbers (sym (l.invariant.left l.k (omega arith))) (c.requires.all_numbers.0 l.k (omega arith)), finite-of c.args.x l.k c.requires.all_numbers.1 (omega (arith, six)))

pub loop-k-preserved : goal.loop-k-preserved
loop-k-preserved c =
    let z = c.args in
    let l = c.loop-k in
    record {
      stored = seen_more z.seen z.was.peaks z.x z.sample.now z.rec.now z.at l.k _ _ _ l.invariant.stored (l.invariant.left l.k (omega arith)) c.see.ensures.1;
      left = λ j h. get_or-set_other l.p l.k j c.see.result _ (λ q. omega arith) ∙ l.invariant.left j (omega arith);
    }

pub returns : goal.returns
returns c =
    let z = c.args in
    let l = c.loop-k in
    seen_done z.seen z.was.peaks z.x z.sample.now z.rec.now z.at l.k 6 _ (omega arith) (omega arith) l.invariant.stored
