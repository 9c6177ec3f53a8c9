-- `finite_values`: the greatest of all patterns so far is finite when all of them are.
use Rattle.std.proofs.Common.{◌≡◌, ℕ, ◌+◌, ◌&&◌, ltb, length, drop, sym, ap, ◌∙◌, arith, rules}
use Rattle.reading.specs.Decoded.{finite_all}
use Rattle.reading.proofs.Readings.{finite-more, finite-none}
use Rattle.reading.proofs.peaks.finite_values.Goals as goal

pub loop-value-preserved : goal.loop-value-preserved
loop-value-preserved c =
    let x = c.args.x in
    let l = c.loop-value in
    let six : length c.args.x ≡ 6 = search rules in
    l.invariant ∙ finite-more x l.most l.value-index (omega arith) ∙ ap (λ (n : ℕ). ltb n 0x7F800000 && finite_all (drop (l.value-index + 1) x)) (sym c.reach-most.ensures)

pub returns : goal.returns
returns c =
    let l = c.loop-value in
    let six : length c.args.x ≡ 6 = search rules in
    sym (l.invariant ∙ finite-none c.args.x l.most l.value-index (omega arith))
