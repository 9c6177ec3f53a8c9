-- `pairs_seen`: each pair in order, and the greatest of all patterns finite.
use Prim.Native.Nat.{ℕ, ◌+◌, ◌*◌, ◌%◌, max}
use mathlib.Core.Path.{◌≡◌, refl, sym, ap, ◌∙◌}
use mathlib.Core.Bool.{◌&&◌, and-true}
use native.Mathlib.Omega.{arith}
use lib.Dec.{ltb}
use Rattle.wire.specs.Numbers.{word_at}
use Rattle.peak.specs.Pairs.{less}
use Rattle.record.specs.Layout.{channels}
use Rattle.form.proofs.Pairs.{left, left-all, left-none, left_out, left_in}
use Rattle.form.proofs.pairs_seen.Goals as goal

pub returns-then-above : goal.returns-then-above
returns-then-above c =
    let l = c.loop-i in
    let a = c.args in
    let at = a.from + 8 * l.i in
    let order : c.above.result ≡ less (word_at a.s.now at) (word_at a.s.now (at + 4)) = c.above.ensures.order ∙ rw (c.word_at-greatest.ensures, c.word_at-smallest.ensures) refl in
    left_out a.s.now a.from channels l.i l.most (omega arith) (sym order ∙ c.if-above.true) ∙ sym l.invariant ∙ left-all a.s.now a.from channels

pub loop-i-preserved : goal.loop-i-preserved
loop-i-preserved c =
    let l = c.loop-i in
    let a = c.args in
    let at = a.from + 8 * l.i in
    let order : c.above.result ≡ less (word_at a.s.now at) (word_at a.s.now (at + 4)) = c.above.ensures.order ∙ rw (c.word_at-greatest.ensures, c.word_at-smallest.ensures) refl in
    let e = left_in a.s.now a.from channels l.i l.most (omega arith) (sym order ∙ c.if-above.false) in
    let m : c.reach-most.result ≡ max (max l.most (word_at a.s.now at % 0x80000000)) (word_at a.s.now (at + 4) % 0x80000000) = c.reach-most.ensures ∙ rw (c.reach.ensures, c.word_at-greatest.ensures, c.word_at-smallest.ensures) refl in
    l.invariant ∙ e ∙ ap (λ (n : ℕ). ltb n 0x7F800000 && left a.s.now a.from channels (l.i + 1)) (sym m)

pub returns : goal.returns
returns c =
    let a = c.args in
    let l = c.loop-i in
    sym (sym (left-all a.s.now a.from channels) ∙ l.invariant ∙ rw (left-none a.s.now a.from channels l.i (omega arith)) (and-true _))
