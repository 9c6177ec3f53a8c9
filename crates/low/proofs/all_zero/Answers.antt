-- `all_zero`: the bits of all words are the bits of all bytes.
use Prim.Native.Nat.{◌+◌, ◌-◌, ◌*◌}
use mathlib.Core.Path.{◌≡◌, ap, ◌∙◌}
use native.Mathlib.Omega.{arith}
use lib.ListN.{length}
use lib.Seq.{take-length}
use Rattle.wire.specs.Zeros.{all_zero}
use Rattle.low.proofs.ZeroWords.{zeros-word, zeros-first, zeros-more, zeros-last}
use Rattle.low.proofs.all_zero.Goals as goal

pub loop-k-init : goal.loop-k-init
loop-k-init c = zeros-first c.args.s.now 0 (length c.args.s.now) c.four_at-bits.result (omega arith) (omega arith) (omega arith) c.four_at-bits.ensures

pub loop-k-preserved : goal.loop-k-preserved
loop-k-preserved c =
    let l = c.loop-k in
    let s = c.args.s.now in
    let next : 4 * (l.k + 1) ≡ 4 * l.k + 4 = omega arith in
    rw next (zeros-more s 0 (4 * l.k) l.bits c.four_at-bits-in-loop-k.result _ (omega arith) l.invariant (zeros-word s (4 * l.k) c.four_at-bits-in-loop-k.result (omega arith) (omega arith) c.four_at-bits-in-loop-k.ensures))

pub returns : goal.returns
returns c =
    let l = c.loop-k in
    let s = c.args.s.now in
    let whole : length s - 0 ≡ length s = omega arith in
    l.invariant ∙ zeros-last s 0 (4 * l.k) (length s) (omega arith) (omega arith) (omega arith) ∙ rw whole (ap all_zero (take-length s))
