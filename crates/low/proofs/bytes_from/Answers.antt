-- `bytes_from`: a copied slice is the bytes from a place on.
use Rattle.std.proofs.Common.{◌+◌, ◌-◌, ◌≡◌, sym, arith, ◌∙◌}
use Rattle.wire.proofs.NumberLaws.{part-is}
use Rattle.low.proofs.bytes_from.Goals as goal

pub returns : goal.returns
returns g c =
    let n : c.args.at + g.row.N - c.args.at ≡ g.row.N = omega arith in
    rw n at c.copy_from_slice.ensures.after ∙ sym (part-is g.row.N c.args.s.now c.args.at c.requires)
