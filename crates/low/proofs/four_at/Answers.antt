-- `four_at`: the bytes of the number that was read are those that it was read from.
use Rattle.std.proofs.Common.{◌∙◌, sym, refl, ap, arith, w32}
use Rattle.std.proofs.lemmas.Nat.{le_bytes_4}
use Rattle.std.specs.Int.{from_le_bytes}
use Rattle.wire.proofs.NumberLaws.{bytes-part}
use Rattle.low.proofs.LowLaws.{low-first}
use Rattle.low.proofs.four_at.Goals as goal

pub returns : goal.returns
returns c =
    let e = c.from_le_bytes.ensures ∙ ap (from_le_bytes w32) c.bytes_from.ensures in
    sym (low-first 4 c.from_le_bytes.result) ∙ le_bytes_4 _ c.from_le_bytes.result refl (bytes-part 4 c.args.s.now c.args.at (λ i. omega (arith, c.type_inv.s i))) e
