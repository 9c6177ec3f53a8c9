-- `zeros`: the bits of all bytes are none exactly when each byte is zero.
use Rattle.std.proofs.Common.{rules, ℕ, eqb, ◌≡◌, ◌∙◌, ap}
use Rattle.std.specs.List.{fold}
use Rattle.std.specs.Prelude.{bit_or}
use Rattle.std.proofs.lemmas.Iterator.{YieldsList-from_slice}
use Rattle.std.proofs.lemmas.Iterator.Consumers.{fold_from_yields_List}
use Rattle.wire.proofs.ZeroLaws.{fold-zero}
use Rattle.numbers.proofs.zeros.zeros.Goals as goal

pub returns : goal.returns
returns c =
    let part = c.args.part.now in
    let e : c.fold.result ≡ fold bit_or 0 part = fold_from_yields_List _ bit_or 0 c.fold.result c.fold.ensures.ran (YieldsList-from_slice part cc) (λ a x b q k. search rules) in
    ap (λ (x : ℕ). eqb x 0) e ∙ fold-zero part 0
