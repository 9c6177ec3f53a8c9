-- `first_zero`: `position` counts the bytes before the first zero.
use Rattle.std.proofs.Common.{rules, ℕ, List, length, ◌≡◌, ◌∙◌, sym, arith}
use borrow.Author.Tests.{tests}
use Rattle.std.proofs.lemmas.Iterator.{YieldsList-from_slice, IsFirst-from_position}
use Rattle.wire.specs.Zeros.{before_zero}
use Rattle.wire.proofs.ZeroLaws.{cut-first, cut-le}
use Rattle.std.specs.Prelude.{◌≢◌}
use Rattle.numbers.proofs.zeros.first_zero.Goals as goal

pub returns : goal.returns
returns c =
    let part : List ℕ = c.args.part.now in
    let e = cut-first part c.position.result (IsFirst-from_position _ _ _ (λ b. b ≡ 0) (λ b. b ≢ 0) c.position.ensures.ran (YieldsList-from_slice part cc) (λ x q k. search (rules, tests)) (λ x q k. search (rules, tests))) in
    let f : c.unwrap_or.result ≡ length (before_zero part) = c.unwrap_or.ensures ∙ sym e in
    (f, omega (arith, f, cut-le part))
