-- `quiet`: the test of all bytes at once is that of each.
use Rattle.std.proofs.Common.{rules, ℕ, Bool, ◌∙◌, true, ◌&&◌, ◌≡◌}
use Rattle.std.specs.List.{fold}
use Rattle.std.proofs.lemmas.Iterator.{YieldsList-from_slice}
use Rattle.std.proofs.lemmas.Iterator.Consumers.{fold_from_yields_List}
use Rattle.finder.proofs.FinderLaws.{is_quiet, quiet-fold}
use Rattle.finder.proofs.quiet.Goals as goal

pub returns : goal.returns
returns c =
    let e : c.fold.result ≡ fold (λ (q : Bool) (b : ℕ). q && is_quiet b) true c.args.s.now =
    fold_from_yields_List _ (λ q b. q && is_quiet b) true c.fold.result c.fold.ensures.ran (YieldsList-from_slice c.args.s.now cc) (λ a x b q k. search rules) in
    e ∙ quiet-fold c.args.s.now true
