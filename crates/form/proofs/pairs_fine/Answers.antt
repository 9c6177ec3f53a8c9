-- `pairs_fine`: the reading flag chooses the test of the pairs.
use Rattle.std.proofs.Common.{true, false, sym, ◌∙◌}
use Rattle.record.specs.Layout.{channels, at_pairs}
use Rattle.form.proofs.Groups.{pairs-by}
use Rattle.form.proofs.Pairs.{pairs-none}
use Rattle.form.proofs.pairs_fine.Goals as goal

pub returns-then-flag_in : goal.returns-then-flag_in
returns-then-flag_in c = c.pairs_seen.ensures ∙ pairs-by c.args.s.now true (sym c.flag_in.ensures ∙ c.if-flag_in.true)

pub returns : goal.returns
returns c = c.all_zero.ensures ∙ pairs-none c.args.s.now at_pairs channels c.requires ∙ pairs-by c.args.s.now false (sym c.flag_in.ensures ∙ c.if-flag_in.false)
