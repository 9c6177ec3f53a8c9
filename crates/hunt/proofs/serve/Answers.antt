-- `serve`: with no pending bytes the stream is the input; else the hunt begins in them.
use native.Mathlib.Omega.{arith}
use mathlib.Core.Path.{sym, ◌∙◌}
use Rattle.record.proofs.InPlaceLaws.{holds-long}
use Rattle.hunt.proofs.ServeLaws.{serves-board, serves-input, none-there}
use Rattle.hunt.proofs.JoinLaws.{held-is, held-few}
use Rattle.hunt.proofs.serve.Goals as goal

pub bounds-rec-56 : goal.bounds-rec-56
bounds-rec-56 c = omega (arith, holds-long _ _ c.requires.sound)

pub overflow_cast-held : goal.overflow_cast-held
overflow_cast-held c = omega (arith, held-few c.args.rec.now c.requires.sound)

pub returns-then-held-eq0 : goal.returns-then-held-eq0
returns-then-held-eq0 c =
    let y = c.hunt_rest-p.ensures in
    serves-board (serves-input _ _ (none-there _ (sym (held-is c.args.rec.now c.requires.sound) ∙ c.if-held-eq0.true)) y.hunts y.turns)

pub serve_held-requires : goal.serve_held-requires
serve_held-requires c = record { sound = c.requires.sound; held_value = held-is c.args.rec.now c.requires.sound; input_len_bound = c.requires.input_len_bound; input_in_bounds = c.requires.input_in_bounds }
