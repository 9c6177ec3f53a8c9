-- `put_part`: the zeros of a room and the part over them are one store.
use Rattle.parts.proofs.Turn.{put-part}
use Prim.Native.Nat.{ℕ}
use mathlib.Core.Path.{ap, ◌∙◌}
use mathlib.Core.List.{List}
use Rattle.wire.specs.Numbers.{put}
use Rattle.parts.proofs.put_part.Goals as goal

pub returns : goal.returns
returns c =
    let p = c.args.p.now in
    c.put_few.ensures.1
    ∙ ap (λ (l : List ℕ). put l c.args.at p) c.clear_few.ensures
    ∙ put-part c.args.rec.now c.args.at c.args.end p c.requires.p_bound.0 c.requires.p_bound.1
