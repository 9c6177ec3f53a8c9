-- `clear_few`: the first, the last and in a gap the second eight zeros are all of them.
use Prim.Native.Nat.{ℕ, ◌+◌, ◌-◌, ◌≤◌, ◌<◌}
use mathlib.Core.Path.{◌≡◌, ap, ◌∙◌}
use mathlib.Core.Logic.{◌⊎◌, inl, inr}
use mathlib.Core.List.{List}
use Rattle.wire.specs.Numbers.{put}
use Rattle.low.specs.Low.{low_bytes}
use Rattle.words.proofs.WordLaws.{clear-put}
use Rattle.words.proofs.clear_few.Goals.{then-end-at-gt16, else-end-at-gt16}
use Rattle.words.proofs.clear_few.Goals as goal

pub returns : goal.returns
returns c =
    let d = c.args.buffer.now in
    let at = c.args.at in
    let end = c.args.end in
    let x = c.if-end-at-gt16.buffer in
    let way : ((16 < end - at) × (x ≡ put (put d at (low_bytes 8 0)) (at + 8) (low_bytes 8 0))) ⊎ ((end - at ≤ 16) × (x ≡ put d at (low_bytes 8 0))) =
    elim c.if-end-at-gt16.branch [
      | then-end-at-gt16 w ↦ inl (w.if-end-at-gt16.true, w.buffer-is ∙ w.put_eight-then-end-at-gt16.ensures ∙ ap (λ (l : List ℕ). put l (at + 8) (low_bytes 8 0)) c.put_eight.ensures)
      | else-end-at-gt16 w ↦ inr (w.if-end-at-gt16.false, w.buffer-is ∙ c.put_eight.ensures)
    ] in
    c.put_eight-2.ensures ∙ clear-put d at end c.requires.end_in_bounds x way c.requires.at_bound.0 c.requires.at_bound.1
