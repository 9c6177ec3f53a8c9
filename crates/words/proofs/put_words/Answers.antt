-- `put_words`: the first, the last and in a gap the second N bytes are the part.
use Rattle.std.proofs.Common.{◌≡◌, ◌⊎◌, ◌+◌, ◌-◌, ◌≤◌, ◌<◌, ◌∙◌, inl, inr, ap, arith, length}
use Rattle.wire.specs.Numbers.{bytes_at, put}
use Rattle.wire.proofs.NumberLaws.{length_part}
use Rattle.words.proofs.WordLaws.{two-words, gap-put}
use Rattle.words.proofs.put_words.Goals.{then-n, else-n}
use Rattle.words.proofs.put_words.Goals as goal

pub returns : goal.returns
returns g c =
    let k = g.row.N in
    let d = c.args.buffer.now in
    let at = c.args.at in
    let part = c.args.part.now in
    let x = c.if-n.buffer in
    let way : ((k < length part - k) × (x ≡ put d (at + k) (bytes_at k part k))) ⊎ ((length part - k ≤ k) × (x ≡ d)) =
    elim c.if-n.branch [
      | then-n w ↦ inl (w.if-n.true, w.buffer-is ∙ w.put_in.ensures.1 ∙ ap (put d (at + k)) w.bytes_from-second.ensures)
      | else-n w ↦ inr (w.if-n.false, w.buffer-is)
    ] in (
      omega (arith, ap length c.bytes_from-last.ensures, length_part k part (length part - k), c.put_in-3.ensures.0),
      two-words _ _ _ _ _ _ _ _ _ c.bytes_from-first.ensures c.put_in-2.ensures.1 c.bytes_from-last.ensures c.put_in-3.ensures.1
          ∙ gap-put d at part c.requires.part_in_bounds k x way c.requires.in_bounds.0 c.requires.in_bounds.1,
    )
