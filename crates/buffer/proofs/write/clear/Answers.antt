-- `clear`: zeros filled into a slice of the buffer are put.
use Rattle.std.proofs.Common.{ℕ, ◌-◌, ◌≡◌, replicate, List, ◌∙◌, ap, rules, arith}
use Rattle.std.proofs.lemmas.List.Edits.{length-between}
use lib.ListN.{length-replicate}
use Rattle.wire.proofs.PutLaws.{put-mid}
use Rattle.buffer.proofs.write.clear.Goals as goal

pub returns : goal.returns
returns c =
    let d : List ℕ = c.args.buffer.now in
    let at : ℕ = c.args.at in
    let n : ℕ = c.args.end - at in
    let long = length-between d at c.args.end (omega arith) in
    let zeros : c.fill.new.self ≡ replicate n 0 = c.fill.ensures.after (λ y h. search rules) ∙ ap (λ (k : ℕ). replicate k 0) long in
    rw zeros (put-mid d at n (replicate n 0) (omega (arith, length-replicate {A = ℕ})))
