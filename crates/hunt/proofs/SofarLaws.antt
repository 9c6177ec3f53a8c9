-- How the hunting code gets on, for any set of heads: the board on its way through the stream, and its replies in the output.
use Prim.Native.Nat.{ℕ, ◌+◌, ◌-◌, ◌≤◌}
use mathlib.Core.Path.{◌≡◌, refl, sym, ap, ◌∙◌, subst}
use mathlib.Core.List.{List, [], ◌∷◌, ◌++◌, append-nil}
use native.Mathlib.Nat.{add-zero}
use native.Mathlib.Omega.{arith}
use lib.ListN.{length, take, drop, length-append, length-drop}
use Rattle.wire.specs.Sizes.{frame_most}
use Rattle.wire.specs.Frames.{Heads, look, Take, Tear, Passed}
use Rattle.wire.specs.Replies.{Reply, reply_bytes, replies_bytes}
use Rattle.wire.specs.Run.{Along}
use Rattle.wire.proofs.CutLaws.{take-room}
use Rattle.wire.proofs.PutLaws.{put-nil, put-put, length-put}
use Rattle.wire.proofs.ReplyLaws.{written-append, written_one}
use Rattle.wire.proofs.AlongLaws.{along-start, along-pass, along-tear, along-take}
use Rattle.record.specs.Record.{Record}
use Rattle.command.specs.Step.{step_of, on_piece}
use Rattle.carry.specs.Carry.{Carries}
use Rattle.command.specs.Hunt.{room_for}
use Rattle.hunt.specs.Progress.{Sofar}

module _ (heads : Heads) (r : Record) (l before : List ℕ) (start : ℕ) where
  pub sofar-start : Sofar heads r l before start r 0 0 start before
  unfolding replies_bytes
  sofar-start = record { said = []; along = along-start Record Reply heads on_piece r l; room = omega arith; wrote_is = sym (add-zero start); bytes = sym (put-nil before start) }

  module _ (b : Record) (at skipped wrote : ℕ) (out : List ℕ) (f : Sofar heads r l before start b at skipped wrote out) where
    pub sofar-pass : (to : ℕ) → Passed heads l at to → Sofar heads r l before start b to (skipped + (to - at)) wrote out
    sofar-pass to p = record { said = f.said; along = along-pass Record Reply heads on_piece r l b at skipped f.said f.along to p; room = omega (arith, f.room, p.after); wrote_is = f.wrote_is; bytes = f.bytes }

    pub sofar-tear : look heads (drop at l) ≡ Tear → Sofar heads r l before start b (at + 1) (skipped + 1) wrote out
    sofar-tear e = record {
      said = f.said;
      along = subst (Along heads on_piece r l b (at + 1) (skipped + 1)) (append-nil f.said) (along-tear Record Reply heads on_piece r l b at skipped f.said f.along e);
      room = omega (arith, f.room);
      wrote_is = f.wrote_is;
      bytes = f.bytes;
    }

    module _ (room : start + room_for (length l) ≤ length before) where
      pub sofar-long : length out ≡ length before
      sofar-long = ap length f.bytes ∙ length-put before start (replies_bytes f.said) (omega (arith, f.room, f.along.within))

      -- the reply to a frame fits into what is left of the output
      pub sofar-room : (n : ℕ) → look heads (drop at l) ≡ Take n → wrote + frame_most ≤ length out
      sofar-room n e =
          let whole = take-room heads (drop at l) n e in
          omega (arith, f.room, f.wrote_is, whole.0, length-drop at l, sofar-long)

      pub sofar-take : (n : ℕ) → look heads (drop at l) ≡ Take n → (end : ℕ) (kept out' : List ℕ) → Carries b (take (4 + n) (drop at l)) out wrote end kept out'
          → Sofar heads r l before start (step_of b (take (4 + n) (drop at l))).after (at + 4 + n) skipped end out'
      sofar-take n e end kept out' c =
          let a = step_of b (take (4 + n) (drop at l)) in
          let x : List ℕ = reply_bytes a.reply in
          let w : List ℕ = replies_bytes f.said in
          let k : start + length w ≤ length before = omega (arith, f.room, f.along.within) in
          let m : replies_bytes (f.said ++ a.reply ∷ []) ≡ w ++ x = written-append f.said (a.reply ∷ []) ∙ rw (written_one a.reply) refl in
          let v : length (w ++ x) ≡ length w + length x = length-append w x in
          record {
            said = f.said ++ a.reply ∷ [];
            along = along-take Record Reply heads on_piece r l b at skipped f.said f.along n e;
            room = rw (m, v) (omega (arith, f.room, c.small, c.ends));
            wrote_is = rw (m, v) (omega (arith, f.wrote_is, c.ends));
            bytes = c.bytes ∙ rw (m, f.wrote_is, f.bytes) (put-put before start w x k);
          }
