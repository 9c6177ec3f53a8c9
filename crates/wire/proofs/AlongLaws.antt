-- A hunt on its way through a stream, for any heads, state and answer: start, bytes passed, a broken head, a frame, the end.
use Prim.Native.Nat.{ℕ, ◌+◌, ◌-◌, ◌≤◌}
use mathlib.Core.Path.{◌≡◌, refl, sym, ◌∙◌}
use mathlib.Core.List.{List, [], ◌++◌, append-nil}
use mathlib.Core.Logic.{◌⊎◌, ⊎_elim}
use native.Mathlib.Nat.{add-zero, add_assoc}
use native.Mathlib.Omega.{arith}
use lib.ListN.{length, get_or, take, drop, length-drop, drop_of_length-le}
use lib.Seq.{drop-drop}
use Rattle.wire.specs.Frames.{Heads, Wait, Take, Tear, look, Piece, Whole, Broken, Passed}
use Rattle.wire.specs.Run.{Run, hunt, halt, ahead, Along}
use Rattle.wire.proofs.CutLaws.{take-room, tear-room}
use Rattle.wire.proofs.Stretches.{passed-cuts}
use Rattle.wire.proofs.RunLaws.{ahead_none, ahead-ahead, hunt-nil, hunt-wait, hunt-pass, hunt-take, hunt-tear}

module _ (S A : Type 0) (heads : Heads) (answer : S → Piece → Run S A) where
  module _ (s : S) (l : List ℕ) where
    pub along-start : Along heads answer s l s 0 0 []
    along-start = record { within = omega arith; few = omega arith; hunts = sym (ahead_none S A (hunt heads answer s l)) }

    module _ (b : S) (at skipped : ℕ) (said : List A) (f : Along heads answer s l b at skipped said) where
      pub along-pass : (to : ℕ) → Passed heads l at to → Along heads answer s l b to (skipped + (to - at)) said
      along-pass to p = record {
        within = p.inside;
        few = omega (arith, f.few, p.after);
        hunts = f.hunts
            ∙ rw (hunt-pass S A heads answer b (drop at l) (drop to l) (to - at) (passed-cuts heads l at to p), ahead-ahead S A said [] skipped (to - at) (hunt heads answer b (drop to l)), append-nil said) refl;
      }

      pub along-tear : look heads (drop at l) ≡ Tear → let a = answer b (Broken (get_or (drop at l) 1 0)) in Along heads answer s l a.state (at + 1) (skipped + 1) (said ++ a.said)
      along-tear e =
          let a = answer b (Broken (get_or (drop at l) 1 0)) in
          let room : 4 ≤ length (drop at l) = tear-room heads (drop at l) e in
          let q : hunt heads answer b (drop at l) ≡ ahead a.said 1 (hunt heads answer a.state (drop (at + 1) l)) = hunt-tear S A heads answer b (drop at l) e ∙ rw (drop-drop 1 at l) refl in
          record {
            within = omega (arith, length-drop at l);
            few = omega (arith, f.few);
            hunts = f.hunts ∙ rw (q, ahead-ahead S A said a.said skipped 1 (hunt heads answer a.state (drop (at + 1) l))) refl;
          }

      pub along-take : (n : ℕ) → look heads (drop at l) ≡ Take n → let a = answer b (Whole (take (4 + n) (drop at l))) in Along heads answer s l a.state (at + 4 + n) skipped (said ++ a.said)
      along-take n e =
          let a = answer b (Whole (take (4 + n) (drop at l))) in
          let room = take-room heads (drop at l) n e in
          let d : drop (4 + n) (drop at l) ≡ drop (at + 4 + n) l = drop-drop (4 + n) at l ∙ rw (add_assoc at 4 n) refl in
          let q : hunt heads answer b (drop at l) ≡ ahead a.said 0 (hunt heads answer a.state (drop (at + 4 + n) l)) = hunt-take S A heads answer b n (drop at l) e ∙ rw d refl in
          record {
            within = omega (arith, room.0, length-drop at l);
            few = omega (arith, f.few);
            hunts = f.hunts ∙ rw (q, ahead-ahead S A said a.said skipped 0 (hunt heads answer a.state (drop (at + 4 + n) l)), add-zero skipped) refl;
          }

      -- nothing is left to do
      pub along-end : hunt heads answer b (drop at l) ≡ halt b (drop at l) → hunt heads answer s l ≡ record { state = b; said = said; skipped = skipped; waiting = drop at l }
      along-end q = f.hunts ∙ rw (q, append-nil said, add-zero skipped) refl

  -- at the end of a stream, and at a candidate that waits, a hunt stops
  pub stopped : (b : S) (l : List ℕ) (at until : ℕ) → length l ≤ until → (until ≤ at) ⊎ (look heads (drop at l) ≡ Wait) → hunt heads answer b (drop at l) ≡ halt b (drop at l)
  stopped b l at until h w =
      ⊎_elim
      (λ e. let past : length l ≤ at = omega arith in rw (drop_of_length-le l past) (hunt-nil S A heads answer b))
      (λ e. hunt-wait S A heads answer b (drop at l) e)
      w

-- a frame that was found, as the part of the stream that holds it
module _ (heads : Heads) (l : List ℕ) (at n : ℕ) (e : look heads (drop at l) ≡ Take n) where
  pub found-room : at + 4 + n ≤ length l
  found-room = let w = take-room heads (drop at l) n e in omega (arith, w.0, length-drop at l)

  pub found_part : take (at + 4 + n - at) (drop at l) ≡ take (4 + n) (drop at l)
  found_part = let m : at + 4 + n - at ≡ 4 + n = omega arith in rw m refl
