-- How far the hunting code has come, for any set of heads, with the record in its bytes.
use Prim.Native.Nat.{ℕ, ◌+◌, ◌-◌, ◌≤◌}
use mathlib.Core.Path.{◌≡◌, subst}
use mathlib.Core.List.{List}
use native.Mathlib.Omega.{arith}
use lib.ListN.{length, take, drop}
use mathlib.Core.Bool.{true}
use Rattle.wire.specs.Sizes.{frame_most}
use Rattle.wire.specs.Numbers.{Bytes}
use Rattle.wire.specs.Frames.{Heads, look, Take, Tear, Passed}
use Rattle.wire.specs.Serial.{is_head, head_of}
use Rattle.wire.proofs.CutLaws.{fair-whole}
use Rattle.wire.proofs.SerialLaws.{Huntable, taken-headed}
use Rattle.wire.proofs.AlongLaws.{found-room, found_part}
use Rattle.record.specs.Record.{Record}
use Rattle.record.specs.Layout.{record_size, record_of}
use Rattle.record.specs.InPlace.{Sound}
use Rattle.record.proofs.InPlaceLaws.{holds-is, holds-sound, holds-long}
use Rattle.command.specs.Step.{step_of}
use Rattle.carry.specs.Carry.{Carries}
use Rattle.command.specs.Hunt.{room_for}
use Rattle.finder.specs.declared.Seen.TheVariants.{Frame}
use Rattle.finder.specs.declared.Found.{Found}
use Rattle.finder.specs.Finder.{Finds}
use Rattle.finder.proofs.FinderLaws.{shown-frame}
use Rattle.hunt.specs.Progress.{Sofar, Going}
use Rattle.hunt.proofs.SofarLaws.{sofar-start, sofar-pass, sofar-tear, sofar-long, sofar-room, sofar-take}

-- a frame that the finder stopped at is there whole
pub frame_whole : {heads : Heads} {l : List ℕ} {from until n : ℕ} {found : Found} → Finds heads l from until found → found.seen ≡ Frame n → found.at + 4 + n ≤ length l
frame_whole {heads} {l} {from} {until} {n} {found} f e = found-room heads l found.at n (shown-frame heads l from until found f n e)

module _ {heads : Heads} {l before : List ℕ} {start : ℕ} where
  pub going_start : {s : List ℕ} → Sound s → Going heads (record_of s) l before start 0 0 start s before
  going_start {s} h = record { board = record_of s; held = h; sofar = sofar-start heads (record_of s) l before start }

  module _ {r : Record} {at skipped wrote : ℕ} {kept out : List ℕ} (g : Going heads r l before start at skipped wrote kept out) where
    pub going-sound : Sound kept
    going-sound = holds-sound g.board kept g.held

    pub going-kept : length kept ≡ record_size
    going-kept = holds-long g.board kept g.held

    module _ (room : start + room_for (length l) ≤ length before) where
      pub going-long : length out ≡ length before
      going-long = sofar-long heads r l before start g.board at skipped wrote out g.sofar room

      module _ {n : ℕ} (e : look heads (drop at l) ≡ Take n) where
        -- what `carry` asks of a frame, the part of the stream that is handed on
        pub going-room : wrote + frame_most ≤ length out
        going-room = sofar-room heads r l before start g.board at skipped wrote out g.sofar room n e

        pub going-frame : Huntable heads → Bytes l → (4 ≤ length (take (at + 4 + n - at) (drop at l))) × (is_head (head_of (take (at + 4 + n - at) (drop at l))) ≡ true)
        going-frame ok b = rw (found_part heads l at n e) ((fair-whole heads l b at n e).0, taken-headed heads ok (drop at l) n e)

        pub going-carried : {end : ℕ} {kept' out' : List ℕ} → Carries (record_of kept) (take (at + 4 + n - at) (drop at l)) out wrote end kept' out' → Going heads r l before start (at + 4 + n) skipped end kept' out'
        going-carried {end} {kept'} {out'} c =
            let part : Carries (record_of kept) (take (4 + n) (drop at l)) out wrote end kept' out' = subst (λ (f : List ℕ). Carries (record_of kept) f out wrote end kept' out') (found_part heads l at n e) c in
            let d : Carries g.board (take (4 + n) (drop at l)) out wrote end kept' out' =
            subst (λ (b : Record). Carries b (take (4 + n) (drop at l)) out wrote end kept' out') (holds-is g.board kept g.held) part in
            record { board = (step_of g.board (take (4 + n) (drop at l))).after; held = d.held; sofar = sofar-take heads r l before start g.board at skipped wrote out g.sofar room n e end kept' out' d }

-- with the bytes of frames counted, so that all others up to the place are skipped
module _ {heads : Heads} {l before : List ℕ} {start : ℕ} {r : Record} {at framed wrote : ℕ} {kept out : List ℕ} (few : framed ≤ at) (g : Going heads r l before start at (at - framed) wrote kept out) where
  pub framed-pass : {to : ℕ} → Passed heads l at to → Going heads r l before start to (to - framed) wrote kept out
  framed-pass {to} p =
      let e : at - framed + (to - at) ≡ to - framed = omega (arith, p.after) in
      record { board = g.board; held = g.held; sofar = subst (λ (k : ℕ). Sofar heads r l before start g.board to k wrote out) e (sofar-pass heads r l before start g.board at (at - framed) wrote out g.sofar to p) }

  pub framed-tear : look heads (drop at l) ≡ Tear → Going heads r l before start (at + 1) (at + 1 - framed) wrote kept out
  framed-tear t =
      let e : at - framed + 1 ≡ at + 1 - framed = omega arith in
      record { board = g.board; held = g.held; sofar = subst (λ (k : ℕ). Sofar heads r l before start g.board (at + 1) k wrote out) e (sofar-tear heads r l before start g.board at (at - framed) wrote out g.sofar t) }

  pub framed-carried : start + room_for (length l) ≤ length before → {n : ℕ} → look heads (drop at l) ≡ Take n → {end : ℕ} {kept' out' : List ℕ}
      → Carries (record_of kept) (take (at + 4 + n - at) (drop at l)) out wrote end kept' out' → Going heads r l before start (at + 4 + n) (at + 4 + n - (framed + 4 + n)) end kept' out'
  framed-carried room {n} t {end} {kept'} {out'} c =
      let e : at - framed ≡ at + 4 + n - (framed + 4 + n) = omega arith in
      subst (λ (k : ℕ). Going heads r l before start (at + 4 + n) k end kept' out') e (going-carried g room t c)
