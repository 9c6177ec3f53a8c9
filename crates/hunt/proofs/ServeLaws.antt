-- A bytes call that passed its checks, for any set of heads: first the candidates that start in the pending bytes, then the input itself.
use Prim.Native.Nat.{ℕ, ◌+◌, ◌-◌, ◌≤◌, ◌<◌}
use mathlib.Core.Path.{◌≡◌, refl, sym, ap, ◌∙◌, subst}
use mathlib.Core.List.{List, [], ◌∷◌, ◌++◌, append_assoc}
use mathlib.Core.Logic.{◌⊎◌, ⊎_elim}
use native.Mathlib.Nat.{zero-add}
use native.Mathlib.Omega.{arith}
use lib.ListN.{length, take, drop, length-append, length-drop, take-append-drop}
use lib.Seq.{take_all, length-take-le, drop-append-le, drop-append-add}
use Rattle.wire.specs.Sizes.{frame_most, wait_most}
use Rattle.wire.specs.Numbers.{put}
use Rattle.wire.specs.Frames.{Heads, look, Wait, cut}
use Rattle.wire.specs.Serial.{serial}
use Rattle.wire.specs.Replies.{Reply, replies_bytes}
use Rattle.wire.specs.Run.{Hunted, hunt, halt, ahead, Along}
use Rattle.wire.proofs.CutLaws.{wait-short}
use Rattle.wire.proofs.SerialLaws.{Huntable, waiting-short}
use Rattle.wire.proofs.PutLaws.{put-put, length-put}
use Rattle.wire.proofs.ReplyLaws.{written-append}
use Rattle.wire.proofs.RunLaws.{hunt-wait, hunt-further}
use Rattle.wire.proofs.AlongLaws.{along-end, stopped}
use Rattle.record.specs.Record.{Record, with_pending}
use Rattle.record.specs.Layout.{bytes_of, record_of}
use Rattle.record.specs.InPlace.{Turns}
use Rattle.record.proofs.InPlaceLaws.{holds-is}
use Rattle.command.specs.Step.{on_piece}
use Rattle.command.specs.Hunt.{hunt_of, record_after, room_for}
use Rattle.hunt.specs.Progress.{Hunts, Serves}
use Rattle.hunt.specs.declared.Progress.{Progress}
use Rattle.hunt.specs.declared.Counts.{Counts}

-- what such a call leaves, by the heads and its whole stream
pub record ServesFor (heads : Heads) (r : Record) (l before : List ℕ) (t : Counts) (kept out : List ℕ) : Type 0 where
  pub record_is : kept ≡ bytes_of (record_after (hunt heads on_piece r l))
  pub written_is : t.written ≡ length (replies_bytes (hunt heads on_piece r l).said)
  pub skipped_is : t.skipped ≡ (hunt heads on_piece r l).skipped
  pub bytes : out ≡ put before 0 (replies_bytes (hunt heads on_piece r l).said)

-- the board's own call
pub serves-board : {r : Record} {input before : List ℕ} {t : Counts} {kept out : List ℕ} → ServesFor serial r (r.pending ++ input) before t kept out → Serves r input before t kept out
unfolding hunt_of
serves-board e = record { record_is = e.record_is; written_is = e.written_is; skipped_is = e.skipped_is; bytes = e.bytes }

after-of : (h : Hunted Record Reply) → record_after h ≡ with_pending h.state h.waiting
unfolding record_after
after-of h = refl

-- what waits at the end of a hunt is short
pub halted-short : (heads : Heads) → Huntable heads → (b : Record) (g : List ℕ) → hunt heads on_piece b g ≡ halt b g → length g ≤ wait_most
unfolding hunt
halted-short heads ok b g e =
    let w : (cut heads g).waiting ≡ g = ap (λ (h : Hunted Record Reply). h.waiting) e in
    subst (λ (x : List ℕ). length x ≤ wait_most) w (waiting-short heads ok g)

pub none-there : (p : List ℕ) → length p ≡ 0 → p ≡ []
none-there [] e = refl
none-there (x ∷ p) e = absurd (omega arith)

-- ---- the pending bytes p and as much of the input i as a candidate that starts in them can reach

module _ (p i : List ℕ) (n : ℕ) (n-is : n ≡ length i - (length i - frame_most)) where
  abbrev joined : List ℕ
  joined = p ++ take n i

  front_length : length (take n i) ≡ n
  front_length = length-take-le n i (omega arith)

  pub joined_length : length joined ≡ length p + n
  joined_length = length-append p (take n i) ∙ rw front_length refl

  module _ (heads : Heads) (ok : Huntable heads) (r b : Record) (at k : ℕ) (said : List Reply) (f : Along heads on_piece r joined b at k said) where
    -- a candidate that starts in the pending bytes and waits has seen all of the input
    waits-all : at < length p → (length p ≤ at) ⊎ (look heads (drop at joined) ≡ Wait) → (joined ≡ p ++ i) × (hunt heads on_piece b (drop at joined) ≡ halt b (drop at joined))
    waits-all h w = ⊎_elim (λ e. absurd (omega arith))
        (λ e.
        let q : length (drop at joined) < frame_most = wait-short heads frame_most ok.under (drop at joined) e in
        let m : length i ≤ n = omega (arith, length-drop at joined, joined_length) in
        (rw (take_all n i m) refl, hunt-wait Record Reply heads on_piece b (drop at joined) e)) w

    -- else what is left is a part of the input
    goes_on : length p ≤ at → hunt heads on_piece r (p ++ i) ≡ ahead said k (hunt heads on_piece b (drop (at - length p) i))
    goes_on h =
        let w : joined ++ drop n i ≡ p ++ i = append_assoc p (take n i) (drop n i) ∙ rw (take-append-drop n i) refl in
        let j : length p + (at - length p) ≡ at = omega arith in
        let d : drop at joined ++ drop n i ≡ drop (at - length p) i =
        sym (drop-append-le at joined (drop n i) f.within) ∙ ap (drop at) w ∙ ap (λ (x : ℕ). drop x (p ++ i)) (sym j) ∙ drop-append-add p i (at - length p) in
        ap (hunt heads on_piece r) (sym w) ∙ hunt-further Record Reply heads on_piece ok.steady r b joined (drop at joined) (drop n i) said k f.hunts ∙ rw d refl

-- ---- the end, by what was said

module _ (p input : List ℕ) {heads : Heads} {r : Record} {before : List ℕ} where
  serves-said : (b : Record) (said : List Reply) (k wrote : ℕ) (rest kept out : List ℕ)
      → hunt heads on_piece r (p ++ input) ≡ record { state = b; said = said; skipped = k; waiting = rest } → kept ≡ bytes_of (with_pending b rest)
      → wrote ≡ length (replies_bytes said) → out ≡ put before 0 (replies_bytes said) → ServesFor heads r (p ++ input) before (record { written = wrote; skipped = k }) kept out
  serves-said b said k wrote rest kept out h e w o = record { record_is = rw (h, after-of) e; written_is = rw h w; skipped_is = rw h refl; bytes = rw h o }

  -- no bytes are pending, and the stream is the input
  pub serves-input : p ≡ [] → {x : Progress} {mid kept out : List ℕ} → Hunts heads r input before (length input) 0 x mid out → Turns mid kept (λ z. with_pending z (drop x.at input))
      → ServesFor heads r (p ++ input) before x.counts kept out
  serves-input none {x} {mid} {kept} {out} y t =
      let g = y.going in
      let halts : hunt heads on_piece g.board (drop x.at input) ≡ halt g.board (drop x.at input) = stopped Record Reply heads on_piece g.board input x.at (length input) (omega arith) y.stops in
      serves-said g.board g.sofar.said x.counts.skipped x.counts.written (drop x.at input) kept out
      (rw none (along-end Record Reply heads on_piece r input g.board x.at x.counts.skipped g.sofar.said g.sofar.along halts))
      (t g.board g.held.fit g.held.same) (g.sofar.wrote_is ∙ zero-add _) g.sofar.bytes

  module _ {n : ℕ} (n-is : n ≡ length input - (length input - frame_most)) {h : Progress} {kept out : List ℕ}
      (f : Hunts heads r (p ++ take n input) before (length p) 0 h kept out) where
    abbrev head : List ℕ
    head = p ++ take n input

    abbrev rest : List ℕ
    rest = drop (h.at - length p) input

    -- all waits in the joined head
    module _ (ok : Huntable heads) (a : h.at < length p) where
      all : (head ≡ p ++ input) × (hunt heads on_piece f.going.board (drop h.at head) ≡ halt f.going.board (drop h.at head))
      all = waits-all p input n n-is heads ok r f.going.board h.at h.counts.skipped f.going.sofar.said f.going.sofar.along a f.stops

      pub head-short : length (drop h.at head) ≤ wait_most
      head-short = halted-short heads ok f.going.board (drop h.at head) all.1

      pub serves-head : {kept' : List ℕ} → Turns kept kept' (λ x. with_pending x (drop h.at head)) → ServesFor heads r (p ++ input) before h.counts kept' out
      serves-head {kept'} t =
          let g = f.going in
          serves-said g.board g.sofar.said h.counts.skipped h.counts.written (drop h.at head) kept' out
          (ap (hunt heads on_piece r) (sym all.0) ∙ along-end Record Reply heads on_piece r head g.board h.at h.counts.skipped g.sofar.said g.sofar.along all.1)
          (t g.board g.held.fit g.held.same) (g.sofar.wrote_is ∙ zero-add _) g.sofar.bytes

    -- the hunt went on in the input
    module _ (past : length p ≤ h.at) (room : room_for (length p + length input) ≤ length before) where
      pub rest-starts : h.at - length p ≤ length input
      rest-starts = omega (arith, f.going.sofar.along.within, joined_length p input n n-is)

      said_fits : 0 + length (replies_bytes f.going.sofar.said) ≤ length before
      said_fits = omega (arith, f.going.sofar.room, f.going.sofar.along.within, joined_length p input n n-is)

      pub rest-room : h.counts.written + room_for (length rest) ≤ length out
      rest-room =
          let m : length out ≡ length before = ap length f.going.sofar.bytes ∙ length-put before 0 (replies_bytes f.going.sofar.said) said_fits in
          omega (arith, f.going.sofar.room, f.going.sofar.wrote_is, rest-starts, length-drop (h.at - length p) input)

      module _ {x : Progress} {kept₂ out₂ : List ℕ} (y : Hunts heads (record_of kept) rest out (length rest) h.counts.written x kept₂ out₂) where
        end-halts : hunt heads on_piece y.going.board (drop x.at rest) ≡ halt y.going.board (drop x.at rest)
        end-halts = stopped Record Reply heads on_piece y.going.board rest x.at (length rest) (omega arith) y.stops

        pub serves-rest : Huntable heads → {kept₃ : List ℕ} → Turns kept₂ kept₃ (λ z. with_pending z (drop x.at rest)) → ServesFor heads r (p ++ input) before (record { written = x.counts.written; skipped = h.counts.skipped + x.counts.skipped }) kept₃ out₂
        serves-rest ok {kept₃} t =
            let g = f.going in
            let u = y.going in
            let said = g.sofar.said in
            let more = u.sofar.said in
            let v : replies_bytes (said ++ more) ≡ replies_bytes said ++ replies_bytes more = written-append said more in
            let first : hunt heads on_piece r (p ++ input) ≡ ahead said h.counts.skipped (hunt heads on_piece g.board rest) =
            goes_on p input n n-is heads ok r g.board h.at h.counts.skipped said g.sofar.along past in
            let second : hunt heads on_piece g.board rest ≡ record { state = u.board; said = more; skipped = x.counts.skipped; waiting = drop x.at rest } =
            ap (λ (b : Record). hunt heads on_piece b rest) (sym (holds-is g.board kept g.held))
            ∙ along-end Record Reply heads on_piece (record_of kept) rest u.board x.at x.counts.skipped more u.sofar.along end-halts in
            serves-said u.board (said ++ more) (h.counts.skipped + x.counts.skipped) x.counts.written (drop x.at rest) kept₃ out₂ (first ∙ rw second refl)
            (t u.board u.held.fit u.held.same)
            (u.sofar.wrote_is ∙ rw (v, g.sofar.wrote_is, zero-add) (sym (length-append (replies_bytes said) (replies_bytes more))))
            (u.sofar.bytes ∙ rw (v, g.sofar.wrote_is, g.sofar.bytes) (put-put before 0 (replies_bytes said) (replies_bytes more) said_fits))
