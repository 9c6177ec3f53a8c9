-- The joined head of a stream, as the code builds it and hands it on, for any set of heads.
use Prim.Native.Nat.{ℕ, ◌+◌, ◌-◌, ◌≤◌, ◌<◌, min}
use mathlib.Core.Path.{◌≡◌, refl, sym, ap, ◌∙◌, subst}
use mathlib.Core.List.{List, ◌++◌}
use native.Mathlib.Omega.{arith}
use lib.ListN.{length, get_or, take, drop, length-append, length-drop}
use lib.Seq.{take_at, take_all, length-take-le, take-take}
use Rattle.wire.specs.Sizes.{frame_most, wait_most, join_most}
use Rattle.command.specs.Hunt.{room_for}
use Rattle.wire.specs.Numbers.{bytes_at, put}
use Rattle.wire.specs.Frames.{Heads}
use Rattle.wire.specs.Replies.{Reply}
use Rattle.wire.proofs.NumberLaws.{part-is, drop-take}
use Rattle.wire.proofs.PutLaws.{put-put, put-zero}
use Rattle.wire.proofs.SerialLaws.{Huntable, pending-short}
use Rattle.wire.proofs.AlongLaws.{stopped}
use Rattle.record.specs.Record.{Record, with_pending}
use Rattle.record.specs.Layout.{pending_room, at_pending_length, at_pending, record_of}
use Rattle.record.specs.InPlace.{Sound, Turns, SoundPending}
use Rattle.record.proofs.InPlaceLaws.{holds-long, sound-pending}
use Rattle.record.proofs.Lens.{get-pending-length}
use Rattle.command.specs.Step.{on_piece}
use Rattle.hunt.specs.Progress.{Hunts, Rests, Joins}
use Rattle.hunt.specs.declared.Progress.{Progress}
use Rattle.hunt.proofs.GoingLaws.{going-sound}
use Rattle.hunt.proofs.ServeLaws.{ServesFor, halted-short, head-short, serves-head, rest-starts, rest-room, serves-rest}

abbrev reached : List ℕ → ℕ
reached i = length i - (length i - frame_most)

pub reach-long : (n : ℕ) (i : List ℕ) → n ≡ min (length i) frame_most → length (take n i) ≡ n
reach-long n i e = length-take-le n i (omega arith)

module _ (s : List ℕ) (at held : ℕ) (inside : at + held ≤ length s) where
  part_held : take (at + held - at) (drop at s) ≡ take held (drop at s)
  part_held = let m : at + held - at ≡ held = omega arith in rw m refl

  pub held-long : length (take (at + held - at) (drop at s)) ≡ held
  held-long = rw part_held (length-take-le held (drop at s) (rw (length-drop at s) (omega arith)))

  -- two parts copied one behind the other
  pub joined_is : (input d x y : List ℕ) (n end total : ℕ) → held ≤ wait_most → length d ≡ join_most → n ≡ min (length input) frame_most
      → end ≡ 0 + length (take (at + held - at) (drop at s)) → x ≡ put d 0 (take (at + held - at) (drop at s))
      → total ≡ end + length (take n input) → y ≡ put x end (take n input) → Joins (take held (drop at s)) input total y
  joined_is input d x y n end total k w e a b c f =
      let p : List ℕ = take held (drop at s) in
      let long : length p ≡ held = rw part_held at held-long in
      let front : length (take n input) ≡ n = reach-long n input e in
      let a' : end ≡ 0 + length p = rw part_held at a in
      let b' : x ≡ put d 0 p = rw part_held at b in
      let all : y ≡ put d 0 (p ++ take n input) = f ∙ rw (b', a') (put-put d 0 p (take n input) (omega arith)) in
      let size : total ≡ length (p ++ take n input) = c ∙ rw (a', length-append p (take n input)) (omega arith) in
      let e' : n ≡ reached input = omega arith in
      rw (← e') (omega arith, rw (all, put-zero d (p ++ take n input)) (take_at (p ++ take n input) (drop (length (p ++ take n input)) d) total (sym size)))

pub part-rest : (l : List ℕ) (at : ℕ) → take (length l - at) (drop at l) ≡ drop at l
part-rest l at = take_all (length l - at) (drop at l) (rw length-drop (omega arith))

pub rest_long : (l : List ℕ) (at : ℕ) → length (take (length l - at) (drop at l)) ≤ length l
rest_long l at = rw (part-rest l at, length-drop at l) (omega arith)

-- what the store of the pending bytes asks for
roomed : (s : List ℕ) (m : ℕ) → Sound s × (m ≤ pending_room) → SoundPending at_pending_length pending_room s × ((m ≤ pending_room) × ((8 ≤ pending_room) × (pending_room ≤ 24)))
roomed s m h = (sound-pending s h.0, (h.1, (omega arith, omega arith)))

-- ---- the whole of a stream

module _ {heads : Heads} {r : Record} {l before : List ℕ} {start : ℕ} {p : Progress} {mid out : List ℕ} (h : Hunts heads r l before (length l) start p mid out) where
  pub rests-ask : Huntable heads → SoundPending at_pending_length pending_room mid × ((length (take (length l - p.at) (drop p.at l)) ≤ pending_room) × ((8 ≤ pending_room) × (pending_room ≤ 24)))
  rests-ask ok = roomed mid _ (going-sound h.going, rw (part-rest l p.at) (omega (arith, halted-short heads ok h.going.board (drop p.at l) (stopped Record Reply heads on_piece h.going.board l p.at (length l) (omega arith) h.stops))))

  pub rests : {kept : List ℕ} → Turns mid kept (λ z. with_pending z (take (length l - p.at) (drop p.at l))) → Rests heads r l before start p kept out
  rests {kept} t = record { mid = mid; hunts = h; turns = subst (λ (x : List ℕ). Turns mid kept (λ z. with_pending z x)) (part-rest l p.at) t }

-- ---- the pending bytes in their place

module _ (s : List ℕ) (sound : Sound s) where
  abbrev r : Record
  r = record_of s

  pub held-is : get_or s at_pending_length 0 ≡ length r.pending
  held-is = ap (λ (x : List ℕ). get_or x at_pending_length 0) sound.same ∙ get-pending-length r

  pub held-few : get_or s at_pending_length 0 ≤ wait_most
  held-few = omega (arith, held-is, pending-short r.pending sound.fit.pending)

  pub held_fits : get_or s at_pending_length 0 ≤ pending_room
  held_fits = omega (arith, held-few)

  -- with their number handed on
  module _ (held : ℕ) (is : held ≡ length r.pending) where
    read_is : held ≡ get_or s at_pending_length 0
    read_is = is ∙ sym held-is

    pub number_few : held ≤ wait_most
    number_few = omega (arith, read_is, held-few)

    pub number_inside : at_pending + held ≤ length s
    number_inside = omega (arith, number_few, holds-long r s sound)

    pub pending-part : take held (drop at_pending s) ≡ r.pending
    unfolding record_of
    pending-part =
        sym (take-take held pending_room (drop at_pending s) (omega (arith, number_few)))
        ∙ ap (take held) (sym (part-is pending_room s at_pending (omega (arith, holds-long r s sound))))
        ∙ ap (λ (n : ℕ). take n (bytes_at pending_room s at_pending)) read_is

-- ---- the joined head of the pending bytes p and the input

-- `held` bytes pending, `total` bytes in the joined head
pub record Joined (p input head : List ℕ) (held total : ℕ) : Type 0 where
  pub is : held ≡ length p
  pub sum : total ≡ held + reached input
  pub same : take total head ≡ p ++ take (reached input) input
  pub long : length (take total head) ≡ total

-- as `join` leaves it of the pending bytes in their place
pub joined : {s input head : List ℕ} {held total : ℕ} → Sound s → held ≡ length (record_of s).pending → Joins (take held (drop at_pending s)) input total head → Joined (record_of s).pending input head held total
joined {s} {input} {head} {held} {total} sound is raw =
    let p : List ℕ = (record_of s).pending in
    let j : Joins p input total head = subst (λ (q : List ℕ). Joins q input total head) (pending-part s sound held is) raw in
    record {
      is = is;
      sum = omega (arith, is, j.0);
      same = j.1;
      long = ap length j.1 ∙ length-append p (take (reached input) input) ∙ rw (reach-long (reached input) input (omega arith)) (sym j.0);
    }

module _ {p input head : List ℕ} {held total : ℕ} (j : Joined p input head held total) {heads : Heads} {r : Record} {before : List ℕ} {h : Progress} {kept out : List ℕ} (f : Hunts heads r (take total head) before held 0 h kept out) where
  abbrev n : ℕ
  n = reached input

  found : Hunts heads r (p ++ take n input) before (length p) 0 h kept out
  found = subst (λ (x : ℕ). Hunts heads r (p ++ take n input) before x 0 h kept out) j.is (subst (λ (l : List ℕ). Hunts heads r l before held 0 h kept out) j.same f)

  waiting-part : take (total - h.at) (drop h.at head) ≡ drop h.at (p ++ take n input)
  waiting-part = sym (drop-take h.at total head) ∙ ap (drop h.at) j.same

  module _ (ok : Huntable heads) (a : h.at < held) where
    pub first-asks : SoundPending at_pending_length pending_room kept × ((length (take (total - h.at) (drop h.at head)) ≤ pending_room) × ((8 ≤ pending_room) × (pending_room ≤ 24)))
    first-asks = roomed kept _ (
      going-sound f.going,
      rw waiting-part (omega (arith, head-short p input refl found ok (rw j.is at a))),
    )

    pub serves-first : {kept' : List ℕ} → Turns kept kept' (λ z. with_pending z (take (total - h.at) (drop h.at head))) → ServesFor heads r (p ++ input) before h.counts kept' out
    serves-first {kept'} t =
        serves-head p input refl found ok (rw j.is at a) (subst (λ (x : List ℕ). Turns kept kept' (λ z. with_pending z x)) waiting-part t)

  module _ (past : held ≤ h.at) (room : room_for (length p + length input) ≤ length before) where
    abbrev rest : List ℕ
    rest = take (length input - (h.at - held)) (drop (h.at - held) input)

    past' : length p ≤ h.at
    past' = omega (arith, j.is)

    rest-is : rest ≡ drop (h.at - length p) input
    rest-is = part-rest input (h.at - held) ∙ rw j.is refl

    pub from_inside : h.at - held ≤ length input
    from_inside = rw j.is (rest-starts p input refl found past' room)

    pub rest_fits : h.counts.written + room_for (length rest) ≤ length out
    rest_fits = rw rest-is (rest-room p input refl found past' room)

    pub serves-second : Huntable heads → {x : Progress} {kept₂ out₂ : List ℕ} → Rests heads (record_of kept) rest out h.counts.written x kept₂ out₂
        → ServesFor heads r (p ++ input) before (record { written = x.counts.written; skipped = h.counts.skipped + x.counts.skipped }) kept₂ out₂
    serves-second ok {x} {kept₂} {out₂} y =
        let y' : Rests heads (record_of kept) (drop (h.at - length p) input) out h.counts.written x kept₂ out₂ = subst (λ (l : List ℕ). Rests heads (record_of kept) l out h.counts.written x kept₂ out₂) rest-is y in
        serves-rest p input refl found past' room y'.hunts ok y'.turns

-- what `serve_held` asks of numbers
pub ruleset joining = (joined, number_few, number_inside, rest_long, from_inside, rest_fits)
