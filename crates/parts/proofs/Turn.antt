-- A store in the bytes of a record is the change of its field, in the words of the code that stores.
use Prim.Native.Nat.{ℕ, zero, suc, ◌+◌, ◌-◌, ◌≤◌}
use mathlib.Core.Path.{◌≡◌, refl, ◌∙◌}
use mathlib.Core.List.{List, []}
use native.Mathlib.Nat.{sub-zero, suc-sub-suc}
use native.Mathlib.Omega.{arith}
use lib.ListN.{length, take, drop, set, replicate, length-set, length-replicate}
use lib.Seq.{sets}
use Rattle.wire.specs.Numbers.{bytes_at, put}
use Rattle.wire.specs.Zeros.{before_zero}
use Rattle.wire.proofs.NumberLaws.{length_part}
use Rattle.wire.proofs.PutLaws.{put-sets}
use Rattle.words.proofs.WordLaws.{put-within}
use Rattle.record.specs.Record.{with_name, with_settings, with_model, with_pending}
use Rattle.record.specs.Layout.{NamePart, ModelPart, name_room, model_room, at_name_length, at_name}
use Rattle.record.specs.InPlace.{SoundAt, TurnsAt, TurnsPending}
use Rattle.wire.proofs.ZeroLaws.{padded, cut-take}
use Rattle.record.proofs.Stores.{set-name_in, set-model_in, set-pending_in}
use Rattle.record.proofs.InPlaceLaws.{turns_at, reaches}

-- the bytes are there, behind a store too
pub name_there : (s : List ℕ) → SoundAt NamePart at_name_length s → at_name + name_room ≤ length s
name_there s h = reaches NamePart at_name_length s h

pub model_there : (s : List ℕ) (at : ℕ) → SoundAt ModelPart at s → at + model_room ≤ length s
model_there s at h = reaches ModelPart at s h

pub ruleset there = (name_there, length-set)

module _ (s : List ℕ) where
  module _ (p : List ℕ) where
    pub turn-name : TurnsAt NamePart at_name_length s (sets (set s at_name_length (length p)) (at_name_length + 1) (bytes_at name_room p 0)) (λ r. with_settings r (with_name r.settings p))
    turn-name =
        turns_at NamePart at_name_length s (λ at d. sets (set d at (length p)) (at + 1) (bytes_at name_room p 0)) (λ r. with_settings r (with_name r.settings p)) (λ q laid r i e. set-name_in q laid r e p)

    pub turn-pending : (at room n : ℕ) → n ≡ room → TurnsPending at room s (sets (set s at (length p)) (at + 1) (bytes_at n p 0)) (λ r. with_pending r p)
    turn-pending at room n same q w r i e = rw (e, same, ← w.1, ← w.0.stands) (set-pending_in q w.0.laid r p)

    -- n as the search for the first zero finds it
    pub turn-model : (at m n : ℕ) → m ≡ model_room → n ≡ length (before_zero p) → TurnsAt ModelPart at s (sets s at (bytes_at m (take n p) 0)) (λ r. with_model r (before_zero p))
    turn-model at m n same q plan w r i e =
        rw (e, same, q, cut-take p, ← w.stands) (set-model_in plan w.laid r (before_zero p))

drop-zeros : (k n : ℕ) → k ≤ n → ◌≡◌ {A = List ℕ} (drop k (replicate n 0)) (replicate (n - k) 0)
drop-zeros zero n h = rw sub-zero refl
drop-zeros (suc k) zero h = absurd (omega arith)
drop-zeros (suc k) (suc n) h = rw suc-sub-suc (drop-zeros k n (omega arith))

-- a room of zeros and then the part in it
pub put-part : (d : List ℕ) (at end : ℕ) (p : List ℕ) → at + length p ≤ end → end ≤ length d → put (put d at (replicate (end - at) 0)) at p ≡ sets d at (bytes_at (end - at) p 0)
put-part d at end p h k =
    let z : List ℕ = replicate (end - at) 0 in
    let n : length z ≡ end - at = length-replicate (end - at) 0 in
    let room : at + length (bytes_at (end - at) p 0) ≤ length d = rw (length_part (end - at) p 0) (omega arith) in
    put-within d at z p (omega (arith, n)) (omega (arith, n))
    ∙ rw (drop-zeros (length p) (end - at) (omega arith), ← padded (end - at) p (omega arith)) (put-sets d at (bytes_at (end - at) p 0) room)

-- a name of no bytes: its number and its room are zeros
pub turn-no-name : (s t : List ℕ) → at_name + name_room ≤ length s → t ≡ put (set s at_name_length 0) at_name (replicate name_room 0) → TurnsAt NamePart at_name_length s t (λ r. with_settings r (with_name r.settings []))
turn-no-name s t h e =
    let k : at_name + name_room ≤ length (set s at_name_length 0) = simp length-set h in
    let same : t ≡ sets (set s at_name_length 0) at_name (bytes_at name_room [] 0) = e ∙ put-sets (set s at_name_length 0) at_name (replicate name_room 0) k in
    rw same (turn-name s [])
