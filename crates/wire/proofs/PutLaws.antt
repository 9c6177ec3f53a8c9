-- Writing into a buffer: nothing, one byte more, a part behind a part, single stores.
use Prim.Native.Nat.{ℕ, suc, ◌+◌, ◌≤◌, ◌<◌}
use mathlib.Core.Path.{◌≡◌, refl, sym, ap, ◌∙◌}
use mathlib.Core.Logic.{⊎_elim}
use mathlib.Core.List.{List, [], ◌∷◌, ◌++◌, append_assoc}
use native.Mathlib.Nat.{zero-add, add-zero, add_assoc}
use native.Mathlib.Numerals.{towards_suc}
use native.Mathlib.Omega.{arith}
use lib.ListN.{length, get_or, take, drop, set, length-append, length-drop, take-append-drop}
use lib.Seq.{sets, sets-eq, drop-cons, take_at, take-set-lt, drop-set-lt, drop-append-add, drop-drop, set_at, set-append_left, length-take-le}
use borrow.Rule.Slice.PartMut.{put_mid}
use Rattle.wire.specs.Numbers.{Narrow, bytes_at, put}

pub put-nil : (d : List ℕ) (at : ℕ) → put d at [] ≡ d
unfolding put
put-nil d at = rw add-zero (take-append-drop at d)

pub put-zero : (d s : List ℕ) → put d 0 s ≡ s ++ drop (length s) d
unfolding put
put-zero d s = rw zero-add refl

module _ (d : List ℕ) (at : ℕ) (s : List ℕ) where
  front_length : at + length s ≤ length d → length (take at d ++ s) ≡ at + length s
  front_length h = simp (length-append, length-take-le at d (omega arith))

  pub length-put : at + length s ≤ length d → length (put d at s) ≡ length d
  unfolding put
  length-put h = simp (length-append, length-take-le at d (omega arith), length-drop) (omega arith)

  pub put_byte : (b : ℕ) → at + length s < length d → set (put d at s) (at + length s) b ≡ put d at (s ++ b ∷ [])
  unfolding put
  put_byte b h =
      let n : length (take at d ++ s) ≡ at + length s = front_length (omega arith) in
      let m : at + length (s ++ b ∷ []) ≡ suc (at + length s) = simp length-append (omega arith) in
      let e : take at d ++ (s ++ drop (at + length s) d) ≡ (take at d ++ s) ++ get_or d (at + length s) 0 ∷ drop (suc (at + length s)) d =
      sym (append_assoc (take at d) s (drop (at + length s) d)) ∙ rw (drop-cons d (at + length s) 0 h) refl in
      rw (e, set_at (take at d ++ s) (get_or d (at + length s) 0) (drop (suc (at + length s)) d) b (at + length s) n, m) (simp append_assoc)

  pub put-put : (t : List ℕ) → at + length s ≤ length d → put (put d at s) (at + length s) t ≡ put d at (s ++ t)
  unfolding put
  put-put t h =
      let r : List ℕ = drop (at + length s) d in
      let n : length (take at d ++ s) ≡ at + length s = front_length h in
      let e : take at d ++ (s ++ r) ≡ (take at d ++ s) ++ r = sym (append_assoc (take at d) s r) in
      let f : drop (at + length s + length t) ((take at d ++ s) ++ r) ≡ drop (at + length s + length t) d =
      ap (λ (j : ℕ). drop (j + length t) ((take at d ++ s) ++ r)) (sym n) ∙ drop-append-add (take at d ++ s) r (length t) ∙ drop-drop (length t) (at + length s) d in
      rw (e, take_at (take at d ++ s) r (at + length s) n, f, length-append s t, ← add_assoc at (length s) (length t)) (simp append_assoc)

-- a part of the buffer overwritten, as a write to a slice of it leaves
pub put-mid : (d : List ℕ) (at n : ℕ) (s : List ℕ) → n ≡ length s → put_mid at n d s ≡ put d at s
unfolding put
put-mid d at n s e = rw (e, drop-drop (length s) at d) refl

-- ---- single stores

pub put-sets : (d : List ℕ) (at : ℕ) (s : List ℕ) → at + length s ≤ length d → put d at s ≡ sets d at s
unfolding put
put-sets d at s h = sym (append_assoc (take at d) s (drop (at + length s) d)) ∙ sym (sets-eq s d at h)

pub put_one : (d : List ℕ) (at a : ℕ) → at < length d → set d at a ≡ put d at (a ∷ [])
put_one d at a h = sym (put-sets d at (a ∷ []) (omega arith))

pub put_two : (d : List ℕ) (at a b : ℕ) → at + 2 ≤ length d → set (set d at a) (at + 1) b ≡ put d at (a ∷ b ∷ [])
put_two d at a b h = simp towards_suc (sym (put-sets d at (a ∷ b ∷ []) (omega arith)))

pub put_three : (d : List ℕ) (at a b c : ℕ) → at + 3 ≤ length d → set (set (set d at a) (at + 1) b) (at + 2) c ≡ put d at (a ∷ b ∷ c ∷ [])
put_three d at a b c h = simp towards_suc (sym (put-sets d at (a ∷ b ∷ c ∷ []) (omega arith)))

pub put_four : (d : List ℕ) (at a b c e : ℕ) → at + 4 ≤ length d → set (set (set (set d at a) (at + 1) b) (at + 2) c) (at + 3) e ≡ put d at (a ∷ b ∷ c ∷ e ∷ [])
put_four d at a b c e h = simp towards_suc (sym (put-sets d at (a ∷ b ∷ c ∷ e ∷ []) (omega arith)))

-- a store in front of a part may as well come first
pub put-behind : (d : List ℕ) (at : ℕ) (s : List ℕ) (i v : ℕ) → i < at → at ≤ length d → set (put d at s) i v ≡ put (set d i v) at s
unfolding put
put-behind d at s i v l h =
    let n : i < length (take at d) = rw (length-take-le at d h) l in
    rw (take-set-lt at d i v l, drop-set-lt (at + length s) d i v (omega arith)) (set-append_left (take at d) (s ++ drop (at + length s) d) i v n)

-- the bytes of a number, by how many they are
module _ (n : ℕ) (w : Narrow n) where
  pub narrow : (1 ≤ n) × (n ≤ 4)
  narrow = ⊎_elim (λ e. (omega arith, omega arith)) (λ v. ⊎_elim (λ e. (omega arith, omega arith)) (λ e. (omega arith, omega arith)) v) w

  narrow_two : 2 ≤ n → n < 4 → n ≡ 2
  narrow_two l h = ⊎_elim (λ e. omega arith) (λ v. ⊎_elim (λ e. e) (λ e. omega arith) v) w

  module _ (d s : List ℕ) (at from : ℕ) (h : at + n ≤ length d) where
    pub number-one : n < 2 → set d at (get_or s from 0) ≡ put d at (bytes_at n s from)
    number-one k = let e : n ≡ 1 = omega (arith, narrow) in rw e (put_one d at (get_or s from 0) (omega arith))

    pub number-two : 2 ≤ n → n < 4 → set (set d at (get_or s from 0)) (at + 1) (get_or s (from + 1) 0) ≡ put d at (bytes_at n s from)
    number-two l k = let e = narrow_two l k in rw e (put_two d at (get_or s from 0) (get_or s (from + 1) 0) (omega arith) ∙ simp towards_suc)

    pub number-four : 4 ≤ n → set (set (set (set d at (get_or s from 0)) (at + 1) (get_or s (from + 1) 0)) (at + 2) (get_or s (from + 2) 0)) (at + 3) (get_or s (from + 3) 0) ≡ put d at (bytes_at n s from)
    number-four l =
        let e : n ≡ 4 = omega (arith, narrow) in
        rw e (put_four d at (get_or s from 0) (get_or s (from + 1) 0) (get_or s (from + 2) 0) (get_or s (from + 3) 0) (omega arith) ∙ simp towards_suc)
