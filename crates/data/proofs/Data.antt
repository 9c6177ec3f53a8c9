-- The data of replies as the code writes it: which bytes of a record it is, and how it comes to stand at the front of a buffer.
use Prim.Native.Nat.{ℕ, ◌+◌, ◌-◌, ◌≤◌, ◌<◌}
use mathlib.Core.Path.{◌≡◌, refl, sym, ap, ◌∙◌}
use mathlib.Core.List.{List, [], ◌∷◌, ◌++◌, append-nil}
use native.Mathlib.Nat.{add-sub_cancel_left}
use native.Mathlib.Numerals.{towards_suc}
use native.Mathlib.Omega.{arith}
use lib.ListN.{length, get_or, take, drop, set, length-append, length-set}
use lib.Seq.{length-take-le, take-take}
use borrow.Author.Tests.{lt-ltb, le-ltb}
use Rattle.wire.specs.Sizes.{data_most}
use Rattle.wire.specs.Numbers.{bytes_at, put}
use Rattle.wire.specs.Zeros.{before_zero}
use Rattle.wire.proofs.NumberLaws.{length_part, part-is}
use Rattle.wire.proofs.PutLaws.{put-nil, put_one, put_two, put-put, put_byte}
use Rattle.record.specs.Layout.{name_room, model_room, at_name, at_inputs}
use Rattle.wire.proofs.ZeroLaws.{cut-take}
use Rattle.record.proofs.Parts.{part_at}
use Rattle.command.specs.Rows.{model_data}
use Rattle.data.specs.PutsData.{PutsData}

-- a store keeps the length
pub ruleset kept = (length-set)

-- ---- a single byte

input-byte : (s : List ℕ) (k : ℕ) → 2 ≤ k → k ≤ 6 → get_or (bytes_at 5 s at_inputs) (k - 2) 0 ≡ get_or s (k + 12) 0
input-byte s k l h =
    let at : k + 12 ≡ at_inputs + (k - 2) = omega arith in
    rw at (part_at 5 s at_inputs (k - 2) (omega arith))

-- ---- each kind of data in a buffer with room

module _ (d : List ℕ) (room : data_most ≤ length d) where
  pub answers-none : PutsData d [] 0 d
  answers-none = (refl, omega arith, sym (put-nil d 0))

  pub answers_one : (a : ℕ) → PutsData d (a ∷ []) 1 (set d 0 a)
  answers_one a = (refl, omega arith, put_one d 0 a (omega arith))

  pub answers-two : (a b : ℕ) → PutsData d (a ∷ b ∷ []) 2 (set (set d 0 a) 1 b)
  answers-two a b = (refl, omega arith, put_two d 0 a b (omega arith))

  pub answers-input : (s : List ℕ) (k : ℕ) → 2 ≤ k → k ≤ 6 → PutsData d (get_or (bytes_at 5 s at_inputs) (k - 2) 0 ∷ []) 1 (set d 0 (get_or s (k + 12) 0))
  answers-input s k l h = rw (input-byte s k l h) (answers_one (get_or s (k + 12) 0))

  -- the bytes of a number
  pub answers_number : (s : List ℕ) (from n : ℕ) (x : List ℕ) → n ≤ 4 → x ≡ put d 0 (bytes_at n s from) → PutsData d (bytes_at n s from) n x
  answers_number s from n x h e = (sym (length_part n s from), omega arith, e)

  -- a word and the next behind a 00
  pub answers-pair : (s : List ℕ) (from : ℕ) (x y : List ℕ) → x ≡ put (set d 0 0x00) 1 (bytes_at 4 s from) → y ≡ put x 5 (bytes_at 4 s (from + 4))
      → PutsData d (0x00 ∷ bytes_at 8 s from) 9 y
  answers-pair s from x y e₁ e₂ =
      let a = bytes_at 4 s from in
      let b = bytes_at 4 s (from + 4) in
      let both : a ++ b ≡ bytes_at 8 s from = simp towards_suc in (
        refl,
        omega arith,
        e₂
            ∙ ap (λ (l : List ℕ). put l 5 b) (e₁ ∙ ap (λ (l : List ℕ). put l 1 a) (put_one d 0 0x00 (omega arith)) ∙ put-put d 0 (0x00 ∷ []) a (omega arith))
            ∙ put-put d 0 (0x00 ∷ a) b (omega arith)
            ∙ ap (λ (l : List ℕ). put d 0 (0x00 ∷ l)) both,
      )

  -- the name as the code takes it out of the record
  pub answers-name : (s : List ℕ) (n : ℕ) (x : List ℕ) → at_name + name_room ≤ length s → n ≤ name_room → x ≡ put d 0 (take (at_name + n - at_name) (drop at_name s))
      → PutsData d (take n (bytes_at name_room s at_name)) n x
  answers-name s n x l h e =
      let part : take (at_name + n - at_name) (drop at_name s) ≡ take n (bytes_at name_room s at_name) =
      rw (add-sub_cancel_left at_name n, part-is name_room s at_name l) (sym (take-take n name_room (drop at_name s) h)) in
      (sym (length-take-le n (bytes_at name_room s at_name) h), h, e ∙ ap (put d 0) part)

-- ---- the model, up to its first zero as the search finds it

module _ (s : List ℕ) (from : ℕ) (l : from + model_room ≤ length s) (n : ℕ) (found : n ≡ length (before_zero (take (from + model_room - from) (drop from s)))) where
  abbrev whole : List ℕ
  whole = take (from + model_room - from) (drop from s)

  abbrev model : List ℕ
  model = before_zero (bytes_at model_room s from)

  room-is : whole ≡ bytes_at model_room s from
  room-is = let all : from + model_room - from ≡ model_room = omega arith in rw all (sym (part-is model_room s from l))

  model-end : n ≡ length model
  model-end = found ∙ ap (λ (x : List ℕ). length (before_zero x)) room-is

  model-part : take (n - 0) whole ≡ model
  model-part =
      let m : n - 0 ≡ length model = omega (arith, model-end) in
      rw (m, room-is) (cut-take (bytes_at model_room s from))

  module _ (d : List ℕ) (room : data_most ≤ length d) (x : List ℕ) (copied : x ≡ put d 0 (take (n - 0) whole)) where
    pub answers-cut : n < model_room → (behind : ℕ) → behind ≡ 0 + length (take (n - 0) whole) → PutsData d (model_data model) (n + 1) (set x behind 0x00)
    answers-cut h behind e =
        let short : length model < model_room = omega (arith, model-end) in
        rw (e, copied, model-part, lt-ltb (length model) model_room short) (simp length-append (omega (arith, model-end)), omega arith, put_byte d 0 model 0x00 (omega arith))

    pub answers-whole : model_room ≤ n → n ≤ length whole → PutsData d (model_data model) model_room x
    answers-whole h k =
        let full : length model ≡ model_room = omega (arith, model-end, k, ap length room-is, length_part model_room s from) in
        rw (copied, model-part, le-ltb (length model) model_room (omega arith), append-nil model) (sym full, omega arith, refl)
