-- Model and pending bytes, as their functions test them; and the whole check.
use Prim.Native.Nat.{ℕ, zero, suc, ◌+◌, ◌-◌, ◌≤◌}
use mathlib.Core.Path.{◌≡◌, refl, sym, ap, ap₂, ◌∙◌}
use mathlib.Core.Bool.{Bool, true, false, ◌&&◌, and_assoc, and-true}
use mathlib.Core.List.{List, [], ◌∷◌, ◌++◌}
use native.Mathlib.Omega.{arith}
use lib.ListN.{length, get_or, take, drop}
use lib.Seq.{take-take, drop-drop}
use lib.Dec.{leb, eqb}
use borrow.Author.Tests.{le-leb, eq-eqb, ne_eqb, eqb-true}
use Rattle.wire.specs.Numbers.{bytes_at}
use Rattle.wire.specs.Zeros.{all_zero, zeros_behind, before_zero}
use Rattle.wire.specs.Frames.{waits}
use Rattle.wire.specs.Serial.{serial}
use Rattle.wire.proofs.NumberLaws.{part-is, drop-take}
use Rattle.wire.proofs.ScanLaws.{part, part-cons}
use Rattle.wire.proofs.ZeroLaws.{behind-is}
use Rattle.record.specs.Layout.{record_size, model_room, pending_room, at_model, at_pending_length, at_pending, at_pairs}
use Rattle.record.specs.Form.{Field, part_fits, all_fine, well_formed, form_by, form_of}
use Rattle.record.specs.declared.Form.TheVariants.{Good, Bad}
use Rattle.peak.proofs.PairLaws.{both}
use Rattle.form.proofs.Pending.{none}
use Rattle.form.specs.Groups.{head_fields, radio_fields, input_fields, switch_fields, name_fields, model_fields, pending_fields, pair_fields, groups_of, join}

-- the part behind the bytes in use, by the places where it starts and ends
part-behind : (s : List ℕ) (at room n : ℕ) → at + room ≤ length s → n ≤ room → drop n (bytes_at room s at) ≡ part s (at + n) (at + room)
part-behind s at room n h k =
    let b : room - n ≡ at + room - (at + n) = omega arith in
    ap (drop n) (part-is room s at h) ∙ drop-take n room (drop at s) ∙ ap (take (room - n)) (drop-drop n at s) ∙ ap (λ (m : ℕ). take m (drop (at + n) s)) b

-- a part of which the first n bytes are in use
part-fits : (test : List ℕ → Bool) (s : List ℕ) (at room n : ℕ) → at + room ≤ length s → n ≤ room
    → part_fits test n (bytes_at room s at) ≡ (test (part s at (at + n)) && all_zero (part s (at + n) (at + room)))
part-fits test s at room n h k =
    let a : n ≡ at + n - at = omega arith in
    let used : take n (bytes_at room s at) ≡ part s at (at + n) =
    ap (take n) (part-is room s at h) ∙ take-take n room (drop at s) k ∙ ap (λ (m : ℕ). take m (drop at s)) a in
    ap₂ (◌&&◌) (ap test used) (ap all_zero (part-behind s at room n h k))

-- a length byte in its range, and its part
fields-yes : (n room : ℕ) (rest : Bool) → n ≤ room → (leb n room && (rest && true)) ≡ rest
fields-yes n room rest h = rw (le-leb n room h) (and-true rest)

both_first : (a b : Bool) → a ≡ true → (a && b) ≡ b
both_first a b e = rw e refl

both-not : (a b : Bool) → a ≡ false → (a && b) ≡ false
both-not a b e = rw e refl

-- ---- the pending bytes

module _ (s : List ℕ) (whole : at_pairs ≤ length s) where
  abbrev waiting : ℕ
  waiting = get_or s at_pending_length 0

  module _ (h : waiting ≤ pending_room) where
    pending-is : all_fine (pending_fields s) ≡ (waits serial (take waiting (drop at_pending s)) && all_zero (part s (at_pending + waiting) at_pairs))
    pending-is =
        let e : at_pending + waiting - at_pending ≡ waiting = omega arith in
        fields-yes waiting pending_room (part_fits (waits serial) waiting (bytes_at pending_room s at_pending)) h ∙ part-fits (waits serial) s at_pending pending_room waiting whole h ∙ rw e refl

    pub pending-zeros : waits serial (take waiting (drop at_pending s)) ≡ true → all_zero (part s (at_pending + waiting) at_pairs) ≡ all_fine (pending_fields s)
    pending-zeros e = sym (pending-is ∙ both_first _ _ e)

    pub pending-bad : waits serial (take waiting (drop at_pending s)) ≡ false → false ≡ all_fine (pending_fields s)
    pending-bad e = sym (pending-is ∙ both-not _ _ e)

  -- nothing waits
  pub pending-none : all_zero (part s at_pending_length at_pairs) ≡ true → all_fine (pending_fields s) ≡ true
  unfolding all_zero
  pending-none e =
      let w = both (eqb waiting 0) (all_zero (part s at_pending at_pairs)) (rw (part-cons s at_pending_length at_pairs (omega arith) whole) at e) in
      let n : waiting ≡ 0 = eqb-true waiting 0 w.0 in
      let rest : all_zero (part s (at_pending + waiting) at_pairs) ≡ true = rw n w.1 in
      sym (pending-zeros (omega arith) (sym (none s at_pending waiting (omega arith) n))) ∙ rest

-- ---- the model, from its first zero on

pub model_is : (s : List ℕ) (at : ℕ) → at + model_room ≤ length s → (first : ℕ) → first ≡ length (before_zero (part s at (at + model_room)))
    → all_zero (take (model_room - first) (drop first (part s at (at + model_room)))) ≡ zeros_behind (bytes_at model_room s at)
model_is s at h first e =
    let all : at + model_room - at ≡ model_room = omega arith in
    let whole : List ℕ = take model_room (drop at s) in
    let behind : take (model_room - first) (drop first whole) ≡ drop first whole =
    ap (take (model_room - first)) (drop-take first model_room (drop at s)) ∙ take-take (model_room - first) (model_room - first) (drop first (drop at s)) (omega arith) ∙ sym (drop-take first model_room (drop at s)) in
    let found : first ≡ length (before_zero whole) = rw all at e in
    rw (all, behind, part-is model_room s at h, found) (sym (behind-is whole))

-- no model
zeros-behind : (l : List ℕ) → all_zero l ≡ true → zeros_behind l ≡ true
unfolding all_zero zeros_behind
zeros-behind [] e = refl
zeros-behind (zero ∷ l) e = e
zeros-behind (suc b ∷ l) e =
    let q = rw (ne_eqb (suc b) 0 (λ z. omega arith)) at e in
    let z : ◌≡◌ {A = ℕ} 0 1 = cc in
    absurd (omega arith)

pub model-none : (s : List ℕ) → at_pending_length ≤ length s → all_zero (part s at_model at_pending_length) ≡ true → all_fine (model_fields s) ≡ true
model-none s h e = and-true _ ∙ zeros-behind (bytes_at model_room s at_model) (ap all_zero (part-is model_room s at_model h) ∙ e)

-- ---- the check as a chain of its groups

all_append : (xs ys : List Field) → all_fine (xs ++ ys) ≡ (all_fine xs && all_fine ys)
all_append [] ys = refl
all_append (x ∷ xs) ys = ap (λ (c : Bool). x.fine && c) (all_append xs ys) ∙ sym (and_assoc x.fine (all_fine xs) (all_fine ys))

-- the tests of the groups, the first that fails being the answer
abbrev pub chain : List (List Field) → Bool
chain [] = true
chain (g ∷ gs) = all_fine g && chain gs

all_join : (gs : List (List Field)) → all_fine (join gs) ≡ chain gs
all_join [] = refl
all_join (g ∷ gs) = all_append g (join gs) ∙ ap (λ (c : Bool). all_fine g && c) (all_join gs)

form-is : (s : List ℕ) → form_of s ≡ form_by (eqb (length s) record_size && chain (groups_of s))
unfolding well_formed
form-is s = ap (λ (c : Bool). form_by (eqb (length s) record_size && c)) (all_join (groups_of s))

chain-no : (gs : List (List Field)) (k : ℕ) → all_fine (get_or gs k []) ≡ false → chain gs ≡ false
chain-no [] k e = e
chain-no (g ∷ gs) zero e = rw e refl
chain-no (g ∷ gs) (suc k) e = rw (chain-no gs k e) (no (all_fine g))
  where
    no : (b : Bool) → (b && false) ≡ false
    no true = refl
    no false = refl

pub short : (s : List ℕ) → (length s ≡ record_size → ⊥) → Bad ≡ form_of s
short s h = sym (form-is s ∙ rw (ne_eqb (length s) record_size h) refl)

module _ (s : List ℕ) (whole : length s ≡ record_size) where
  by_chain : form_of s ≡ form_by (chain (groups_of s))
  by_chain = form-is s ∙ rw (eq-eqb (length s) record_size whole) refl

  -- a group that fails, and all that hold
  pub bad : (k : ℕ) → false ≡ all_fine (get_or (groups_of s) k []) → Bad ≡ form_of s
  bad k e = sym (by_chain ∙ ap form_by (chain-no (groups_of s) k (sym e)))

  pub good : true ≡ all_fine (head_fields s) → true ≡ all_fine (radio_fields s) → true ≡ all_fine (input_fields s) → true ≡ all_fine (switch_fields s) → true ≡ all_fine (name_fields s)
      → true ≡ all_fine (model_fields s) → true ≡ all_fine (pending_fields s) → true ≡ all_fine (pair_fields s) → Good ≡ form_of s
  good e₀ e₁ e₂ e₃ e₄ e₅ e₆ e₇ =
      let all : chain (groups_of s) ≡ true = rw (sym e₀, sym e₁, sym e₂, sym e₃, sym e₄, sym e₅, sym e₆, sym e₇) refl in
      sym (by_chain ∙ ap form_by all)
