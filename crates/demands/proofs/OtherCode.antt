-- Records that differ in nothing but perhaps the code: one is the other with its own code, both are well formed or neither, and the first fault is at the same place.
use Prim.Native.Nat.{ℕ, zero, suc, ◌+◌, ◌-◌, ◌<◌}
use mathlib.Core.Path.{◌≡◌, refl, sym, ap, ap₂, ◌∙◌}
use mathlib.Core.Bool.{Bool, true, false, ◌&&◌}
use mathlib.Core.List.{List, ◌++◌}
use native.Mathlib.Omega.{arith}
use lib.ListN.{length, get_or, take, drop, length-drop}
use lib.Seq.{ext_get_or, length-take-le, get_or-take, get_or-drop, set-get_or, sets, sets-eq}
use lib.Dec.{eqb}
use borrow.Author.Tests.{eqb-true}
use Rattle.wire.specs.Numbers.{Bytes, word_at, bytes_at}
use Rattle.record.specs.Record.{Record, with_code}
use Rattle.record.specs.Layout.{current, record_size, at_code, bytes_of, record_of}
use Rattle.record.specs.Form.{fields_in, all_fine, InRange, well_formed, fault_place, fault_of, form_by}
use Rattle.record.proofs.Plans.{laid}
use Rattle.record.proofs.Parts.{word_lt, word-at}
use Rattle.record.proofs.Lens.{long}
use Rattle.record.proofs.Stores.{set-code_in}
use Rattle.record.proofs.Faults.{code-blind, code-fault}
use Rattle.record.proofs.RoundTrip.{read_back, in-range, write-back}
use Rattle.record.proofs.Whole.{code_in}
use Rattle.call.specs.declared.CallRefusal.TheVariants.{BadRecord}
use Rattle.call.specs.Outcome.{done, cause, bad}
use Rattle.call.specs.Calls.{bad_record}
use Rattle.call.proofs.Ends.{form-good, good-long}
use Rattle.demands.specs.Premise.{SameButCode, Alike}

-- ---- bytes of a record and of the same with another code

module _ (r : Record) (k : ℕ) where
  before-code : (i : ℕ) → i < at_code → get_or (bytes_of r) i 0 ≡ get_or (bytes_of (with_code r k)) i 0
  unfolding bytes_of with_code
  before-code zero h = refl
  before-code (suc zero) h = refl
  before-code (suc (suc zero)) h = refl
  before-code (suc (suc (suc zero))) h = refl
  before-code (suc (suc (suc (suc zero)))) h = refl
  before-code (suc (suc (suc (suc (suc i))))) h = absurd (omega arith)

  behind-code : (i : ℕ) → get_or (bytes_of r) (9 + i) 0 ≡ get_or (bytes_of (with_code r k)) (9 + i) 0
  unfolding bytes_of with_code
  behind-code i = let e : 9 + i ≡ suc (suc (suc (suc (suc (suc (suc (suc (suc i)))))))) = omega arith in rw e refl

  pub code-only : SameButCode (bytes_of r) (bytes_of (with_code r k))
  code-only = record {
    long = long r ∙ sym (long (with_code r k));
    before = before-code;
    behind = λ i h. let e : 9 + (i - 9) ≡ i = omega arith in rw e at (behind-code (i - 9));
  }

pub same-own : (s : List ℕ) → SameButCode s s
same-own s = record { long = refl; before = λ i h. refl; behind = λ i h. refl }

pub well-size : (s : List ℕ) → well_formed s ≡ true → length s ≡ record_size
well-size s w = good-long s (form-good s w)

-- ---- one of them is the other with its own code

module _ (s t : List ℕ) (same : SameButCode s t) (whole : length s ≡ record_size) where
  abbrev four : List ℕ
  four = bytes_at 4 t at_code

  front : take at_code t ≡ take at_code s
  front =
      ext_get_or 0 (take at_code t) (take at_code s) (length-take-le at_code t (omega (arith, same.long)) ∙ sym (length-take-le at_code s (omega arith)))
      (λ i h. let k : i < at_code = omega (arith, length-take-le at_code t (omega (arith, same.long))) in get_or-take at_code t i 0 k ∙ sym (same.before i k) ∙ sym (get_or-take at_code s i 0 k))

  back : drop (at_code + 4) t ≡ drop (at_code + 4) s
  back =
      ext_get_or 0 (drop (at_code + 4) t) (drop (at_code + 4) s) (length-drop (at_code + 4) t ∙ ap (λ (n : ℕ). n - (at_code + 4)) (sym same.long) ∙ sym (length-drop (at_code + 4) s))
      (λ i h. get_or-drop (at_code + 4) t i 0 ∙ sym (same.behind (at_code + 4 + i) (omega arith)) ∙ sym (get_or-drop (at_code + 4) s i 0))

  own-bytes : sets t at_code four ≡ t
  own-bytes = simp set-get_or

  other-is : t ≡ sets s at_code four
  other-is =
      sym own-bytes ∙ sets-eq four t at_code (omega (arith, same.long)) ∙ ap₂ (λ (a b : List ℕ). a ++ four ++ b) front back ∙ sym (sets-eq four s at_code (omega arith))

  -- "Every code is well formed.": no field reads it
  same-fields : fields_in current t ≡ fields_in current s
  same-fields = ap (fields_in current) other-is ∙ code-blind current laid s four refl whole

pub cut_short : (s : List ℕ) → eqb (length s) record_size ≡ false → fault_of s ≡ 0
unfolding fault_of
cut_short s e = rw e refl

-- both are well formed, or neither, and the first fault is at the same place
module _ (s t : List ℕ) (same : SameButCode s t) where
  well-same : well_formed s ≡ well_formed t
  unfolding well_formed
  well-same = rw (← same.long) (by (eqb (length s) record_size) refl)
    where
      by : (b : Bool) → eqb (length s) record_size ≡ b → (b && all_fine (fields_in current s)) ≡ (b && all_fine (fields_in current t))
      by true e = ap all_fine (sym (same-fields s t same (eqb-true (length s) record_size e)))
      by false e = refl

  pub same-fault : fault_of s ≡ fault_of t
  unfolding fault_of
  same-fault = by (eqb (length s) record_size) refl
    where
      by : (b : Bool) → eqb (length s) record_size ≡ b → fault_of s ≡ fault_of t
      by true e =
          let whole : length s ≡ record_size = eqb-true (length s) record_size e in
          sym (ap fault_of (other-is s t same whole) ∙ ap fault_place (code-fault current laid s (four s t same whole) refl))
      by false e = cut_short s e ∙ sym (cut_short t (ap (λ (n : ℕ). eqb n record_size) (sym same.long) ∙ e))

  pub same-record : bad_record s ≡ bad_record t
  same-record = ap₂ (λ (b : Bool) (k : ℕ). cause (bad (form_by b)) (BadRecord k)) well-same same-fault

-- ---- one of them well formed

module _ (s t : List ℕ) (bs : Bytes s) (bt : Bytes t) (same : SameButCode s t) (w : well_formed s ≡ true) where
  abbrev pub code_of : ℕ
  code_of = word_at t at_code

  abbrev swapped : Record
  swapped = with_code (record_of s) code_of

  swapped-in : InRange swapped
  swapped-in = code_in (record_of s) code_of (word_lt t bt at_code) (in-range s bs w)

  other-bytes : t ≡ bytes_of swapped
  unfolding bytes_of
  other-bytes =
      other-is s t same (well-size s w) ∙ ap₂ (λ (l v : List ℕ). sets l at_code v) (sym (write-back s bs w)) (sym (word-at t bt at_code))
      ∙ set-code_in current laid (record_of s) code_of

  -- the other board is this one with its own code
  pub other-record : record_of t ≡ with_code (record_of s) code_of
  other-record = ap record_of other-bytes ∙ read_back swapped swapped-in

  pub own_code : record_of t ≡ with_code (record_of s) (record_of t).code
  unfolding with_code
  own_code = other-record ∙ ap (with_code (record_of s)) (sym (ap (λ (r : Record). r.code) other-record))

-- ---- what is left on both

pub done-alike : (r : Record) (k : ℕ) (out : List ℕ) (n : ℕ) (o : List ℕ) → Alike (done r out n o) (done (with_code r k) out n o)
done-alike r k out n o = (refl, refl, code-only r k)
