-- Records in range and well-formed bytes are the same, in any layout: each way there and back again.
use Prim.Native.Nat.{ℕ, ◌+◌}
use mathlib.Core.Path.{◌≡◌, refl, sym, ap, ap₂, fun_ext, ◌∙◌}
use mathlib.Core.Bool.{Bool, true, false, cond, ◌&&◌, ◌||◌, and_assoc, and-eq-true_iff, false≢true}
use mathlib.Core.List.{List, [], ◌∷◌, ◌++◌}
use native.Mathlib.Nat.{zero-add}
use native.Mathlib.Omega.{arith}
use lib.ListN.{length, get_or}
use lib.Dec.{eqb}
use borrow.Author.Tests.{eq-eqb, eqb-true}
use Rattle.wire.specs.Numbers.{Bytes, bytes_at}
use Rattle.wire.proofs.NumberLaws.{length_part, part-all, bytes-part}
use Rattle.record.specs.Record.{Record}
use Rattle.record.specs.Layout.{Part, FlagByte, same, has, Plan, current, width, place, plan_size, part_in, part_bytes, value_of, bytes_in, record_in, bytes_of, record_of}
use Rattle.record.specs.Form.{Field, all_fine, tests_of, tests_by, reading_by, fields_in, well_in, well_formed, InRangeIn, InRange}
use Rattle.record.proofs.Choices.{bits_back}
use Rattle.record.proofs.Layouts.{has_first, has-later, same-is, lay-same, lay-long, lay-part, cut-lay}
use Rattle.record.specs.Laid.{Laid}
use Rattle.record.proofs.Plans.{laid}
use Rattle.record.proofs.Pieces.{Cut, present, chunk-long, chunk-fine, read-present, write-part, value_in}

-- ---- the tests of all parts

fine-append : (a b : List Field) → all_fine (a ++ b) ≡ (all_fine a && all_fine b)
fine-append [] b = refl
fine-append (f ∷ a) b = ap (λ (t : Bool). f.fine && t) (fine-append a b) ∙ sym (and_assoc f.fine (all_fine a) (all_fine b))

tests-all : (t : Part → List Field) (ps : List Part) → ((q : Part) → has ps q ≡ true → all_fine (t q) ≡ true) → all_fine (tests_by t ps) ≡ true
tests-all t [] h = refl
tests-all t (x ∷ ps) h = fine-append (t x) (tests_by t ps) ∙ ap₂ (◌&&◌) (h x (has_first x ps)) (tests-all t ps (λ q e. h q (has-later q x ps e)))

tests-each : (t : Part → List Field) (ps : List Part) → all_fine (tests_by t ps) ≡ true → (q : Part) → has ps q ≡ true → all_fine (t q) ≡ true
tests-each t [] e q h = absurd (false≢true h)
tests-each t (x ∷ ps) e q h = by (same q x) refl h (λ k. tests-each t ps w.1 q k)
  where
    w : (all_fine (t x) ≡ true) × (all_fine (tests_by t ps) ≡ true)
    w = (and-eq-true_iff (all_fine (t x)) (all_fine (tests_by t ps))).0 (sym (fine-append (t x) (tests_by t ps)) ∙ e)

    by : (b : Bool) → same q x ≡ b → (b || has ps q) ≡ true → (has ps q ≡ true → all_fine (t q) ≡ true) → all_fine (t q) ≡ true
    by true s h ih = ap (λ (y : Part). all_fine (t y)) (same-is q x s) ∙ w.0
    by false s h ih = ih h

module _ (p : Plan) (l : Laid p) where
  -- ---- a record from its bytes

  module _ (r : Record) where
    pub get-part : (q : Part) → has p.parts q ≡ true → bytes_at (width p q) (bytes_in p r) (place p q) ≡ part_bytes p r q
    unfolding bytes_in
    get-part q e = lay-part (width p) (part_bytes p r) (chunk-long p r) q p.parts e

    piece_is : (q : Part) → part_in p (bytes_in p r) q ≡ present p l r q
    piece_is q = by (has p.parts q) refl
      where
        by : (t : Bool) → has p.parts q ≡ t → cond t (bytes_at (width p q) (bytes_in p r) (place p q)) [] ≡ cond t (part_bytes p r q) []
        by true e = get-part q e
        by false e = refl

    pub long_in : length (bytes_in p r) ≡ plan_size p
    unfolding bytes_in
    long_in = lay-long (width p) (part_bytes p r) (chunk-long p r) p.parts

    module _ (h : InRangeIn p r) where
      pub read-back_in : record_in p (bytes_in p r) ≡ r
      unfolding record_in
      read-back_in = ap (value_of p) (fun_ext piece_is) ∙ read-present p l r h

      pub well-formed_in : well_in p (bytes_in p r) ≡ true
      unfolding well_in
      well-formed_in =
          let s = bytes_in p r in
          let core : has p.parts FlagByte ≡ true = ap (λ (b : List Bool). get_or b 2 true) l.core in
          let there : (q : Part) → has p.parts q ≡ true → part_in p s q ≡ part_bytes p r q = λ q e. ap (λ (t : Bool). cond t (bytes_at (width p q) s (place p q)) []) e ∙ get-part q e in
          let reading : reading_by (part_in p s FlagByte) ≡ r.flags.reading = ap reading_by (there FlagByte core) ∙ (bits_back r.flags.opened r.flags.unlocked r.flags.sending r.flags.reading).3 in
          ap₂ (◌&&◌) (eq-eqb (length s) (plan_size p) long_in)
          (tests-all (λ q. tests_of p (reading_by (part_in p s FlagByte)) (place p q) (part_in p s q) q) p.parts
          (λ q e. ap₂ (λ (b : Bool) (c : List ℕ). all_fine (tests_of p b (place p q) c q)) reading (there q e) ∙ chunk-fine p l r h (place p q) q))

  -- ---- bytes of a record

  module _ (s : List ℕ) (b : Bytes s) (e : well_in p s ≡ true) where
    well : (length s ≡ plan_size p) × (all_fine (fields_in p s) ≡ true)
    unfolding well_in
    well = let w = (and-eq-true_iff (eqb (length s) (plan_size p)) (all_fine (fields_in p s))).0 e in (eqb-true (length s) (plan_size p) w.0, w.1)

    there : (q : Part) → has p.parts q ≡ true → part_in p s q ≡ bytes_at (width p q) s (place p q)
    there q t = ap (λ (t : Bool). cond t (bytes_at (width p q) s (place p q)) []) t

    not_there : (q : Part) → has p.parts q ≡ false → part_in p s q ≡ []
    not_there q t = ap (λ (t : Bool). cond t (bytes_at (width p q) s (place p q)) []) t

    piece_bytes : (q : Part) → Bytes (part_in p s q)
    piece_bytes q = by (has p.parts q)
      where
        by : (t : Bool) → Bytes (cond t (bytes_at (width p q) s (place p q)) [])
        by true = bytes-part (width p q) s (place p q) b
        by false = λ i. omega arith

    pieces : Cut p l (part_in p s)
    pieces = record {
      long = λ q t. ap length (there q t) ∙ length_part (width p q) s (place p q);
      none = not_there;
      bytes = piece_bytes;
      fine = tests-each (λ q. tests_of p (reading_by (part_in p s FlagByte)) (place p q) (part_in p s q) q) p.parts well.1;
    }

    pub in-range_in : InRangeIn p (record_in p s)
    unfolding record_in
    in-range_in = value_in p l (part_in p s) pieces

    pub write-back_in : bytes_in p (record_in p s) ≡ s
    unfolding bytes_in record_in
    write-back_in =
        lay-same (part_bytes p (value_of p (part_in p s))) (λ q. bytes_at (width p q) s (0 + place p q)) p.parts
        (λ q t. write-part p l (part_in p s) pieces q t ∙ there q t ∙ ap (bytes_at (width p q) s) (sym (zero-add (place p q))))
        ∙ cut-lay (width p) s p.parts l.apart 0 ∙ part-all (plan_size p) s well.0

-- ---- the current version

pub read_back : (r : Record) → InRange r → record_of (bytes_of r) ≡ r
unfolding record_of bytes_of
read_back r h = read-back_in current laid r h

pub well-formed : (r : Record) → InRange r → well_formed (bytes_of r) ≡ true
unfolding well_formed bytes_of
well-formed r h = well-formed_in current laid r h

pub in-range : (s : List ℕ) → Bytes s → well_formed s ≡ true → InRange (record_of s)
unfolding well_formed record_of
in-range s b e = in-range_in current laid s b e

pub write-back : (s : List ℕ) → Bytes s → well_formed s ≡ true → bytes_of (record_of s) ≡ s
unfolding well_formed record_of bytes_of
write-back s b e = write-back_in current laid s b e
