-- The place of the first fault, in any layout: there is none exactly in well-formed bytes, and no code moves it.
use Prim.Native.Nat.{ℕ, ◌+◌}
use mathlib.Core.Path.{◌≡◌, refl, sym, ap, ap₂, subst, ◌∙◌}
use mathlib.Core.Bool.{Bool, true, false, cond, ◌&&◌, false≢true}
use mathlib.Core.List.{List, [], ◌∷◌, ◌++◌}
use native.Mathlib.Nat.{add-zero, zero-add}
use native.Mathlib.Omega.{arith}
use lib.ListN.{length, get_or}
use lib.Seq.{sets, length-sets}
use lib.Dec.{eqb}
use borrow.Author.Tests.{eqb-true}
use Rattle.wire.specs.Numbers.{bytes_at}
use Rattle.wire.proofs.NumberLaws.{length_part, part-all}
use Rattle.record.specs.Layout.{Part, FlagByte, CodeWord, same, has, lay, Plan, width, place, plan_size, part_in}
use Rattle.record.specs.Laid.{Laid}
use Rattle.record.specs.Form.{Field, all_fine, tests_of, tests_by, reading_by, fields_in, well_in, NoFault, FaultAt, first_fault, fault_in}
use Rattle.record.proofs.Layouts.{same-is, has_first, has-later, upd, lay-part, lay-store, cut-lay}

fault-by : (fs : List Field) → all_fine fs ≡ true → first_fault fs ≡ NoFault
fault-by [] e = refl
fault-by (f ∷ fs) e = by f.fine e (λ h. fault-by fs h)
  where
    by : (t : Bool) → (t && all_fine fs) ≡ true → (all_fine fs ≡ true → first_fault fs ≡ NoFault) → cond t (first_fault fs) (FaultAt f.place) ≡ NoFault
    by true e ih = ih e
    by false e ih = absurd (false≢true e)

fine-by : (fs : List Field) → first_fault fs ≡ NoFault → all_fine fs ≡ true
fine-by [] e = refl
fine-by (f ∷ fs) e = by f.fine e (λ h. fine-by fs h)
  where
    by : (t : Bool) → cond t (first_fault fs) (FaultAt f.place) ≡ NoFault → (first_fault fs ≡ NoFault → all_fine fs ≡ true) → (t && all_fine fs) ≡ true
    by true e ih = ih e
    by false e ih = let z : ◌≡◌ {A = ℕ} 0 1 = cc in absurd (omega arith)

pub no-fault : (p : Plan) (s : List ℕ) → well_in p s ≡ true → fault_in p s ≡ NoFault
unfolding well_in fault_in
no-fault p s e = by (eqb (length s) (plan_size p)) e
  where
    by : (t : Bool) → (t && all_fine (fields_in p s)) ≡ true → cond t (first_fault (fields_in p s)) (FaultAt 0) ≡ NoFault
    by true e = fault-by (fields_in p s) e
    by false e = absurd (false≢true e)

pub fault-none : (p : Plan) (s : List ℕ) → fault_in p s ≡ NoFault → well_in p s ≡ true
unfolding well_in fault_in
fault-none p s e = by (eqb (length s) (plan_size p)) e
  where
    by : (t : Bool) → cond t (first_fault (fields_in p s)) (FaultAt 0) ≡ NoFault → (t && all_fine (fields_in p s)) ≡ true
    by true e = fine-by (fields_in p s) e
    by false e = let z : ◌≡◌ {A = ℕ} 0 1 = cc in absurd (omega arith)

-- ---- a store in one part leaves the others

tests_same : (t u : Part → List Field) (ps : List Part) → ((q : Part) → has ps q ≡ true → t q ≡ u q) → tests_by t ps ≡ tests_by u ps
tests_same t u [] h = refl
tests_same t u (x ∷ ps) h = ap₂ (◌++◌) (h x (has_first x ps)) (tests_same t u ps (λ q e. h q (has-later q x ps e)))

module _ (p : Plan) (l : Laid p) (s : List ℕ) (long : length s ≡ plan_size p) (x : Part) (there : has p.parts x ≡ true) (v : List ℕ) (fit : length v ≡ width p x) where
  abbrev cut : Part → List ℕ
  cut q = bytes_at (width p q) s (0 + place p q)

  cut-long : (q : Part) → length (cut q) ≡ width p q
  cut-long q = length_part (width p q) s (0 + place p q)

  next-long : (q : Part) → length (upd x (sets (cut x) 0 v) cut q) ≡ width p q
  next-long q = by (same x q) refl
    where
      by : (t : Bool) → same x q ≡ t → length (cond t (sets (cut x) 0 v) (cut q)) ≡ width p q
      by true e = length-sets (cut x) 0 v ∙ cut-long x ∙ ap (width p) (same-is x q e)
      by false e = cut-long q

  stored : sets s (place p x) v ≡ lay (upd x (sets (cut x) 0 v) cut) p.parts
  stored =
      let whole : lay cut p.parts ≡ s = cut-lay (width p) s p.parts l.apart 0 ∙ part-all (plan_size p) s long in
      ap₂ (λ (a : List ℕ) (k : ℕ). sets a k v) (sym whole) (sym (add-zero (place p x))) ∙ lay-store (width p) cut cut-long x p.parts l.apart there 0 v (omega (arith, fit))

  pub others : (q : Part) → has p.parts q ≡ true → same x q ≡ false → bytes_at (width p q) (sets s (place p x) v) (place p q) ≡ bytes_at (width p q) s (place p q)
  others q e n =
      ap (λ (a : List ℕ). bytes_at (width p q) a (place p q)) stored ∙ lay-part (width p) (upd x (sets (cut x) 0 v) cut) next-long q p.parts e
      ∙ ap (λ (t : Bool). cond t (sets (cut x) 0 v) (cut q)) n ∙ ap (bytes_at (width p q) s) (zero-add (place p q))

-- ---- "Every code is well formed": no field reads it

module _ (p : Plan) (l : Laid p) (s : List ℕ) (v : List ℕ) (four : length v ≡ 4) where
  core : has p.parts CodeWord ≡ true
  core = ap (λ (b : List Bool). get_or b 4 true) l.core

  pub code-blind : length s ≡ plan_size p → fields_in p (sets s (place p CodeWord) v) ≡ fields_in p s
  code-blind long =
      let t = sets s (place p CodeWord) v in
      let other : (q : Part) → has p.parts q ≡ true → same CodeWord q ≡ false → part_in p t q ≡ part_in p s q =
      λ q e n. ap (λ (c : List ℕ). cond (has p.parts q) c []) (others p l s long CodeWord core v four q e n) in
      let flags : part_in p t FlagByte ≡ part_in p s FlagByte = other FlagByte (ap (λ (b : List Bool). get_or b 2 true) l.core) refl in
      tests_same (λ q. tests_of p (reading_by (part_in p t FlagByte)) (place p q) (part_in p t q) q) (λ q. tests_of p (reading_by (part_in p s FlagByte)) (place p q) (part_in p s q) q) p.parts
      (λ q e. each q e (same CodeWord q) refl (other q e) flags)
    where
      each : (q : Part) → has p.parts q ≡ true → (b : Bool) → same CodeWord q ≡ b → (same CodeWord q ≡ false → part_in p (sets s (place p CodeWord) v) q ≡ part_in p s q)
          → part_in p (sets s (place p CodeWord) v) FlagByte ≡ part_in p s FlagByte
          → tests_of p (reading_by (part_in p (sets s (place p CodeWord) v) FlagByte)) (place p q) (part_in p (sets s (place p CodeWord) v) q) q ≡ tests_of p (reading_by (part_in p s FlagByte)) (place p q) (part_in p s q) q
      each q e true n f g =
          subst (λ (y : Part). tests_of p (reading_by (part_in p (sets s (place p CodeWord) v) FlagByte)) (place p y) (part_in p (sets s (place p CodeWord) v) y) y ≡ tests_of p (reading_by (part_in p s FlagByte)) (place p y) (part_in p s y) y) (same-is CodeWord q n) refl
      each q e false n f g = ap₂ (λ (a b : List ℕ). tests_of p (reading_by a) (place p q) b q) g (f n)

  pub code-fault : fault_in p (sets s (place p CodeWord) v) ≡ fault_in p s
  unfolding fault_in
  code-fault = rw (length-sets s (place p CodeWord) v) (by (eqb (length s) (plan_size p)) refl)
    where
      by : (t : Bool) → eqb (length s) (plan_size p) ≡ t → cond t (first_fault (fields_in p (sets s (place p CodeWord) v))) (FaultAt 0) ≡ cond t (first_fault (fields_in p s)) (FaultAt 0)
      by true e = ap first_fault (code-blind (eqb-true (length s) (plan_size p) e))
      by false e = refl
