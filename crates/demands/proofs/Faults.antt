-- Where a record is bad, from the laws of its first fault.
use Prim.Native.Nat.{ℕ, zero, suc, ◌<◌}
use mathlib.Core.Path.{◌≡◌, refl, ◌∙◌}
use mathlib.Core.Logic.{◌≢◌}
use mathlib.Core.Bool.{Bool, true, false, not, cond, true≢false}
use mathlib.Core.List.{List, [], ◌∷◌}
use native.Mathlib.Omega.{arith}
use lib.ListN.{length, get_or}
use lib.Dec.{eqb}
use borrow.Author.Tests.{eq-eqb, ne_eqb}
use Rattle.record.specs.Layout.{current, record_size, bytes_of}
use Rattle.record.specs.Form.{Field, fields_in, all_fine, well_formed, first_fault, fault_place, fault_of}
use Rattle.record.specs.Births.{factory}
use Rattle.call.specs.declared.CallRefusal.TheVariants.{BadRecord}
use Rattle.call.specs.Outcome.{refused, done}
use Rattle.call.specs.Calls.{factory_call, power_on_call}
use Rattle.call.proofs.Unfolded.{factory-by}
use Rattle.demands.specs.CallList.{Malformed, call_of}
use Rattle.demands.specs.Faults.{places_of, fines_of, field_places, FirstBad, SaysWhere}
use Rattle.demands.proofs.OtherCode.{cut_short, same-fault}
use Rattle.demands.proofs.Laws.{placeless, placed_by}
use Rattle.demands.proofs.AllLaws.{laws-of}

-- ---- the first fault of any fields

placed : (fs : List Field) (i : ℕ) → get_or (fines_of fs) i true ≡ false → ((j : ℕ) → j < i → get_or (fines_of fs) j true ≡ true) → fault_place (first_fault fs) ≡ get_or (places_of fs) i 0
placed [] i e h = absurd (true≢false e)
placed (f ∷ fs) zero e h = rw e refl
placed (f ∷ fs) (suc i) e h = rw (h 0 (omega arith)) (placed fs i e (λ j k. h (suc j) (omega arith)))

found : (fs : List Field) → all_fine fs ≡ false → (i : ℕ) × (get_or (fines_of fs) i true ≡ false) × ((j : ℕ) → j < i → get_or (fines_of fs) j true ≡ true)
found [] e = absurd (true≢false e)
found (f ∷ fs) e = by f.fine refl (λ h. found fs h)
  where
    by : (t : Bool) → f.fine ≡ t → (all_fine fs ≡ false → (i : ℕ) × (get_or (fines_of fs) i true ≡ false) × ((j : ℕ) → j < i → get_or (fines_of fs) j true ≡ true))
        → (i : ℕ) × (get_or (f.fine ∷ fines_of fs) i true ≡ false) × ((j : ℕ) → j < i → get_or (f.fine ∷ fines_of fs) j true ≡ true)
    by false t ih = (0, t, λ j k. absurd (omega arith))
    by true t ih = let w = ih (rw t at e) in (suc w.0, w.1, λ j. earlier w.0 w.2 t j)
      where
        earlier : (i : ℕ) → ((j : ℕ) → j < i → get_or (fines_of fs) j true ≡ true) → f.fine ≡ true → (j : ℕ) → j < suc i → get_or (f.fine ∷ fines_of fs) j true ≡ true
        earlier i h t zero k = t
        earlier i h t (suc j) k = h j (omega arith)

within : (fs : List Field) (i : ℕ) → get_or (fines_of fs) i true ≡ false → i < length (places_of fs)
within [] i e = absurd (true≢false e)
within (f ∷ fs) zero e = omega arith
within (f ∷ fs) (suc i) e = omega (arith, within fs i e)

module _ (s : List ℕ) where
  other : length s ≢ record_size → fault_of s ≡ 0
  other h = cut_short s (ne_eqb (length s) record_size h)

  module _ (whole : length s ≡ record_size) where
    by-fields : fault_of s ≡ fault_place (first_fault (fields_in current s))
    unfolding fault_of
    by-fields = rw (eq-eqb (length s) record_size whole) refl

    first : (i : ℕ) → FirstBad s i → fault_of s ≡ get_or field_places i 0
    first i b = by-fields ∙ placed (fields_in current s) i b.fault b.fine

    bad-fields : Malformed s → all_fine (fields_in current s) ≡ false
    unfolding well_formed
    bad-fields m = rw (eq-eqb (length s) record_size whole) at m

    some : Malformed s → (i : ℕ) × FirstBad s i
    some m =
        let w = found (fields_in current s) (bad-fields m) in
        (w.0, record { there = within (fields_in current s) w.0 w.1; fault = w.1; fine = w.2 })

-- ---- factory

of_factory : (s : List ℕ) → (factory_call s).answer.place ≡ 0
of_factory s = rw (factory-by s) (by (eqb (length s) record_size))
  where
    by : (t : Bool) → (cond (not t) (refused (BadRecord 0) s []) (done factory [] 0 [])).answer.place ≡ 0
    by true = refl
    by false = refl

pub says_where : SaysWhere
unfolding power_on_call factory bytes_of
says_where = record {
  places = λ s. refl;
  other_length = other;
  first = λ s i whole. first s whole i;
  some = some;
  any_code = same-fault;
  told = λ m s. placed_by (call_of m.name) (laws-of m.name) m.lent s;
  of_factory = of_factory;
  silent = λ m s. placeless (call_of m.name) (laws-of m.name) m.lent s;
  worked = refl;
}
