-- The fields of a kind, as their loops test them; and the answers of all groups.
use Rattle.std.proofs.Common.{◌≡◌, ℕ, ◌+◌, ◌-◌, ◌*◌, ◌≤◌, Bool, true, false, cond, List, [], ◌∷◌, ◌++◌, length, get_or, leb, sym, refl, ap, ◌∙◌, arith, Ok, Err, map}
use Rattle.std.specs.Prelude.{⊤, Result}
use Rattle.std.specs.Option.{unwrap_or}
use Rattle.std.specs.Result.{result_err}
use borrow.Author.Tests.{eq-eqb, ne_eqb}
use Rattle.record.specs.Form.{Field, FaultAt, first_fault, fault_place, fault_of}
use Rattle.record.specs.Layout.{record_size}
use Rattle.form.specs.Groups.{groups_of, join}
use Rattle.fault.specs.Rest.{held, held_all, in_turn, answers_of}
use Rattle.wire.specs.Ranges.{fits}
use Rattle.peak.specs.Pairs.{pair_fits, pair_at}
use Rattle.record.specs.Limits.{input_range}
use Rattle.record.specs.Layout.{bit_of, at_flags, at_inputs, at_pairs}
use Rattle.limits.proofs.Tests.{fits_low}

abbrev pub pair_fine : List ℕ → ℕ → Bool
pair_fine s k = pair_fits (bit_of (get_or s at_flags 0) 8) (pair_at s (at_pairs + k))

abbrev pub input_fine : List ℕ → ℕ → Bool
input_fine s k = fits (input_range (get_or s (at_inputs + k) 0))

pub input_at : (s : List ℕ) (at : ℕ) → at_inputs ≤ at → input_fine s (1 * (at - at_inputs)) ≡ leb (get_or s at 0) 1
input_at s at h = let e : at_inputs + 1 * (at - at_inputs) ≡ at = omega arith in rw e (fits_low 1 (get_or s at 0) (omega arith))

-- ---- one test

pub failed : (fine : Bool) (place e : ℕ) → held fine place ≡ Err e → (fine ≡ false) × (place ≡ e)
failed true place e h = absurd (cc)
failed false place e h = (refl, cc)

pub passed : (fine : Bool) (place : ℕ) (u : ⊤) → held fine place ≡ Ok u → fine ≡ true
passed true place u h = refl
passed false place u h = absurd (cc)

-- ---- the whole record

-- what `fault_of` makes of an answer
abbrev pub place_of : Result ⊤ ℕ → ℕ
place_of r = unwrap_or (result_err r) 0

first-held : (fs : List Field) → fault_place (first_fault fs) ≡ place_of (held_all fs)
unfolding held_all
first-held [] = refl
first-held (f ∷ fs) = by f.fine (first-held fs)
  where
    by : (t : Bool) → fault_place (first_fault fs) ≡ place_of (held_all fs) → fault_place (cond t (first_fault fs) (FaultAt f.place)) ≡ place_of (cond t (held_all fs) (Err f.place))
    by true e = e
    by false e = refl

one-in : (gs : List (List Field)) → held_all (join gs) ≡ in_turn (map held_all gs) → (g : List Field) → held_all (g ++ join gs) ≡ in_turn (held_all g ∷ map held_all gs)
unfolding held_all
one-in gs e [] = e
one-in gs e (f ∷ fs) = by f.fine (one-in gs e fs)
  where
    by : (t : Bool) → held_all (fs ++ join gs) ≡ in_turn (held_all fs ∷ map held_all gs) → cond t (held_all (fs ++ join gs)) (Err f.place) ≡ in_turn (cond t (held_all fs) (Err f.place) ∷ map held_all gs)
    by true e = e
    by false e = refl

first-in : (gs : List (List Field)) → held_all (join gs) ≡ in_turn (map held_all gs)
unfolding held_all
first-in [] = refl
first-in (g ∷ gs) = one-in gs (first-in gs) g

pub size-bad : (s : List ℕ) → (length s ≡ record_size → ⊥) → 0 ≡ fault_of s
unfolding fault_of
size-bad s h = rw (ne_eqb (length s) record_size h) refl

pub place-is : (s : List ℕ) → length s ≡ record_size → place_of (in_turn (answers_of s)) ≡ fault_of s
unfolding fault_of
place-is s h = sym (rw (eq-eqb (length s) record_size h) (first-held (join (groups_of s)) ∙ ap place_of (first-in (groups_of s))))
