-- The tests of the calls decide what the reasons say.
use Prim.Native.Nat.{ℕ, zero, suc, ◌+◌, ◌*◌, ◌<◌}
use mathlib.Core.Path.{◌≡◌, refl, sym, ap, ◌∙◌}
use mathlib.Core.Logic.{◌≢◌, ⊎_elim}
use mathlib.Core.Bool.{Bool, true, false, not, true≢false}
use mathlib.Core.List.{List}
use native.Mathlib.Nat.{zero-add}
use native.Mathlib.Omega.{arith}
use lib.Dec.{ltb, eqb}
use borrow.Author.Tests.{ltb-true, ltb-false, eqb-true, eqb-false, not-true, not-false}
use Rattle.std.proofs.lemmas.Bool.{true_from_ne_false}
use Rattle.std.proofs.lemmas.Bool.Decides.{eqb_tells}
use Rattle.wire.specs.Numbers.{word_at}
use Rattle.peak.specs.Pairs.{finite, all_finite}
use Rattle.peak.proofs.PairLaws.{finite-at}
use Rattle.record.specs.Layout.{channels}
use Rattle.record.specs.Form.{well_formed, form_by, form_of}
use Rattle.call.specs.declared.CallRefusal.{CallRefusal}
use Rattle.call.specs.Outcome.{result_of, bad, cause}
use Rattle.call.specs.Calls.{bad_record}
use Rattle.call.specs.Reasons.{reason}
use Rattle.call.proofs.InOrder.{Decides}
use Rattle.demands.specs.CallList.{Malformed, malformed_at, Stray}

pub not-bad : (s : List ℕ) → well_formed s ≡ true → ¬ Malformed s
not-bad s w e = true≢false (sym w ∙ e)

pub well : (s : List ℕ) → ¬ Malformed s → well_formed s ≡ true
well s h = true_from_ne_false (well_formed s) h

pub settled : (a b : ℕ) → ¬ (a ≢ b) → a ≡ b
settled a b h = ⊎_elim (λ e. e.1) (λ e. absurd (h e.1)) (eqb_tells a b)

bad-by : (b : Bool) → bad (form_by b) ≡ not b
bad-by true = refl
bad-by false = refl

-- ---- each kind of test

module _ (why : CallRefusal) (number : result_of why ≢ 0) where
  pub below : (a b : ℕ) → Decides (cause (ltb a b) why) (reason (a < b) why)
  below a b = record { same = refl; number = number; yes = λ e. ltb-true a b e; no = λ e h. omega (arith, ltb-false a b e) }

  pub other : (a b : ℕ) → Decides (cause (not (eqb a b)) why) (reason (a ≢ b) why)
  other a b = record { same = refl; number = number; yes = λ e. eqb-false a b (not-true (eqb a b) e); no = λ e h. h (eqb-true a b (not-false (eqb a b) e)) }

pub formed : (s : List ℕ) → bad (form_of s) ≡ false → well_formed s ≡ true
formed s e = not-false (well_formed s) (sym (bad-by (well_formed s)) ∙ e)

pub malformed : (s : List ℕ) → Decides (bad_record s) (malformed_at s)
malformed s = record {
  same = refl;
  number = λ e. omega arith;
  yes = λ e. not-true (well_formed s) (sym (bad-by (well_formed s)) ∙ e);
  no = λ e. not-bad s (formed s e);
}

-- ---- a reading that is not finite

stray-from : (n : ℕ) (s : List ℕ) (at : ℕ) → all_finite n s at ≡ false → (k : ℕ) × (k < n) × (finite (word_at s (at + 4 * k)) ≡ false)
unfolding all_finite
stray-from zero s at e = absurd (true≢false e)
stray-from (suc n) s at e = by (finite (word_at s at)) refl (λ f. stray-from n s (at + 4) f)
  where
    by : (t : Bool) → finite (word_at s at) ≡ t → (all_finite n s (at + 4) ≡ false → (k : ℕ) × (k < n) × (finite (word_at s (at + 4 + 4 * k)) ≡ false))
        → (k : ℕ) × (k < suc n) × (finite (word_at s (at + 4 * k)) ≡ false)
    by false t ih = (0, omega arith, ap (λ (k : ℕ). finite (word_at s k)) (let z : at + 4 * 0 ≡ at = omega arith in z) ∙ t)
    by true t ih =
        let w = ih (rw t at e) in
        (suc w.0, omega (arith, w.1), ap (λ (k : ℕ). finite (word_at s k)) (let z : at + 4 * suc w.0 ≡ at + 4 + 4 * w.0 = omega arith in z) ∙ w.2)

stray-found : (sample : List ℕ) → all_finite channels sample 0 ≡ false → Stray sample
stray-found sample e = let w = stray-from channels sample 0 e in (w.0, w.1, rw (zero-add (4 * w.0)) at w.2)

none-stray : (sample : List ℕ) → all_finite channels sample 0 ≡ true → ¬ Stray sample
none-stray sample e w = true≢false (sym (rw (zero-add (4 * w.0)) at (finite-at channels sample 0 w.0 e w.1)) ∙ w.2)

pub stray : (why : CallRefusal) → result_of why ≢ 0 → (sample : List ℕ) → Decides (cause (not (all_finite channels sample 0)) why) (reason (Stray sample) why)
stray why number sample = record {
  same = refl;
  number = number;
  yes = λ e. stray-found sample (not-true (all_finite channels sample 0) e);
  no = λ e. none-stray sample (not-false (all_finite channels sample 0) e);
}
