-- Each way that factory and power-on end, as its outcome.
use Prim.Native.Nat.{ℕ}
use mathlib.Core.Path.{◌≡◌, refl, sym, ap, ◌∙◌}
use mathlib.Core.Bool.{Bool, true, false}
use mathlib.Core.List.{List, []}
use native.Mathlib.Omega.{arith}
use lib.ListN.{length}
use lib.Dec.{eqb}
use borrow.Author.Tests.{eq-eqb, ne_eqb, eqb-true}
use Rattle.wire.specs.Numbers.{Bytes}
use Rattle.wire.proofs.PutLaws.{put-nil}
use Rattle.peak.proofs.PairLaws.{both}
use Rattle.record.specs.Layout.{current, record_size, bytes_of, record_of}
use Rattle.record.specs.Form.{fields_in, all_fine, well_formed, form_by, form_of}
use Rattle.record.specs.Births.{factory, powered_on}
use Rattle.record.specs.InPlace.{Sound, Turns}
use Rattle.record.specs.declared.Form.TheVariants.{Good}
use Rattle.record.proofs.RoundTrip.{in-range, write-back}
use Rattle.call.specs.declared.CallRefusal.{CallRefusal}
use Rattle.call.specs.declared.CallRefusal.TheVariants.{BadRecord}
use Rattle.call.specs.Outcome.{no_counts, counts, Leaves}
use Rattle.call.specs.Ended.{BadForm}
use Rattle.call.proofs.InOrder.{left}
use Rattle.call.specs.Calls.{factory_call, power_on_call}
use Rattle.call.proofs.Unfolded.{factory-by, power-on-by}

-- ---- what the check's answer says of the bytes

good-by : (b : Bool) → form_by b ≡ Good → b ≡ true
good-by true e = refl
good-by false e = let z : ◌≡◌ {A = ℕ} 0 1 = cc in absurd (omega arith)

pub form-good : (s : List ℕ) → well_formed s ≡ true → form_of s ≡ Good
form-good s w = ap form_by w

pub good-well : (s : List ℕ) → form_of s ≡ Good → well_formed s ≡ true
good-well s e = good-by (well_formed s) e

well-long : (s : List ℕ) → well_formed s ≡ true → length s ≡ record_size
unfolding well_formed
well-long s w = eqb-true (length s) record_size (both (eqb (length s) record_size) (all_fine (fields_in current s)) w).0

pub good-long : (s : List ℕ) → form_of s ≡ Good → length s ≡ record_size
good-long s e = well-long s (good-well s e)

pub good-sound : (s : List ℕ) → Bytes s → form_of s ≡ Good → Sound s
good-sound s b e = record { fit = in-range s b (good-well s e); same = sym (write-back s b (good-well s e)) }

-- ---- factory and power-on

module _ (s : List ℕ) where
  pub factory-refuses : (length s ≡ record_size → ⊥) → Leaves (factory_call s) (no_counts (BadRecord 0)) s []
  factory-refuses h = left (factory-by s ∙ rw (ne_eqb (length s) record_size h) refl)

  pub factory-ends : length s ≡ record_size → (t : List ℕ) → t ≡ bytes_of factory → Leaves (factory_call s) (counts 0 0) t []
  factory-ends h t q = left (factory-by s ∙ rw (eq-eqb (length s) record_size h, put-nil [] 0, q) refl)

  pub power-on-refuses : (why : CallRefusal) → BadForm s why → Leaves (power_on_call s) (no_counts why) s []
  power-on-refuses why h = left (power-on-by s ∙ rw (h.0, h.1) refl)

  pub power-on-ends : form_of s ≡ Good → Sound s → (t : List ℕ) → Turns s t (λ r. powered_on r) → Leaves (power_on_call s) (counts 0 0) t []
  power-on-ends h sound t q = left (power-on-by s ∙ rw (h, put-nil [] 0, q (record_of s) sound.fit sound.same) refl)
