-- Once the verdict stands, nothing looks at the code, changes it or the pending bytes, or takes back a try.
use Prim.Native.Nat.{ℕ, ◌≤◌}
use mathlib.Core.Path.{◌≡◌, refl, ap}
use mathlib.Core.List.{List}
use native.Mathlib.Nat.{le_refl}
use native.Mathlib.Omega.{arith}
use Rattle.wire.specs.Replies.{kind_of}
use Rattle.record.specs.Record.{Record, with_flags, with_code, with_settings, with_outputs, with_model}
use Rattle.command.specs.declared.Refusal.TheVariants.{Unknown, Unbuilt, Miscounted, NoAccess, BadCode, TooBig, TooSmall}
use Rattle.command.specs.declared.Verdict.{Verdict}
use Rattle.command.specs.declared.Verdict.TheVariants.{Do, Refuse}
use Rattle.command.specs.Rows.{Change, Unchanged, OfFlags, OfSettings, OfOutputs, OfModel, changed, Telling, Always, FromFlags, FromSettings, FromModel, FromPairs, told, row_of}
use Rattle.command.specs.Effects.{effect_of, data_of}
use Rattle.command.specs.Step.{Step, left_by, settled}

-- another code before changes nothing but the code after; the pending bytes stay, the tries never fall
abbrev pub Blind : (Record → Step) → Record → ℕ → Type 0
Blind step r k =
    ((step (with_code r k)).reply ≡ (step r).reply) × ((step (with_code r k)).after ≡ with_code (step r).after k) × ((step r).after.pending ≡ r.pending) × (r.tries ≤ (step r).after.tries)

module _ (r : Record) (k : ℕ) (p : List ℕ) where
  -- no kind of data is told of the code
  told-blind : (t : Telling) → told t (with_code r k) p ≡ told t r p
  unfolding with_code
  told-blind (Always d) = refl
  told-blind (FromFlags f) = refl
  told-blind (FromSettings f) = refl
  told-blind (FromModel f) = refl
  told-blind (FromPairs f) = refl

  -- no kind of change looks at the code, changes it or the pending bytes, or takes back a try
  changed-blind : (x : Change) → (changed x (with_code r k) p ≡ with_code (changed x r p) k) × ((changed x r p).pending ≡ r.pending) × (r.tries ≤ (changed x r p).tries)
  unfolding with_code with_flags with_settings with_outputs with_model
  changed-blind Unchanged = (refl, refl, le_refl r.tries)
  changed-blind (OfFlags f) = (refl, refl, le_refl r.tries)
  changed-blind (OfSettings f) = (refl, refl, le_refl r.tries)
  changed-blind (OfOutputs f) = (refl, refl, le_refl r.tries)
  changed-blind (OfModel f) = (refl, refl, le_refl r.tries)

module _ (r : Record) (k head : ℕ) (p : List ℕ) where
  pub blind : (v : Verdict) → Blind (λ q. settled q head p v) r k
  unfolding effect_of data_of left_by with_code
  blind (Do c) =
      let change = changed-blind r k p (row_of c).effect in
      (ap (λ (d : List ℕ). record { kind = kind_of head; status = 0x00; body = d }) (told-blind r k p (row_of c).reply), change.0, change.1, change.2)
  blind (Refuse Unknown) = (refl, refl, refl, le_refl r.tries)
  blind (Refuse Unbuilt) = (refl, refl, refl, le_refl r.tries)
  blind (Refuse Miscounted) = (refl, refl, refl, le_refl r.tries)
  blind (Refuse NoAccess) = (refl, refl, refl, le_refl r.tries)
  blind (Refuse BadCode) = (refl, refl, refl, omega arith)
  blind (Refuse TooBig) = (refl, refl, refl, le_refl r.tries)
  blind (Refuse TooSmall) = (refl, refl, refl, le_refl r.tries)
