-- What the arms with no function of `ranged` leave, from what the function that stores or puts for them promises.
use Rattle.std.specs.Prelude.{Ok}
use Prim.Native.Nat.{ℕ, ◌≤◌}
use mathlib.Core.Path.{◌≡◌, refl, ap, subst⁻¹, ◌∙◌}
use mathlib.Core.Bool.{true}
use mathlib.Core.List.{List, []}
use lib.ListN.{get_or}
use Rattle.wire.specs.declared.Range.TheVariants.{Fits}
use Rattle.record.specs.Layout.{Part, has, place, current, name_room, at_name_length, record_of}
use Rattle.record.specs.InPlace.{Sound, TurnsAt}
use Rattle.record.proofs.Lens.{get-name-length}
use Rattle.command.specs.declared.Command.{Command}
use Rattle.command.specs.declared.Listed.TheVariants.{Built}
use Rattle.command.specs.Tables.{named_by, range_of}
use Rattle.command.specs.Effects.{effect_of, data_of}
use Rattle.ranged.proofs.Rows.{stores}
use Rattle.effect.specs.Carried.{Carried}
use Rattle.effect.proofs.Arms.{stored}

module _ (s : List ℕ) (h : Sound s) where
  pub sound-name : get_or s at_name_length 0 ≤ name_room
  sound-name = subst⁻¹ (λ (n : ℕ). n ≤ 15) (ap (λ (l : List ℕ). get_or l at_name_length 0) h.same ∙ get-name-length (record_of s)) h.fit.name_length

-- a command that changes one part and tells nothing
module _ (number : ℕ) (k : Command) (named : named_by number ≡ Built k) (q : Part) (there : has current.parts q ≡ true) where
  pub changes : (s p before : List ℕ) (t : List ℕ) → range_of k p ≡ Fits → data_of k (record_of s) p ≡ [] → TurnsAt q (place current q) s t (λ r. effect_of k r p) → Carried number s p before (Ok 0) t before
  changes s p before t fits none h = stored number k named s p before none (Ok 0) t (stores k q (place current q) there refl s p t fits h)
