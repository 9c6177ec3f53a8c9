-- The pairs, as the function of their group tests them.
use Prim.Native.Nat.{ℕ, ◌+◌}
use mathlib.Core.Path.{◌≡◌, refl}
use mathlib.Core.Bool.{Bool}
use mathlib.Core.List.{List}
use lib.ListN.{get_or}
use Rattle.peak.specs.Pairs.{pair_fits, pair_at}
use Rattle.record.specs.Layout.{channels, at_flags, at_pairs, bit_of}
use Rattle.record.specs.Form.{several, all_fine}
use Rattle.form.specs.Groups.{pair_fields}

module _ (s : List ℕ) where
  pub pairs-by : (reading : Bool) → bit_of (get_or s at_flags 0) 8 ≡ reading → all_fine (several channels 8 (λ k. pair_fits reading (pair_at s (at_pairs + k))) at_pairs 0) ≡ all_fine (pair_fields s)
  pairs-by reading e = rw e refl
