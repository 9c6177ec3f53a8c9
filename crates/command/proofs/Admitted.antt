-- What the checks that a command passed tell of its parameters.
use Prim.Native.Nat.{ℕ, ◌≤◌}
use mathlib.Core.Path.{◌≡◌, refl, subst}
use mathlib.Core.Bool.{Bool, true, false, cond}
use mathlib.Core.List.{List}
use native.Mathlib.Omega.{arith}
use lib.ListN.{length, get_or}
use lib.Dec.{ltb}
use lib.IntN.{pos}
use borrow.Author.Tests.{ltb-false}
use Rattle.wire.specs.Numbers.{signed8}
use Rattle.wire.specs.Ranges.{within, unsigned, also}
use Rattle.wire.specs.declared.Range.{Range}
use Rattle.wire.specs.declared.Range.TheVariants.{Fits, Big, Small}
use Rattle.record.specs.Limits.{input_range}
use Rattle.command.specs.declared.Command.{Command}
use Rattle.command.specs.declared.Command.TheVariants.{SetInput, ReadInput, SwitchOutput, ReadPair}
use Rattle.command.specs.declared.Counted.TheVariants.{Right}
use Rattle.command.specs.Rows.{input_channel, output_number, output_value}
use Rattle.command.specs.Tables.{span_of, counted_of, range_of}
use Rattle.command.proofs.Keep.{counted-span}

-- ---- bounds from ranges

pub unsigned-bounds : (low high b : ℕ) → unsigned low high b ≡ Fits → (low ≤ b) × (b ≤ high)
unsigned-bounds low high b e = go (ltb high b) (ltb b low) refl refl e
  where
    go : (x y : Bool) → ltb high b ≡ x → ltb b low ≡ y → cond x Big (cond y Small Fits) ≡ Fits → (low ≤ b) × (b ≤ high)
    go true y p q e = let z : ◌≡◌ {A = ℕ} 0 1 = cc in absurd (omega arith)
    go false true p q e = let z : ◌≡◌ {A = ℕ} 0 1 = cc in absurd (omega arith)
    go false false p q e = (ltb-false b low q, ltb-false high b p)

-- a byte that stands for a number below 0 is in no such range
pub signed-bounds : (low high b : ℕ) → within (pos low) (pos high) (signed8 b) ≡ Fits → (low ≤ b) × (b ≤ high)
signed-bounds low high b e = go (ltb b 128) refl e
  where
    go : (x : Bool) → ltb b 128 ≡ x → within (pos low) (pos high) (signed8 b) ≡ Fits → (low ≤ b) × (b ≤ high)
    go true p e = unsigned-bounds low high b (rw p at e)
    go false p e = let q = rw p at e in let z : ◌≡◌ {A = ℕ} 0 1 = cc in absurd (omega arith)

also-left : (x y : Range) → also x y ≡ Fits → x ≡ Fits
also-left Fits y e = refl
also-left Big y e = e
also-left Small y e = e

module _ (p : List ℕ) where
  pub set-input-channel : range_of SetInput p ≡ Fits → (2 ≤ get_or p 0 0) × (get_or p 0 0 ≤ 6)
  unfolding range_of
  set-input-channel e = signed-bounds 2 6 (get_or p 0 0) (also-left (input_channel (get_or p 0 0)) (input_range (get_or p 1 0)) e)

  pub read-input-channel : range_of ReadInput p ≡ Fits → (2 ≤ get_or p 0 0) × (get_or p 0 0 ≤ 6)
  unfolding range_of
  read-input-channel e = signed-bounds 2 6 (get_or p 0 0) e

  pub output-number : range_of SwitchOutput p ≡ Fits → (1 ≤ get_or p 0 0) × (get_or p 0 0 ≤ 4)
  unfolding range_of
  output-number e = signed-bounds 1 4 (get_or p 0 0) (also-left (output_number (get_or p 0 0)) (output_value (get_or p 1 0)) e)

  pub pair-channel : range_of ReadPair p ≡ Fits → (1 ≤ get_or p 0 0) × (get_or p 0 0 ≤ 6)
  unfolding range_of
  pair-channel e = unsigned-bounds 1 6 (get_or p 0 0) e

-- ---- in the arm of a command

-- what a command that is carried out has passed
pub record Admitted (k : Command) (p : List ℕ) : Type 0 where
  pub least : (span_of k).least ≤ length p
  pub most : length p ≤ (span_of k).most
  pub range : range_of k p ≡ Fits

module _ (c k : Command) (told : c ≡ k) where
  pub admitted : (p : List ℕ) → counted_of c (length p) ≡ Right → range_of c p ≡ Fits → Admitted k p
  admitted p n g =
      let w = counted-span k (length p) (subst (λ (x : Command). counted_of x (length p) ≡ Right) told n) in
      record { least = w.0; most = w.1; range = subst (λ (x : Command). range_of x p ≡ Fits) told g }
