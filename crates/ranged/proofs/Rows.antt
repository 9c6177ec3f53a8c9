-- What each of these leaves, from what the function that stores or puts for it promises.
use Rattle.std.specs.Prelude.{Ok}
use Prim.Native.Nat.{ℕ, ◌+◌, ◌-◌, ◌*◌}
use mathlib.Core.Path.{◌≡◌, refl, ap, ◌∙◌}
use mathlib.Core.Bool.{true}
use mathlib.Core.List.{List, [], ◌∷◌}
use native.Mathlib.Omega.{arith}
use lib.ListN.{get_or}
use Rattle.wire.specs.Numbers.{bytes_at}
use Rattle.wire.specs.declared.Range.TheVariants.{Fits}
use Rattle.peak.specs.Pairs.{no_pair, pair_bytes}
use Rattle.record.specs.declared.Setting.{Setting}
use Rattle.record.specs.Layout.{Part, has, place, at_pairs, record_of, current}
use Rattle.record.specs.Settings.{sheet_of, setting_place, setting_width}
use Rattle.record.specs.InPlace.{Sound, TurnsAt}
use Rattle.record.proofs.InPlaceLaws.{here}
use Rattle.record.proofs.Lens.{get-pair-bytes}
use Rattle.record.proofs.SettingLaws.{get-setting}
use Rattle.command.specs.declared.Command.{Command}
use Rattle.command.specs.declared.Command.TheVariants.{Read, ReadPair}
use Rattle.command.specs.Tables.{range_of}
use Rattle.command.proofs.Admitted.{unsigned-bounds}
use Rattle.command.specs.Effects.{effect_of, data_of}
use Rattle.data.specs.PutsData.{PutsData}
use Rattle.ranged.specs.Done.{Stores, Tells}

pub tells-setting : (s before : List ℕ) (n : ℕ) (after : List ℕ) → Sound s → (k : Setting) → PutsData before (bytes_at (setting_width k) s (setting_place k)) n after → Tells (Read k) s [] before (Ok n) after
unfolding range_of data_of
tells-setting s before n after h k d =
    let e : bytes_at (setting_width k) s (setting_place k) ≡ (sheet_of k).shown (record_of s).settings = ap (λ (l : List ℕ). bytes_at (setting_width k) l (setting_place k)) h.same ∙ get-setting (record_of s) k in
    (refl, rw e at d)

-- a part that holds what the effect says of it
pub stores : (c : Command) (q : Part) (at : ℕ) → has current.parts q ≡ true → place current q ≡ at → (s p t : List ℕ) → range_of c p ≡ Fits → TurnsAt q at s t (λ r. effect_of c r p) → Stores c s p (Ok 0) t
stores c q at there stands s p t g h = (g, here q at there stands s t (λ r. effect_of c r p) h, refl)

pub tells-pair : (s p before : List ℕ) (n : ℕ) (after : List ℕ) → Sound s → range_of ReadPair p ≡ Fits → PutsData before (0x00 ∷ bytes_at 8 s (at_pairs + 8 * (get_or p 0 0 - 1))) n after → Tells ReadPair s p before (Ok n) after
unfolding range_of data_of
tells-pair s p before n after h g d =
    let k = get_or p 0 0 - 1 in
    let b = unsigned-bounds 1 6 (get_or p 0 0) g in
    let e : bytes_at 8 s (at_pairs + 8 * k) ≡ pair_bytes (get_or (record_of s).pairs k no_pair) = ap (λ (x : List ℕ). bytes_at 8 x (at_pairs + 8 * k)) h.same ∙ get-pair-bytes (record_of s) k (omega (arith, b)) in
    (g, rw e at d)
