-- A store in the bytes of a record is the change of its field, in the words of the code that stores.
use Prim.Native.Nat.{ℕ, zero, suc, ◌+◌, ◌-◌, ◌*◌, ◌%◌, ◌^◌, ◌≤◌, ◌<◌}
use mathlib.Core.Path.{◌≡◌, refl}
use mathlib.Core.Bool.{true, false}
use mathlib.Core.List.{List}
use native.Mathlib.Nat.{not-suc-le-zero}
use native.Mathlib.Omega.{arith}
use lib.ListN.{length, get_or, set}
use lib.Seq.{sets}
use lib.Dec.{leb, eqb}
use lib.Bits.{bit_and, bit_or}
use borrow.Author.Tests.{eq-eqb, ne_eqb, eqb-true, leb-true}
use Rattle.wire.specs.Numbers.{Bytes, bytes_at, put}
use Rattle.wire.proofs.NumberLaws.{length_part}
use Rattle.wire.proofs.PutLaws.{put-sets}
use Rattle.record.specs.declared.Setting.{Setting}
use Rattle.record.specs.Record.{with_output, with_inputs, with_settings, with_outputs}
use Rattle.record.specs.Layout.{InputBytes, OutputByte, at_inputs, at_outputs}
use Rattle.record.specs.Settings.{sheet_of, setting_width}
use Rattle.record.specs.InPlace.{SoundAt, TurnsAt}
use Rattle.record.proofs.Choices.{below_each}
use Rattle.record.proofs.Stores.{set-input_in, set-output_in}
use Rattle.record.proofs.SettingLaws.{setting-wide, set-setting_in}
use Rattle.record.proofs.InPlaceLaws.{turns_at, reaches}

module _ (s : List ℕ) where
  -- the bytes are there
  pub inputs_there : SoundAt InputBytes at_inputs s → at_inputs + 5 ≤ length s
  inputs_there h = reaches InputBytes at_inputs s h

  pub outputs_there : SoundAt OutputByte at_outputs s → at_outputs < length s
  outputs_there h = reaches OutputByte at_outputs s h

  pub setting-there : (at : ℕ) (k : Setting) → SoundAt (sheet_of k).part at s → at + setting_width k ≤ length s
  setting-there at k h = rw (← setting-wide h.plan k) (reaches (sheet_of k).part at s h)

  module _ (v : ℕ) where
    pub turn-input : (k : ℕ) → 2 ≤ k → k ≤ 6 → TurnsAt InputBytes at_inputs s (set s (k + 12) v) (λ r. with_settings r (with_inputs r.settings (set r.settings.inputs (k - 2) v)))
    turn-input k l h =
        let at : k + 12 ≡ at_inputs + (k - 2) = omega arith in
        rw at
        (turns_at InputBytes at_inputs s (λ at b. set b (at + (k - 2)) v) (λ r. with_settings r (with_inputs r.settings (set r.settings.inputs (k - 2) v)))
        (λ p laid r i e. set-input_in p laid r e (k - 2) v (omega arith) i.five))

  -- ---- outputs

  module _ (k v : ℕ) (l : 1 ≤ k) (h : k ≤ 4) where
    pub turn-output-on : v ≡ 1 → TurnsAt OutputByte at_outputs s (set s at_outputs (bit_or (get_or s at_outputs 0) (2 ^ (k - 1)))) (λ r. with_outputs r (with_output r.outputs k (eqb v 1)))
    turn-output-on one =
        turns_at OutputByte at_outputs s (λ at b. set b at (bit_or (get_or b at 0) (2 ^ (k - 1)))) (λ r. with_outputs r (with_output r.outputs k (eqb v 1)))
        (λ p laid r i e. rw (eq-eqb v 1 one) (set-output_in p laid r e k true l h))

    pub turn-output-off : (v ≡ 1 → ⊥) → TurnsAt OutputByte at_outputs s (set s at_outputs (bit_and (get_or s at_outputs 0) (255 - 2 ^ (k - 1)))) (λ r. with_outputs r (with_output r.outputs k (eqb v 1)))
    turn-output-off other =
        turns_at OutputByte at_outputs s (λ at b. set b at (bit_and (get_or b at 0) (255 - 2 ^ (k - 1)))) (λ r. with_outputs r (with_output r.outputs k (eqb v 1)))
        (λ p laid r i e. rw (ne_eqb v 1 other) (set-output_in p laid r e k false l h))

  -- ---- a setting that is one number

  pub turn-setting : (at : ℕ) (k : Setting) (v : List ℕ) → Bytes v → at + setting_width k ≤ length s
      → TurnsAt (sheet_of k).part at s (put s at (bytes_at (setting_width k) v 0)) (λ r. with_settings r ((sheet_of k).stored r.settings v))
  turn-setting at k v b room =
      rw (put-sets s at (bytes_at (setting_width k) v 0) (rw (length_part (setting_width k) v 0) room))
      (turns_at (sheet_of k).part at s (λ at d. sets d at (bytes_at (setting_width k) v 0)) (λ r. with_settings r ((sheet_of k).stored r.settings v))
      (λ q laid r i e. set-setting_in q laid r k v b e))

-- 1 shifted to the bit of output k
pub mask_is : (k : ℕ) → 1 ≤ k → k ≤ 4 → (1 * 2 ^ (k - 1) % 256 ≡ 2 ^ (k - 1)) × (1 * 2 ^ (k - 1) % 256 ≤ 8)
mask_is zero l h = absurd (not-suc-le-zero l)
mask_is (suc k) l h =
    let same = below_each 4 (λ k. eqb (1 * 2 ^ (suc k - 1) % 256) (2 ^ (suc k - 1))) refl k h in
    let most = below_each 4 (λ k. leb (1 * 2 ^ (suc k - 1) % 256) 8) refl k h in
    (eqb-true (1 * 2 ^ (suc k - 1) % 256) (2 ^ (suc k - 1)) same, leb-true (1 * 2 ^ (suc k - 1) % 256) 8 most)
