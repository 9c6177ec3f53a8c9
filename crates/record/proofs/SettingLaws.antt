-- What holds of every setting that is one number, by its sheet.
use Prim.Native.Nat.{ℕ, zero, suc, ◌+◌, ◌≤◌, ◌<◌}
use mathlib.Core.Path.{◌≡◌, refl, sym, ap, subst, ◌∙◌}
use mathlib.Core.Logic.{inl, inr}
use mathlib.Core.Bool.{Bool, true, cond, ◌&&◌, and-eq-true_iff}
use mathlib.Core.List.{List, [], ◌∷◌}
use native.Mathlib.Nat.{le_of_suc-le-suc, not-suc-le-zero}
use native.Mathlib.Omega.{arith}
use borrow.Author.Tests.{eqb-true, leb-true}
use lib.ListN.{length, get_or}
use lib.Seq.{sets}
use lib.Dec.{eqb, leb}
use Rattle.wire.specs.Numbers.{Bytes, Narrow, half_at, word_at, bytes_at}
use Rattle.wire.specs.declared.Range.TheVariants.{Fits}
use Rattle.wire.proofs.NumberLaws.{half-bytes, word_bytes}
use Rattle.record.specs.declared.Setting.{Setting}
use Rattle.record.specs.declared.Setting.TheVariants.{Power, Step, Mode, OnOff, Interval, Filter}
use Rattle.record.specs.declared.Limits.{Limits}
use Rattle.record.specs.declared.Limits.TheVariants.{Upto, OfPower, OfInterval, OfFilter}
use Rattle.record.specs.Record.{Settings, Record, with_settings}
use Rattle.record.specs.Layout.{PowerHalf, StepByte, ModeByte, OnOffByte, IntervalByte, FilterWord, has, Plan, current, width, place, record_size, bytes_in, bytes_of}
use Rattle.record.specs.Laid.{Laid}
use Rattle.record.specs.Form.{InRange}
use Rattle.record.specs.Settings.{range_by, looks_at, sheet_of, settings, setting_place, setting_width}
use Rattle.record.proofs.Plans.{laid}
use Rattle.record.proofs.RoundTrip.{get-part}
use Rattle.record.proofs.Stores.{set-power_in, set-step_in, set-mode_in, set-on-off_in, set-interval_in, set-filter_in}

-- ---- a test of each setting

abbrev pub each : (Setting → Bool) → List Setting → Bool
each f [] = true
each f (k ∷ ks) = f k && each f ks

each_at : (f : Setting → Bool) (ks : List Setting) → each f ks ≡ true → (n : ℕ) → n < length ks → f (get_or ks n Power) ≡ true
each_at f [] h n l = absurd (not-suc-le-zero l)
each_at f (k ∷ ks) h zero l = ((and-eq-true_iff (f k) (each f ks)).0 h).0
each_at f (k ∷ ks) h (suc n) l = each_at f ks ((and-eq-true_iff (f k) (each f ks)).0 h).1 n (le_of_suc-le-suc l)

-- a test that all of the list pass, each setting passes
module _ (f : Setting → Bool) (h : each f settings ≡ true) where
  pub every : (k : Setting) → f k ≡ true
  every Power = each_at f settings h 0 (omega arith)
  every Step = each_at f settings h 1 (omega arith)
  every Mode = each_at f settings h 2 (omega arith)
  every OnOff = each_at f settings h 3 (omega arith)
  every Interval = each_at f settings h 4 (omega arith)
  every Filter = each_at f settings h 5 (omega arith)

-- a setting by its place, which no other has
abbrev back : ℕ → List Setting → Setting
back n [] = Power
back n (k ∷ ks) = cond (eqb n (setting_place k)) k (back n ks)

back_is : (k : Setting) → back (setting_place k) settings ≡ k
back_is Power = refl
back_is Step = refl
back_is Mode = refl
back_is OnOff = refl
back_is Interval = refl
back_is Filter = refl

pub same-setting : (j k : Setting) → eqb (setting_place j) (setting_place k) ≡ true → j ≡ k
same-setting j k h = sym (back_is j) ∙ ap (λ (n : ℕ). back n settings) (eqb-true (setting_place j) (setting_place k) h) ∙ back_is k

-- ---- its place and width

pub setting-there : (k : Setting) → has current.parts (sheet_of k).part ≡ true
setting-there = every (λ k. has current.parts (sheet_of k).part) refl

pub setting-stands : (k : Setting) → place current (sheet_of k).part ≡ setting_place k
setting-stands k = eqb-true (place current (sheet_of k).part) (setting_place k) (every (λ j. eqb (place current (sheet_of j).part) (setting_place j)) refl k)

pub setting-fits : (k : Setting) → setting_place k + setting_width k ≤ record_size
setting-fits k = leb-true (setting_place k + setting_width k) record_size (every (λ j. leb (setting_place j + setting_width j) record_size) refl k)

-- its range looks at all of its bytes
pub looks-wide : (k : Setting) → looks_at (sheet_of k).limits ≡ setting_width k
looks-wide k = eqb-true (looks_at (sheet_of k).limits) (setting_width k) (every (λ j. eqb (looks_at (sheet_of j).limits) (setting_width j)) refl k)

looks-narrow : (x : Limits) → Narrow (looks_at x)
looks-narrow (Upto most) = inl refl
looks-narrow OfPower = inr (inl refl)
looks-narrow OfInterval = inl refl
looks-narrow OfFilter = inr (inr refl)

pub widths : (k : Setting) → Narrow (setting_width k)
widths k = subst Narrow (looks-wide k) (looks-narrow (sheet_of k).limits)

-- the same in every layout
pub setting-wide : (p : Plan) (k : Setting) → width p (sheet_of k).part ≡ setting_width k
setting-wide p Power = refl
setting-wide p Step = refl
setting-wide p Mode = refl
setting-wide p OnOff = refl
setting-wide p Interval = refl
setting-wide p Filter = refl

-- it is shown in as many bytes as it is set by
pub shown-length : (k : Setting) (g : Settings) → length ((sheet_of k).shown g) ≡ setting_width k
shown-length Power g = refl
shown-length Step g = refl
shown-length Mode g = refl
shown-length OnOff g = refl
shown-length Interval g = refl
shown-length Filter g = refl

-- ---- its bytes

module _ (p : Plan) (l : Laid p) (r : Record) where
  pub get-setting_in : (k : Setting) → has p.parts (sheet_of k).part ≡ true → bytes_at (setting_width k) (bytes_in p r) (place p (sheet_of k).part) ≡ (sheet_of k).shown r.settings
  get-setting_in Power e = get-part p l r PowerHalf e
  get-setting_in Step e = get-part p l r StepByte e
  get-setting_in Mode e = get-part p l r ModeByte e
  get-setting_in OnOff e = get-part p l r OnOffByte e
  get-setting_in Interval e = get-part p l r IntervalByte e
  get-setting_in Filter e = get-part p l r FilterWord e

  pub set-setting_in : (k : Setting) (v : List ℕ) → Bytes v → has p.parts (sheet_of k).part ≡ true
      → sets (bytes_in p r) (place p (sheet_of k).part) (bytes_at (setting_width k) v 0) ≡ bytes_in p (with_settings r ((sheet_of k).stored r.settings v))
  set-setting_in Power v b e = ap (sets (bytes_in p r) (place p PowerHalf)) (sym (half-bytes (get_or v 0 0) (get_or v 1 0) (b 0) (b 1))) ∙ set-power_in p l r e (half_at v 0)
  set-setting_in Step v b e = set-step_in p l r e (get_or v 0 0)
  set-setting_in Mode v b e = set-mode_in p l r e (get_or v 0 0)
  set-setting_in OnOff v b e = set-on-off_in p l r e (get_or v 0 0)
  set-setting_in Interval v b e = set-interval_in p l r e (get_or v 0 0)
  set-setting_in Filter v b e =
      ap (sets (bytes_in p r) (place p FilterWord)) (sym (word_bytes (get_or v 0 0) (get_or v 1 0) (get_or v 2 0) (get_or v 3 0) (b 0) (b 1) (b 2) (b 3))) ∙ set-filter_in p l r (word_at v 0)

-- the same in the current layout
pub get-setting : (r : Record) (k : Setting) → bytes_at (setting_width k) (bytes_of r) (setting_place k) ≡ (sheet_of k).shown r.settings
unfolding bytes_of
get-setting r k = ap (bytes_at (setting_width k) (bytes_in current r)) (sym (setting-stands k)) ∙ get-setting_in current laid r k (setting-there k)

-- ---- its range

-- `search` makes the range record of the fields of i and of what stands beside it
pub setting-in : (k : Setting) (r : Record) (p : List ℕ) → range_by (sheet_of k).limits current p ≡ Fits → Bytes p → InRange r → InRange (with_settings r ((sheet_of k).stored r.settings p))
unfolding with_settings
setting-in Power r p g b i = let half : half_at p 0 < 0x10000 = omega (arith, b 0, b 1) in search
setting-in Step r p g b i = search
setting-in Mode r p g b i = search
setting-in OnOff r p g b i = search
setting-in Interval r p g b i = search
setting-in Filter r p g b i = search
