-- The pending bytes, as the check reads them from a place on.
use Prim.Native.Nat.{ℕ, zero, suc, ◌+◌, ◌%◌, ◌≤◌, ◌<◌}
use mathlib.Core.Path.{◌≡◌, refl, sym, ap, ap₂, ◌∙◌}
use mathlib.Core.Bool.{Bool, true, false, ◌&&◌}
use mathlib.Core.List.{List}
use native.Mathlib.Nat.{add-zero}
use native.Mathlib.Omega.{arith}
use lib.ListN.{length, get_or, take, drop, length-drop}
use lib.Seq.{get_or-take, get_or-drop, length-take-le}
use lib.Dec.{ltb}
use Rattle.wire.specs.Frames.{waits}
use Rattle.wire.specs.Serial.{is_head, serial}
use Rattle.wire.specs.Heads.{announced_of}
use Rattle.wire.specs.declared.Line.TheVariants.{Board}
use Rattle.std.specs.declared.option.Option.TheVariants.{Some, None}
use Rattle.wire.proofs.HeadLaws.{no-head, some-head}
use Rattle.wire.proofs.SerialLaws.{waits-none, waits-not, waits_one, waits-head}

module _ (s : List ℕ) (at n : ℕ) (within : at + n ≤ length s) where
  abbrev pending : List ℕ
  pending = take n (drop at s)

  long : length pending ≡ n
  long = length-take-le n (drop at s) (rw (length-drop at s) (omega arith))

  at_place : (i : ℕ) → i < n → get_or pending i 0 ≡ get_or s (at + i) 0
  at_place i h = get_or-take n (drop at s) i 0 h ∙ get_or-drop at s i 0

  at_first : 0 < n → get_or pending 0 0 ≡ get_or s at 0
  at_first h = at_place 0 h ∙ ap (λ (k : ℕ). get_or s k 0) (add-zero at)

  pub none : n ≡ 0 → true ≡ waits serial (take n (drop at s))
  none e = sym (waits-none pending (long ∙ e))

  module _ (some : n ≡ 0 → ⊥) where
    more : 0 < length pending
    more = rw long (pos n some)
      where
        pos : (m : ℕ) → (m ≡ 0 → ⊥) → 0 < m
        pos zero h = absurd (h refl)
        pos (suc m) h = omega arith

    pub not-aa : (get_or s at 0 ≡ 0xAA → ⊥) → false ≡ waits serial (take n (drop at s))
    not-aa e = sym (waits-not pending more (λ q. e (sym (at_first (omega (arith, more, long))) ∙ q)))

    module _ (aa : get_or s at 0 ≡ 0xAA) where
      first : get_or pending 0 0 ≡ 0xAA
      first = at_first (omega (arith, more, long)) ∙ aa

      pub one : n ≡ 1 → true ≡ waits serial (take n (drop at s))
      one e = sym (waits_one pending more first (long ∙ e))

      module _ (further : n ≡ 1 → ⊥) where
        abbrev b : ℕ
        b = get_or s (at + 1) 0

        head : (is_head b && ltb n (4 + b % 16)) ≡ waits serial (take n (drop at s))
        head =
            let two : 1 < length pending = rw long (above n some further) in
            sym (waits-head pending more first two ∙ rw (at_place 1 (omega (arith, two, long)), long) refl)
          where
            above : (m : ℕ) → (m ≡ 0 → ⊥) → (m ≡ 1 → ⊥) → 1 < m
            above zero h k = absurd (h refl)
            above (suc zero) h k = absurd (k refl)
            above (suc (suc m)) h k = omega arith

        pub headless : announced_of Board b ≡ None → false ≡ waits serial (take n (drop at s))
        headless e = sym (ap (λ (t : Bool). t && ltb n (4 + b % 16)) (no-head b e)) ∙ head

        pub headed : (k : ℕ) → announced_of Board b ≡ Some k → ltb n (4 + k) ≡ waits serial (take n (drop at s))
        headed k e = let w = some-head b k e in sym (ap₂ (λ (t : Bool) (j : ℕ). t && ltb n (4 + j)) w.0 w.1) ∙ head
