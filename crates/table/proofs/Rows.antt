-- What the code finds by an entry is what the rows say.
use Prim.Native.Nat.{ℕ, ◌-◌, ◌/◌, ◌%◌, ◌≤◌, ◌<◌}
use mathlib.Core.Path.{◌≡◌, refl}
use mathlib.Core.Logic.{◌⊎◌, inl, inr, ⊎_elim}
use mathlib.Core.Bool.{Bool, true, false}
use native.Mathlib.Omega.{arith}
use borrow.Author.Tests.{lt-ltb, le-ltb, le-leb, lt-leb, eq-eqb, ne_eqb, ltb-true, ltb-false}
use lib.Dec.{ltb}
use Rattle.command.specs.declared.Numbered.TheVariants.{AsCommand, AsNotBuilt, AsUnknown}
use Rattle.command.specs.declared.Counted.TheVariants.{Right, Wrong}
use Rattle.command.specs.Rows.{Span, exactly}
use Rattle.command.specs.Tables.{counted_in}
use Rattle.command.specs.Entries.{numbered_by, span_in, unpacked}

-- ---- whether a number is that of a command

module _ (e : ℕ) where
  pub as-command : (e / 8 % 4 ≡ 0 → ⊥) → AsCommand ≡ numbered_by (unpacked e)
  unfolding unpacked
  as-command h = rw (ne_eqb (e / 8 % 4) 0 h) refl

  module _ (free : e / 8 % 4 ≡ 0) where
    pub as-unknown : e ≡ 0 → AsUnknown ≡ numbered_by (unpacked e)
    unfolding unpacked
    as-unknown z = rw (eq-eqb (e / 8 % 4) 0 free, eq-eqb e 0 z) refl

    pub as-unbuilt : (e ≡ 0 → ⊥) → AsNotBuilt ≡ numbered_by (unpacked e)
    unfolding unpacked
    as-unbuilt z = rw (eq-eqb (e / 8 % 4) 0 free, ne_eqb e 0 z) refl

-- ---- how many parameters

either_side : (a b : ℕ) → (a ≡ b → ⊥) → (a < b) ⊎ (b < a)
either_side a b h = by (ltb a b) refl where
  by : (t : Bool) → ltb a b ≡ t → (a < b) ⊎ (b < a)
  by true e = inl (ltb-true a b e)
  by false e = inr (omega (arith, ltb-false a b e, h))

module _ (s : Span) (n : ℕ) where
  few : n < s.least → Wrong ≡ counted_in s n
  few h = rw (lt-leb s.least n h) refl

  many : s.least ≤ n → s.most < n → Wrong ≡ counted_in s n
  many l h = rw (le-leb s.least n l, lt-leb n s.most h) refl

  enough : s.least ≤ n → n ≤ s.most → Right ≡ counted_in s n
  enough l h = rw (le-leb s.least n l, le-leb n s.most h) refl

module _ (e n : ℕ) where
  abbrev span : ℕ
  span = e % 8

  -- exactly so many
  module _ (exact : span < 5) where
    count-exact : n ≡ span → Right ≡ counted_in (span_in e) n
    count-exact h = rw (lt-ltb span 5 exact) (enough (exactly span) n (omega arith) (omega arith))

    pub count-other : (n ≡ span → ⊥) → Wrong ≡ counted_in (span_in e) n
    count-other h = rw (lt-ltb span 5 exact) (⊎_elim (λ k. few (exactly span) n k) (λ k. many (exactly span) n (omega arith) k) (either_side n span h))

  -- so many to 15
  module _ (ranged : 5 ≤ span) where
    abbrev from : Span
    from = record { least = span - 5; most = 15 }

    pub count_low : n < span - 5 → Wrong ≡ counted_in (span_in e) n
    count_low h = rw (le-ltb span 5 ranged) (few from n h)

    pub count-high : 15 < n → Wrong ≡ counted_in (span_in e) n
    count-high h = rw (le-ltb span 5 ranged) (many from n (omega arith) h)

    pub count-right : span - 5 ≤ n → n ≤ 15 → Right ≡ counted_in (span_in e) n
    count-right l h = rw (le-ltb span 5 ranged) (enough from n l h)

  -- the number that the bits say is right either way
  pub count_same : n ≡ span → Right ≡ counted_in (span_in e) n
  count_same h = by (ltb span 5) refl
    where
      by : (t : Bool) → ltb span 5 ≡ t → Right ≡ counted_in (span_in e) n
      by true q = count-exact (ltb-true span 5 q) h
      by false q = count-right (ltb-false span 5 q) (omega arith) (omega arith)

-- what `check_number` and `check_count` ask
pub ruleset numbering = (as-command, as-unknown, as-unbuilt)

pub ruleset counting = (count_same, count-other, count_low, count-high, count-right)
