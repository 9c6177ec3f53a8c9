-- In the arm of a number: which command it is, and what that command leaves.
use Rattle.std.specs.Prelude.{Result, Ok, Err}
use Prim.Native.Nat.{ℕ, ◌≤◌}
use mathlib.Core.Path.{◌≡◌, refl, sym, subst, ap, ◌∙◌}
use mathlib.Core.List.{List, [], ◌∷◌}
use native.Mathlib.Nat.{le_antisymm}
use native.Mathlib.Omega.{arith}
use lib.ListN.{length}
use Rattle.wire.proofs.PutLaws.{narrow, put-nil}
use Rattle.record.specs.declared.Setting.{Setting}
use Rattle.record.specs.Record.{Record}
use Rattle.record.specs.Layout.{bytes_of, record_of}
use Rattle.record.specs.Settings.{setting_width}
use Rattle.record.proofs.SettingLaws.{widths}
use Rattle.command.specs.declared.Command.{Command}
use Rattle.command.specs.declared.Command.TheVariants.{Open, Close, Read, Set, ReadName, SetName, SetInput, ReadInput, SwitchOutput, Unlock, ReadLock, ReadModel, SetModel, StopSending, StartSending, ReadPair}
use Rattle.command.specs.declared.Refusal.{Refusal}
use Rattle.command.specs.declared.Listed.TheVariants.{Built}
use Rattle.command.specs.declared.Counted.TheVariants.{Right}
use Rattle.command.specs.Rows.{numbers_of, row_of}
use Rattle.command.specs.Tables.{named_by, span_of, counted_of}
use Rattle.command.specs.Effects.{effect_of, data_of}
use Rattle.command.proofs.Named.{row_number}
use Rattle.command.proofs.Keep.{counted-span}
use Rattle.ranged.specs.Done.{Stores, Tells}
use Rattle.effect.specs.Carried.{Calls, Does, Carried}

-- ---- a number has one command

module _ (number : ℕ) (k : Command) (named : named_by number ≡ Built k) where
  only : (c : Command) → named_by number ≡ Built c → k ≡ c
  only c e = let q : Built k ≡ Built c = sym named ∙ e in cc

  pub counted : (n : ℕ) → Calls number n → counted_of k n ≡ Right
  counted n h = subst (λ (c : Command). counted_of c n ≡ Right) (sym (only h.0 h.1)) h.2

  module _ (s p before : List ℕ) where
    pub carried : (d : Result ℕ Refusal) (t after : List ℕ) → Does k s p before d t after → Carried number s p before d t after
    carried d t after h c e = subst (λ (x : Command). Does x s p before d t after) (only c e) h

    -- a command that only changes: no data
    pub stored : data_of k (record_of s) p ≡ [] → (d : Result ℕ Refusal) (t : List ℕ) → Stores k s p d t → Carried number s p before d t before
    stored none d t h = carried d t before (does d h)
      where
        does : (d : Result ℕ Refusal) → Stores k s p d t → Does k s p before d t before
        does (Ok n) h = (h.0, h.1, rw (none, h.2) (refl, omega arith, sym (put-nil before 0)))
        does (Err why) h = (h.0, h.1, refl)

    -- one that only reads
    pub told : ((r : Record) → effect_of k r p ≡ r) → (d : Result ℕ Refusal) (after : List ℕ) → Tells k s p before d after → Carried number s p before d s after
    told same d after h = carried d s after (does d h)
      where
        does : (d : Result ℕ Refusal) → Tells k s p before d after → Does k s p before d s after
        does (Ok n) h = (h.0, λ r i e. e ∙ ap bytes_of (sym (same r)), h.1)
        does (Err why) h = (h.0, refl, h.1)

-- ---- what is left for settings

-- a number that is none of these, as a match tells it
abbrev pub Others : ℕ → Type 0 → List ℕ → Type 0
Others n P [] = P
Others n P (x ∷ xs) = Others n (P × (n ≡ x → ⊥)) xs

-- the numbers of commands without parameters, but those that read a setting
abbrev pub bare_numbers : List ℕ
bare_numbers = 0xE0 ∷ 0xE1 ∷ 0xE8 ∷ 0xE9 ∷ 0x1A ∷ 0x1B ∷ 0x23 ∷ 0x24 ∷ []

none-fits : (c : Command) → counted_of c 0 ≡ Right → 1 ≤ (span_of c).least → ⊥
none-fits c h l = let z : ⊥ = omega (arith, (counted-span c 0 h).0) in z

bare-left : (n : ℕ) (c : Command) → (row_of c).number ≡ n → counted_of c 0 ≡ Right → Others n (Unit {0}) bare_numbers → (k : Setting) × (c ≡ Read k)
unfolding span_of
bare-left n Open e h o = absurd (o.0.0.0.0.0.0.0.1 (sym e))
bare-left n Close e h o = absurd (o.0.0.0.0.0.0.1 (sym e))
bare-left n (Read k) e h o = (k, refl)
bare-left n (Set k) e h o = absurd (none-fits (Set k) h (narrow (setting_width k) (widths k)).0)
bare-left n ReadName e h o = absurd (o.0.0.0.0.0.1 (sym e))
bare-left n SetName e h o = absurd (o.0.0.0.0.1 (sym e))
bare-left n SetInput e h o = absurd (none-fits SetInput h (omega arith))
bare-left n ReadInput e h o = absurd (none-fits ReadInput h (omega arith))
bare-left n SwitchOutput e h o = absurd (none-fits SwitchOutput h (omega arith))
bare-left n Unlock e h o = absurd (none-fits Unlock h (omega arith))
bare-left n ReadLock e h o = absurd (o.0.0.0.1 (sym e))
bare-left n ReadModel e h o = absurd (o.0.0.1 (sym e))
bare-left n SetModel e h o = absurd (none-fits SetModel h (omega arith))
bare-left n StopSending e h o = absurd (o.0.1 (sym e))
bare-left n StartSending e h o = absurd (o.1 (sym e))
bare-left n ReadPair e h o = absurd (none-fits ReadPair h (omega arith))

-- the numbers of commands with parameters, but those that set a setting
abbrev pub full_numbers : List ℕ
full_numbers = 0xE9 ∷ 0xEB ∷ 0xF0 ∷ 0xF1 ∷ 0x19 ∷ 0x1C ∷ 0x53 ∷ []

some_fit : (c : Command) (m : ℕ) → 1 ≤ m → counted_of c m ≡ Right → (span_of c).most ≤ 0 → ⊥
some_fit c m g h l = let z : ⊥ = omega (arith, (counted-span c m h).1) in z

full-left : (n : ℕ) (c : Command) (m : ℕ) → 1 ≤ m → (row_of c).number ≡ n → counted_of c m ≡ Right → Others n (Unit {0}) full_numbers → (k : Setting) × (c ≡ Set k)
unfolding span_of
full-left n Open m g e h o = absurd (some_fit Open m g h (omega arith))
full-left n Close m g e h o = absurd (some_fit Close m g h (omega arith))
full-left n (Read k) m g e h o = absurd (some_fit (Read k) m g h (omega arith))
full-left n (Set k) m g e h o = (k, refl)
full-left n ReadName m g e h o = absurd (some_fit ReadName m g h (omega arith))
full-left n SetName m g e h o = absurd (o.0.0.0.0.0.0.1 (sym e))
full-left n SetInput m g e h o = absurd (o.0.0.0.0.0.1 (sym e))
full-left n ReadInput m g e h o = absurd (o.0.0.0.0.1 (sym e))
full-left n SwitchOutput m g e h o = absurd (o.0.0.0.1 (sym e))
full-left n Unlock m g e h o = absurd (o.0.0.1 (sym e))
full-left n ReadLock m g e h o = absurd (some_fit ReadLock m g h (omega arith))
full-left n ReadModel m g e h o = absurd (some_fit ReadModel m g h (omega arith))
full-left n SetModel m g e h o = absurd (o.0.1 (sym e))
full-left n StopSending m g e h o = absurd (some_fit StopSending m g h (omega arith))
full-left n StartSending m g e h o = absurd (some_fit StartSending m g h (omega arith))
full-left n ReadPair m g e h o = absurd (o.1 (sym e))

module _ (number : ℕ) where
  -- the command that is left is a setting's
  pub left-reads : Calls number 0 → Others number (Unit {0}) bare_numbers → (k : Setting) × (named_by number ≡ Built (Read k)) × ((numbers_of k).reader ≡ number)
  left-reads w o =
      let e = row_number number w.0 w.1 in
      let q = bare-left number w.0 e w.2 o in
      (q.0, w.1 ∙ ap Built q.1, sym (ap (λ (c : Command). (row_of c).number) q.1) ∙ e)

  pub left-sets : (m : ℕ) → 1 ≤ m → Calls number m → Others number (Unit {0}) full_numbers → (k : Setting) × (named_by number ≡ Built (Set k)) × ((numbers_of k).setter ≡ number) × (m ≡ setting_width k)
  unfolding span_of
  left-sets m g w o =
      let e = row_number number w.0 w.1 in
      let q = full-left number w.0 m g e w.2 o in
      let span = counted-span (Set q.0) m (subst (λ (c : Command). counted_of c m ≡ Right) q.1 w.2) in
      (q.0, w.1 ∙ ap Built q.1, sym (ap (λ (c : Command). (row_of c).number) q.1) ∙ e, le_antisymm span.1 span.0)

pub no_length : (p : List ℕ) → length p ≡ 0 → p ≡ []
no_length [] h = refl
no_length (x ∷ p) h = absurd (let z : ⊥ = omega arith in z)
