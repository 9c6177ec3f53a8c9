-- What each check of the code finds is what the judge's definitions say.
use Prim.Native.Nat.{ℕ, ◌/◌, ◌%◌, ◌≤◌, ◌<◌, zero-le}
use mathlib.Core.Path.{◌≡◌, refl, sym, ap, ap₂, ◌∙◌}
use mathlib.Core.Bool.{Bool, true, false, true≢false, cond, not, ◌||◌}
use mathlib.Core.List.{List}
use native.Mathlib.Nat.{le_refl, le_trans}
use native.Mathlib.Omega.{arith}
use borrow.Author.Tests.{le-leb, lt-leb, eq-eqb, ne_eqb, eqb-true}
use lib.ListN.{length, get_or}
use lib.Dec.{eqb}
use Rattle.wire.specs.Numbers.{word_at}
use Rattle.record.specs.Record.{Record}
use Rattle.record.specs.Layout.{FlagByte, at_flags, at_tries, at_code, bytes_of}
use Rattle.record.specs.Form.{InRange}
use Rattle.record.specs.InPlace.{Sound, Shows, SoundAt, ShowsAt}
use Rattle.record.proofs.Lens.{get-tries, get-code}
use Rattle.record.proofs.InPlaceLaws.{sound-at, here-shows}
use Rattle.command.specs.declared.Command.{Command}
use Rattle.command.specs.declared.Command.TheVariants.{Open, Close, Read, Set, ReadName, SetName, SetInput, ReadInput, SwitchOutput, Unlock, ReadLock, ReadModel, SetModel, StopSending, StartSending, ReadPair}
use Rattle.command.specs.declared.Listed.{Listed}
use Rattle.command.specs.declared.Numbered.{Numbered}
use Rattle.command.specs.declared.Numbered.TheVariants.{AsCommand, AsNotBuilt, AsUnknown}
use Rattle.command.specs.declared.Counted.{Counted}
use Rattle.command.specs.declared.Counted.TheVariants.{Right, Wrong}
use Rattle.command.specs.declared.Need.{Need}
use Rattle.command.specs.declared.Need.TheVariants.{Nothing, Opened, Closed, Unlocked, Code}
use Rattle.command.specs.declared.Access.{Access}
use Rattle.command.specs.declared.Access.TheVariants.{Given, Missing, WrongCode}
use Rattle.std.specs.Prelude.{Err}
use Rattle.command.specs.declared.Refusal.TheVariants.{Unknown, Unbuilt, Miscounted}
use Rattle.command.specs.Rows.{Span, mode_for, numbers_of}
use Rattle.command.specs.Tables.{Stands, listed_of, span_of, counted_in, counted_of, need_of}
use Rattle.command.specs.Entries.{Asks, said_by, numbered_by, span_in, need_bits, need_in, is_built, is_tidy, unpacked}
use Rattle.command.proofs.EntryLaws.{said-unknown, said-unbuilt, said-command, asked_is}
use Rattle.command.specs.Judge.{access_of}
use Rattle.judge.specs.Checks.{asks, Known, judged_access, judged_by}
use Rattle.command.proofs.Keep.{counted-span}

-- ---- parameters

-- the two commands of a setting need a mode alone
by_kind : (radio : Bool) → asks (mode_for radio) ≤ 0
by_kind true = zero-le
by_kind false = zero-le

asked-least : (c : Command) → asks (need_of c) ≤ (span_of c).least
unfolding need_of span_of
asked-least Open = zero-le
asked-least Close = zero-le
asked-least (Read k) = by_kind (numbers_of k).radio
asked-least (Set k) = le_trans (by_kind (numbers_of k).radio) zero-le
asked-least ReadName = zero-le
asked-least SetName = zero-le
asked-least SetInput = zero-le
asked-least ReadInput = zero-le
asked-least SwitchOutput = zero-le
asked-least Unlock = le_refl 4
asked-least ReadLock = zero-le
asked-least ReadModel = zero-le
asked-least SetModel = zero-le
asked-least StopSending = zero-le
asked-least StartSending = zero-le
asked-least ReadPair = zero-le

asked : (c : Command) (n : ℕ) → counted_of c n ≡ Right → asks (need_of c) ≤ n
asked c n h = le_trans (asked-least c) (counted-span c n h).0

-- ---- access

-- a flag read in any layout, in the current one
pub flag-sound : (s : List ℕ) → Sound s → SoundAt FlagByte at_flags s
flag-sound s = sound-at FlagByte at_flags refl refl s

pub flag-here : (s : List ℕ) (v : Bool) (f : Record → Bool) → ShowsAt FlagByte at_flags s v f → Shows s v f
flag-here s v f = here-shows FlagByte at_flags refl refl s v f

-- what a flag that was found tells of the record
pub flag-is : (s : List ℕ) {v x : Bool} (f : Record → Bool) → ShowsAt FlagByte at_flags s v f → v ≡ x → (r : Record) → InRange r → s ≡ bytes_of r → f r ≡ x
flag-is s {v} f shows told r i e = sym (flag-here s v f shows r i e) ∙ told

tries-at : (s : List ℕ) (r : Record) → s ≡ bytes_of r → get_or s at_tries 0 ≡ r.tries
tries-at s r e = ap (λ (l : List ℕ). get_or l at_tries 0) e ∙ get-tries r

-- the code is compared with configuration mode closed and a try left
module _ (s p : List ℕ) (o : Bool) (shows : ShowsAt FlagByte at_flags s o (λ r. r.flags.opened)) where
  shown : Shows s o (λ r. r.flags.opened)
  shown = flag-here s o (λ r. r.flags.opened) shows

  pub code-open : o ≡ true → Shows s Missing (λ r. access_of Code r p)
  unfolding access_of
  code-open t r i e = rw (sym (shown r i e) ∙ t) refl

  module _ (f : o ≡ false) where
    pub code-used : 3 ≤ get_or s at_tries 0 → Shows s Missing (λ r. access_of Code r p)
    unfolding access_of
    code-used h r i e = rw (sym (shown r i e) ∙ f, le-leb 3 r.tries (omega (arith, tries-at s r e))) refl

    module _ (h : get_or s at_tries 0 < 3) where
      compared : (r : Record) → s ≡ bytes_of r → o ≡ r.flags.opened → access_of Code r p ≡ cond (eqb (word_at p 0) r.code) Given WrongCode
      unfolding access_of
      compared r e q = rw (sym q ∙ f, lt-leb 3 r.tries (omega (arith, tries-at s r e))) refl

      pub code-right : word_at p 0 ≡ word_at s at_code → Shows s Given (λ r. access_of Code r p)
      code-right q r i e =
          let w : word_at s at_code ≡ r.code = ap (λ (l : List ℕ). word_at l at_code) e ∙ get-code r i.code in
          rw (compared r e (shown r i e), eq-eqb (word_at p 0) r.code (q ∙ w)) refl

      pub code-wrong : (word_at p 0 ≡ word_at s at_code → ⊥) → Shows s WrongCode (λ r. access_of Code r p)
      code-wrong q r i e =
          let w : word_at s at_code ≡ r.code = ap (λ (l : List ℕ). word_at l at_code) e ∙ get-code r i.code in
          rw (compared r e (shown r i e), ne_eqb (word_at p 0) r.code (λ z. q (z ∙ sym w))) refl

-- ---- what an entry's bits ask: a tidy one has in its upper bits just what its need packs

tidy-is : (b t : Bool) → (not b || t) ≡ true → b ≡ true → t ≡ true
tidy-is true t h e = h
tidy-is false t h e = absurd (true≢false (sym e))

module _ (e : ℕ) (built : is_built e ≡ true) (tidy : is_tidy e ≡ true) where
  pub upper : e / 8 ≡ need_bits (need_in e) / 8
  upper = eqb-true (e / 8) (need_bits (need_in e) / 8) (tidy-is (is_built e) (eqb (e / 8) (need_bits (need_in e) / 8)) tidy built)

-- which need an entry has, by the tests of the code; u are its upper bits
module _ (e : ℕ) where
  pub not-unlocked : (n : Need) → e / 8 ≡ need_bits n / 8 → 32 ≤ e → e < 64 → n ≡ Unlocked
  not-unlocked Nothing u l h = absurd (let z : ⊥ = omega arith in z)
  not-unlocked Opened u l h = absurd (let z : ⊥ = omega arith in z)
  not-unlocked Closed u l h = absurd (let z : ⊥ = omega arith in z)
  not-unlocked Unlocked u l h = refl
  not-unlocked Code u l h = absurd (let z : ⊥ = omega arith in z)

  pub not_code : (n : Need) → e / 8 ≡ need_bits n / 8 → 64 ≤ e → n ≡ Code
  not_code Nothing u l = absurd (let z : ⊥ = omega arith in z)
  not_code Opened u l = absurd (let z : ⊥ = omega arith in z)
  not_code Closed u l = absurd (let z : ⊥ = omega arith in z)
  not_code Unlocked u l = absurd (let z : ⊥ = omega arith in z)
  not_code Code u l = refl

  module _ (r : Record) (p : List ℕ) where
    pub open-given : (n : Need) → e / 8 ≡ need_bits n / 8 → r.flags.opened ≡ true → e / 8 % 2 ≡ 1 → Given ≡ access_of n r p
    unfolding access_of
    open-given Nothing u o h = refl
    open-given Opened u o h = rw o refl
    open-given Closed u o h = absurd (let z : ⊥ = omega arith in z)
    open-given Unlocked u o h = absurd (let z : ⊥ = omega arith in z)
    open-given Code u o h = absurd (let z : ⊥ = omega arith in z)

    pub open-missing : (n : Need) → e / 8 ≡ need_bits n / 8 → r.flags.opened ≡ true → (e / 8 % 2 ≡ 1 → ⊥) → Missing ≡ access_of n r p
    unfolding access_of
    open-missing Nothing u o h = absurd (h (omega arith))
    open-missing Opened u o h = absurd (h (omega arith))
    open-missing Closed u o h = rw o refl
    open-missing Unlocked u o h = rw o refl
    open-missing Code u o h = rw o refl

    pub closed-missing : (n : Need) → e / 8 ≡ need_bits n / 8 → r.flags.opened ≡ false → (e / 16 % 2 ≡ 1 → ⊥) → Missing ≡ access_of n r p
    unfolding access_of
    closed-missing Nothing u o h = absurd (h (omega arith))
    closed-missing Opened u o h = rw o refl
    closed-missing Closed u o h = absurd (h (omega arith))
    closed-missing Unlocked u o h = absurd (h (omega arith))
    closed-missing Code u o h = absurd (h (omega arith))

    pub closed-given : (n : Need) → e / 8 ≡ need_bits n / 8 → r.flags.opened ≡ false → e / 16 % 2 ≡ 1 → e < 32 → Given ≡ access_of n r p
    unfolding access_of
    closed-given Nothing u o h l = refl
    closed-given Opened u o h l = absurd (let z : ⊥ = omega arith in z)
    closed-given Closed u o h l = rw o refl
    closed-given Unlocked u o h l = absurd (let z : ⊥ = omega arith in z)
    closed-given Code u o h l = absurd (let z : ⊥ = omega arith in z)

-- ---- what the entry e decides, from what its checks find, with the parameters p

module _ (e : ℕ) (known : Known e) (p : List ℕ) {x : Numbered} (told : x ≡ numbered_by (unpacked e)) where
  abbrev row : Listed
  row = listed_of known.1.0 known.1.1

  numbered : numbered_by (said_by row) ≡ x
  numbered = ap numbered_by (sym known.1.2) ∙ sym told

  pub by-unbuilt : x ≡ AsNotBuilt → (r : Record) → Err Unbuilt ≡ judged_by (unpacked e) r p
  unfolding judged_by
  by-unbuilt h r = rw (known.1.2, said-unbuilt row (numbered ∙ h)) refl

  -- the last answer of a check is the one that is left
  pub by-unknown : (x ≡ AsCommand → ⊥) → (x ≡ AsNotBuilt → ⊥) → (r : Record) → Err Unknown ≡ judged_by (unpacked e) r p
  unfolding judged_by
  by-unknown h k r = rw (known.1.2, said-unknown row (numbered ∙ left x h k)) refl
    where
      left : (x : Numbered) → (x ≡ AsCommand → ⊥) → (x ≡ AsNotBuilt → ⊥) → x ≡ AsUnknown
      left AsCommand h k = absurd (h refl)
      left AsNotBuilt h k = absurd (k refl)
      left AsUnknown h k = refl

  module _ (h : x ≡ AsCommand) {y : Counted} (counts : y ≡ counted_in (span_in e) (length p)) where
    stands : Stands row
    stands = said-command row (numbered ∙ h)

    -- a command asks what its row asks
    asks-as : (is_built e ≡ true) × (need_in e ≡ need_of stands.0) × (span_in e ≡ span_of stands.0)
    asks-as = asked_is e (need_of stands.0) (span_of stands.0) (known.1.2 ∙ ap said_by stands.1)

    as-asked : unpacked e ≡ Asks (need_in e) (span_in e)
    as-asked = let w = asks-as in known.1.2 ∙ ap said_by stands.1 ∙ ap₂ Asks (sym w.1) (sym w.2)

    pub by_count_lem : y ≡ Wrong → (r : Record) → Err Miscounted ≡ judged_by (unpacked e) r p
    unfolding judged_by
    by_count_lem n r = rw (as-asked, sym counts ∙ n) refl

    module _ (n : y ≡ Right) where
      counted-as : counted_of stands.0 (length p) ≡ Right
      unfolding counted_of
      counted-as = ap (λ (s : Span). counted_in s (length p)) (sym asks-as.2) ∙ sym counts ∙ n

      pub may-ask : (is_built e ≡ true) × (is_tidy e ≡ true) × (asks (need_in e) ≤ length p)
      may-ask = let w = asks-as in (w.0, known.0, rw w.1 (asked stands.0 (length p) counted-as))

      -- the answer of the check of access
      pub by-access : {z : Access} (v : Access) (r : Record) → z ≡ access_of (need_in e) r p → z ≡ v → judged_access v ≡ judged_by (unpacked e) r p
      unfolding judged_by
      by-access v r a w = rw (as-asked, sym counts ∙ n, sym a ∙ w) refl

-- the last answer of that check
pub left-missing : (x : Access) → (x ≡ Given → ⊥) → (x ≡ WrongCode → ⊥) → x ≡ Missing
left-missing Given g w = absurd (g refl)
left-missing Missing g w = refl
left-missing WrongCode g w = absurd (w refl)
