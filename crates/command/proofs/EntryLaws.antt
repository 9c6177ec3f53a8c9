-- The table says what the rows say: one test, computed over all of its entries.
use Prim.Native.Nat.{ℕ, zero, suc, ◌+◌, ◌/◌, ◌%◌, ◌<◌}
use mathlib.Core.Path.{◌≡◌, refl, sym, ap, ap₂, subst, ◌∙◌}
use mathlib.Core.Bool.{Bool, true, false, true≢false, cond, ◌&&◌}
use mathlib.Core.List.{List, [], ◌∷◌}
use native.Mathlib.Nat.{add-zero, zero-add, add-suc, suc-add, le_of_suc-le-suc, not-suc-le-zero}
use native.Mathlib.Omega.{arith}
use mir.Facts.{and_yes}
use borrow.Author.Tests.{lt-ltb, le-ltb}
use lib.Dec.{T, eqb, eqb→eq}
use lib.ListN.{length, get_or}
use Rattle.command.specs.declared.Listed.{Listed}
use Rattle.command.specs.declared.Listed.TheVariants.{Built, NotBuilt, Unlisted}
use Rattle.command.specs.declared.Numbered.TheVariants.{AsCommand, AsNotBuilt, AsUnknown}
use Rattle.command.specs.declared.Need.{Need}
use Rattle.command.specs.declared.Need.TheVariants.{Nothing, Opened, Closed, Unlocked, Code}
use Rattle.command.specs.Rows.{Span}
use Rattle.command.specs.Tables.{Stands, listed_of, span_of, need_of}
use Rattle.command.specs.Entries.{Entry, SaysUnknown, SaysNotBuilt, Asks, said_by, rows_say, numbered_by, need_bits, span_in, need_in, is_built, is_tidy, unpacked, kind_size, head_at, place_of, table_size, entries}

-- ---- a test whether two entries are the same

needs-back : (n : Need) → need_in (need_bits n) ≡ n
needs-back Nothing = refl
needs-back Opened = refl
needs-back Closed = refl
needs-back Unlocked = refl
needs-back Code = refl

abbrev same : Entry → Entry → Bool
same SaysUnknown SaysUnknown = true
same SaysUnknown SaysNotBuilt = false
same SaysUnknown (Asks n s) = false
same SaysNotBuilt SaysUnknown = false
same SaysNotBuilt SaysNotBuilt = true
same SaysNotBuilt (Asks n s) = false
same (Asks n s) SaysUnknown = false
same (Asks n s) SaysNotBuilt = false
same (Asks n s) (Asks m t) = eqb (need_bits n) (need_bits m) && (eqb s.least t.least && eqb s.most t.most)

same-need : (n m : Need) → T (eqb (need_bits n) (need_bits m)) → n ≡ m
same-need n m h = sym (needs-back n) ∙ ap need_in (eqb→eq (need_bits n) (need_bits m) h) ∙ needs-back m

same_span : (s t : Span) → T (eqb s.least t.least && eqb s.most t.most) → s ≡ t
same_span s t h =
    let w = and_yes (eqb s.least t.least) (eqb s.most t.most) h in
    λ i. record { least = eqb→eq s.least t.least w.0 i; most = eqb→eq s.most t.most w.1 i }

same-is : (a b : Entry) → T (same a b) → a ≡ b
same-is SaysUnknown SaysUnknown h = refl
same-is SaysUnknown SaysNotBuilt h = absurd h
same-is SaysUnknown (Asks n s) h = absurd h
same-is SaysNotBuilt SaysUnknown h = absurd h
same-is SaysNotBuilt SaysNotBuilt h = refl
same-is SaysNotBuilt (Asks n s) h = absurd h
same-is (Asks n s) SaysUnknown h = absurd h
same-is (Asks n s) SaysNotBuilt h = absurd h
same-is (Asks n s) (Asks m t) h =
    let w = and_yes (eqb (need_bits n) (need_bits m)) (eqb s.least t.least && eqb s.most t.most) h in
    ap₂ Asks (same-need n m w.0) (same_span s t w.1)

-- ---- the test over a list, place by place

abbrev right : ℕ → ℕ → Bool
right i e = same (unpacked e) (rows_say (head_at i) (i % kind_size))

module _ (f : ℕ → ℕ → Bool) where
  abbrev every : ℕ → List ℕ → Bool
  every i [] = true
  every i (e ∷ es) = f i e && every (suc i) es

  at_each : (es : List ℕ) (i : ℕ) → T (every i es) → (k : ℕ) → k < length es → T (f (i + k) (get_or es k 0))
  at_each [] i t k h = absurd (not-suc-le-zero h)
  at_each (e ∷ es) i t zero h = subst (λ (m : ℕ). T (f m e)) (sym (add-zero i)) (and_yes (f i e) (every (suc i) es) t).0
  at_each (e ∷ es) i t (suc k) h =
      subst (λ (m : ℕ). T (f m (get_or es k 0))) (suc-add i k ∙ sym (add-suc i k))
      (at_each es (suc i) (and_yes (f i e) (every (suc i) es) t).1 k (le_of_suc-le-suc h))

-- ---- the whole table

pub table-long : length entries ≡ table_size
unfolding entries
table-long = refl

all_right : T (every right 0 entries)
unfolding entries listed_of need_of span_of unpacked
all_right = tt

-- entry i unpacks to what the rows say
pub table-says : (i : ℕ) → i < table_size → unpacked (get_or entries i 0) ≡ rows_say (head_at i) (i % kind_size)
table-says i h =
    same-is (unpacked (get_or entries i 0)) (rows_say (head_at i) (i % kind_size))
    (subst (λ (m : ℕ). T (right m (get_or entries i 0))) (zero-add i) (at_each right entries 0 all_right i (rw table-long h)))

all-tidy : T (every (λ i e. is_tidy e) 0 entries)
unfolding entries listed_of need_of span_of
all-tidy = tt

table-tidy : (i : ℕ) → i < table_size → is_tidy (get_or entries i 0) ≡ true
table-tidy i h = yes_true (is_tidy (get_or entries i 0)) (at_each (λ j e. is_tidy e) entries 0 all-tidy i (rw table-long h))
  where
    yes_true : (b : Bool) → T b → b ≡ true
    yes_true true t = refl
    yes_true false t = absurd t

-- the head alone chooses the half
half_is : (head number : ℕ) (b : Bool) → eqb (head / 16) 0xA ≡ b → rows_say (cond b 0xA0 0x90) number ≡ rows_say head number
unfolding listed_of
half_is head number true e = rw e refl
half_is head number false e = rw e refl

pub entry-says : (head number : ℕ) → number < kind_size → unpacked (get_or entries (place_of head number) 0) ≡ rows_say head number
entry-says head number h = at-half (eqb (head / 16) 0xA) refl where
  at-half : (b : Bool) → eqb (head / 16) 0xA ≡ b → unpacked (get_or entries (cond b (kind_size + number) number) 0) ≡ rows_say head number
  at-half true e =
      let m : (kind_size + number) % kind_size ≡ number = omega arith in
      table-says (kind_size + number) (omega arith) ∙ rw (le-ltb (kind_size + number) kind_size (omega arith), m) (half_is head number true e)
  at-half false e =
      let m : number % kind_size ≡ number = omega arith in
      table-says number (omega arith) ∙ rw (lt-ltb number kind_size h, m) (half_is head number false e)

pub entry-tidy : (head number : ℕ) → number < kind_size → is_tidy (get_or entries (place_of head number) 0) ≡ true
entry-tidy head number h = at-half (eqb (head / 16) 0xA) where
  at-half : (b : Bool) → is_tidy (get_or entries (cond b (kind_size + number) number) 0) ≡ true
  at-half true = table-tidy (kind_size + number) (omega arith)
  at-half false = table-tidy number (omega arith)

-- ---- what an entry says of a number is what the rows say

-- no case is another
pub apart : {A : Type 0} → true ≡ false → A
apart z = absurd (true≢false z)

pub said-unknown : (x : Listed) → numbered_by (said_by x) ≡ AsUnknown → x ≡ Unlisted
said-unknown (Built c) e = cc
said-unknown NotBuilt e = cc
said-unknown Unlisted e = refl

pub said-unbuilt : (x : Listed) → numbered_by (said_by x) ≡ AsNotBuilt → x ≡ NotBuilt
said-unbuilt (Built c) e = cc
said-unbuilt NotBuilt e = refl
said-unbuilt Unlisted e = cc

pub said-command : (x : Listed) → numbered_by (said_by x) ≡ AsCommand → Stands x
said-command (Built c) e = (c, refl)
said-command NotBuilt e = apart cc
said-command Unlisted e = apart cc

-- what the entry of a command asks, column by column
asked_by : (b z : Bool) (m n : Need) (s t : Span) → cond b (Asks m s) (cond z SaysUnknown SaysNotBuilt) ≡ Asks n t → (b ≡ true) × (m ≡ n) × (s ≡ t)
asked_by true z m n s t q = (refl, cc, cc)
asked_by false true m n s t q = apart cc
asked_by false false m n s t q = apart cc

pub asked_is : (e : ℕ) (n : Need) (s : Span) → unpacked e ≡ Asks n s → (is_built e ≡ true) × (need_in e ≡ n) × (span_in e ≡ s)
unfolding unpacked
asked_is e n s q = asked_by (is_built e) (eqb e 0) (need_in e) n (span_in e) s q
