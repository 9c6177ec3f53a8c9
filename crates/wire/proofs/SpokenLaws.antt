-- Frames that boards say, one behind the other, are read back: nothing is skipped, nothing waits, and each entry has its frame's data.
use Prim.Native.Nat.{ℕ, ◌+◌, ◌-◌, ◌*◌, ◌%◌, ◌≤◌, ◌<◌}
use mathlib.Core.Path.{◌≡◌, refl, sym, ap, ap₂, ◌∙◌}
use mathlib.Core.Logic.{⊎_elim}
use mathlib.Core.Bool.{true, false, ◌||◌}
use mathlib.Core.List.{List, [], ◌∷◌, ◌++◌, append_assoc}
use native.Mathlib.Nat.{eq-or-lt_of_le}
use native.Mathlib.Omega.{arith}
use lib.ListN.{length, get_or, take, drop, length-append}
use lib.Seq.{take_at, drop_at, drop-append-add, get_or_at}
use lib.Dec.{eqb}
use borrow.Author.Tests.{lt-ltb, le-leb, eq-eqb, ne_eqb}
use Rattle.wire.specs.declared.Size.TheVariants.{Of}
use Rattle.wire.specs.Sizes.{data_most, six_values}
use Rattle.wire.specs.Frames.{Take, look, Cut, cut, placed_from}
use Rattle.wire.specs.Serial.{told, ends_in_85}
use Rattle.wire.specs.Reader.{is_reply, is_long, reader_head, reader, Entry, status_told, entry_of, entries_of}
use Rattle.wire.specs.Replies.{Reply, reply_bytes}
use Rattle.wire.proofs.CutLaws.{look-frame, cut-nil, cut-take}
use Rattle.wire.proofs.SerialLaws.{size-told, closed_is}
use Rattle.wire.proofs.ReaderLaws.{third-long, third-measuring, reply-said}
use Rattle.wire.proofs.PlacedLaws.{placed-nil, placed-take}
use Rattle.wire.proofs.EntryLaws.{entries_none, entries-cons}

-- a frame by its head byte, its third byte and its data
pub record Spoken : Type 0 where
  pub head : ℕ
  pub third : ℕ
  pub body : List ℕ

abbrev pub spoken_bytes : Spoken → List ℕ
spoken_bytes f = 0xAA ∷ f.head ∷ f.third ∷ (f.body ++ 0x85 ∷ [])

-- head and third byte announce the data
abbrev pub Readable : Spoken → Type 0
Readable f = told (reader_head f.head) true f.third ≡ Of (length f.body)

-- the entry of a frame that begins at a place
abbrev pub entry_at : ℕ → Spoken → Entry
entry_at at f = record { head = f.head; status = status_told f.head f.third; place = at + 3; count = length f.body }

module _ (f : Spoken) (more : List ℕ) where
  abbrev l : List ℕ
  l = spoken_bytes f ++ more

  abbrev n : ℕ
  n = length f.body

  pub size : length (spoken_bytes f) ≡ 4 + n
  size = omega (arith, length-append f.body (0x85 ∷ []))

  all : 4 + n ≤ length l
  all = omega (arith, length-append (spoken_bytes f) more, size)

  last : get_or l (3 + n) 0 ≡ 0x85
  last = ap (λ (x : List ℕ). get_or (0xAA ∷ f.head ∷ f.third ∷ x) (3 + n) 0) (append_assoc f.body (0x85 ∷ []) more) ∙ get_or_at (0xAA ∷ f.head ∷ f.third ∷ f.body) 0x85 more 0 (3 + n) (let z : length (0xAA ∷ f.head ∷ f.third ∷ f.body) ≡ 3 + n = omega arith in z)

  pub taken-part : take (4 + n) l ≡ spoken_bytes f
  taken-part = take_at (spoken_bytes f) more (4 + n) size

  pub left-part : drop (4 + n) l ≡ more
  left-part = drop_at (spoken_bytes f) more (4 + n) size

  said-size : Readable f → reader.size l ≡ Of n
  unfolding reader
  said-size r = size-told reader_head ends_in_85 l refl (omega (arith, all)) ∙ rw (lt-ltb 2 (length l) (omega (arith, all))) r

  ended : reader.sound (take (4 + n) l) ≡ true
  unfolding reader
  ended = closed_is n l all ∙ eq-eqb (get_or l (3 + n) 0) 0x85 last

  pub look-spoken : Readable f → look reader l ≡ Take n
  look-spoken r = look-frame reader l n (said-size r) all ended

-- ---- frames one behind the other

unfoldable pub all_bytes : List Spoken → List ℕ
all_bytes [] = []
all_bytes (f ∷ fs) = spoken_bytes f ++ all_bytes fs

pub all_none : all_bytes [] ≡ []
unfolding all_bytes
all_none = refl

pub all_append : (fs gs : List Spoken) → all_bytes (fs ++ gs) ≡ all_bytes fs ++ all_bytes gs
unfolding all_bytes
all_append [] gs = refl
all_append (f ∷ fs) gs = ap (λ (x : List ℕ). spoken_bytes f ++ x) (all_append fs gs) ∙ sym (append_assoc (spoken_bytes f) (all_bytes fs) (all_bytes gs))

unfoldable pub AllReadable : List Spoken → Type 0
AllReadable [] = Unit {0}
AllReadable (f ∷ fs) = Readable f × AllReadable fs

unfoldable pub entries_at : ℕ → List Spoken → List Entry
entries_at at [] = []
entries_at at (f ∷ fs) = entry_at at f ∷ entries_at (at + 4 + length f.body) fs

entry-of : (at : ℕ) (f : Spoken) → entry_of (record { at = at; frame = spoken_bytes f }) ≡ entry_at at f
entry-of at f = let m : length (spoken_bytes f) - 4 ≡ length f.body = omega (arith, size f []) in rw m refl

-- nothing is skipped and nothing waits
pub spoken-cut : (fs : List Spoken) → AllReadable fs → ((cut reader (all_bytes fs)).skipped ≡ 0) × ((cut reader (all_bytes fs)).waiting ≡ [])
unfolding all_bytes AllReadable
spoken-cut [] r = (ap (λ (c : Cut). c.skipped) (cut-nil reader), ap (λ (c : Cut). c.waiting) (cut-nil reader))
spoken-cut (f ∷ fs) r =
    let more : List ℕ = all_bytes fs in
    let e = cut-take reader (length f.body) (spoken_bytes f ++ more) (look-spoken f more r.0) in
    let d = left-part f more in
    let ih = spoken-cut fs r.1 in (
      ap (λ (c : Cut). c.skipped) e ∙ ap (λ (x : List ℕ). (cut reader x).skipped) d ∙ ih.0,
      ap (λ (c : Cut). c.waiting) e ∙ ap (λ (x : List ℕ). (cut reader x).waiting) d ∙ ih.1,
    )

pub spoken-entries : (fs : List Spoken) (at : ℕ) → AllReadable fs → entries_of (placed_from reader at 0 (all_bytes fs)) ≡ entries_at at fs
unfolding all_bytes AllReadable entries_at
spoken-entries [] at r = ap entries_of (placed-nil reader at) ∙ entries_none
spoken-entries (f ∷ fs) at r =
    let more : List ℕ = all_bytes fs in
    let n = length f.body in
    let e = placed-take reader at n (spoken_bytes f ++ more) (look-spoken f more r.0) in
    ap entries_of e
    ∙ entries-cons (record { at = at; frame = take (4 + n) (spoken_bytes f ++ more) }) (placed_from reader (at + 4 + n) 0 (drop (4 + n) (spoken_bytes f ++ more)))
    ∙ ap₂ (λ (x : Entry) (es : List Entry). x ∷ es) (ap (λ (x : List ℕ). entry_of (record { at = at; frame = x })) (taken-part f more) ∙ entry-of at f)
    (ap (λ (x : List ℕ). entries_of (placed_from reader (at + 4 + n) 0 x)) (left-part f more) ∙ spoken-entries fs (at + 4 + n) r.1)

-- the data of a frame behind other bytes stand where its entry says
pub data-stands : (before : List ℕ) (f : Spoken) (more : List ℕ) → take (length f.body) (drop (length before + 3) (before ++ (spoken_bytes f ++ more))) ≡ f.body
data-stands before f more =
    ap (take (length f.body)) (drop-append-add before (spoken_bytes f ++ more) 3 ∙ append_assoc f.body (0x85 ∷ []) more)
    ∙ take_at f.body ((0x85 ∷ []) ++ more) (length f.body) refl

-- ---- what boards say

-- "A reply of exactly 15 bytes, as a full name gives, has status 0 there": a reply of either kind, of at most 15 bytes, and of 15 with status 0
pub record Plain (a : Reply) : Type 0 where
  pub kind_low : 5 ≤ a.kind
  pub kind_high : a.kind ≤ 6
  pub short : length a.body ≤ data_most
  pub full : length a.body ≡ data_most → a.status ≡ 0

abbrev pub spoken_reply : Reply → Spoken
spoken_reply a = record { head = a.kind * 16 + length a.body; third = a.status; body = a.body }

pub reply-spoken : (a : Reply) → reply_bytes a ≡ spoken_bytes (spoken_reply a)
unfolding reply_bytes
reply-spoken a = refl

module _ (a : Reply) (p : Plain a) where
  abbrev head : ℕ
  head = a.kind * 16 + length a.body

  no_measuring : eqb head 0x15 ≡ false
  no_measuring = ne_eqb head 0x15 (λ e. omega (arith, p.kind_low))

  is-reply : is_reply head ≡ true
  is-reply = rw (le-leb 0x50 head (omega (arith, p.kind_low)), le-leb head 0x6F (omega (arith, p.kind_high, p.short))) refl

  long-head : length a.body ≡ data_most → is_long head ≡ true
  long-head e =
      ⊎_elim
      (λ k. rw (ne_eqb head 0x5F (λ q. let z : ⊥ = omega arith in z), eq-eqb head 0x6F (omega arith)) refl)
      (λ k. rw (eq-eqb head 0x5F (omega (arith, p.kind_low))) refl)
      (eq-or-lt_of_le p.kind_high)

  short-head : length a.body < data_most → is_long head ≡ false
  short-head h = rw (ne_eqb head 0x5F (λ q. omega (arith, p.kind_low, p.kind_high)), ne_eqb head 0x6F (λ q. omega (arith, p.kind_low, p.kind_high))) refl

  full-readable : length a.body ≡ data_most → Readable (spoken_reply a)
  full-readable e =
      let n : a.status + data_most ≡ length a.body = omega (arith, p.full e) in
      let d : (is_long head || eqb head 0x15) ≡ true = rw (long-head e) refl in
      sym (third-long head d (λ q. omega (arith, p.kind_low)) a.status) ∙ ap Of n

  short-readable : length a.body < data_most → Readable (spoken_reply a)
  short-readable h =
      let n : head % 16 ≡ length a.body = omega arith in
      let d : (is_long head || eqb head 0x15) ≡ false = rw (short-head h, no_measuring) refl in
      sym (reply-said head d true a.status is-reply) ∙ ap Of n

  pub reply-readable : Readable (spoken_reply a)
  reply-readable = ⊎_elim full-readable short-readable (eq-or-lt_of_le p.short)

  -- the status that its entry tells
  pub reply-status : status_told head a.status ≡ a.status
  reply-status = ⊎_elim (λ e. rw (long-head e) (sym (p.full e))) (λ h. rw (short-head h) refl) (eq-or-lt_of_le p.short)

-- a measuring frame
abbrev pub spoken_reading : List ℕ → Spoken
spoken_reading values = record { head = 0x15; third = 0xB0; body = values }

pub reading-readable : (values : List ℕ) → length values ≡ six_values → Readable (spoken_reading values)
reading-readable values e = sym (third-measuring 0x15 refl 0xB0 refl) ∙ ap Of (sym e)
