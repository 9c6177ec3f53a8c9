-- Heads that the bytes behind the AA make known are steady; what the hunt asks of heads; the board's are 9n and An, and its look is the six lines.
use Prim.Native.Nat.{ℕ, ◌+◌, ◌-◌, ◌%◌, ◌≤◌, ◌<◌}
use mathlib.Core.Path.{◌≡◌, refl, sym, ap, ◌∙◌}
use mathlib.Core.Logic.{⊎_elim}
use mathlib.Core.List.{List, ◌++◌}
use mathlib.Core.Bool.{Bool, true, false, cond, not, ◌&&◌, ◌||◌}
use native.Mathlib.Nat.{add-zero}
use native.Mathlib.Omega.{arith}
use lib.ListN.{length, get_or, take, drop, length-append, length-drop, get_or-append}
use lib.Seq.{get_or-drop, get_or-take, length-take-le}
use lib.Dec.{ltb, leb, eqb}
use borrow.Author.Tests.{ltb-true, ltb-false, lt-ltb, le-ltb, leb-true, leb-false, eq-eqb, ne_eqb}
use Rattle.wire.specs.declared.Line.{Line}
use Rattle.wire.specs.declared.Line.TheVariants.{Board}
use Rattle.wire.specs.declared.Size.{Size}
use Rattle.wire.specs.declared.Size.TheVariants.{NoHead, NeedMore, Of}
use Rattle.wire.specs.Sizes.{frame_most, wait_most}
use Rattle.wire.specs.Frames.{Heads, Skip, Wait, Take, Tear, look, cut, is_wait, waits, Passed}
use Rattle.wire.specs.Serial.{Head, NotHead, Fixed, ByThird, told, front, fronted, is_head, ends_in_85, serial, line_head, heads_of, Noise, six_lines, head_of}
use Rattle.wire.proofs.CutLaws as cuts
use Rattle.wire.proofs.CutLaws.{Steady, Under, look-headless, look-unfinished, look-torn, look-frame}
use Rattle.wire.proofs.Stretches.{before-or-not, stretch-as}

longer : (k : ℕ) (l more : List ℕ) → ltb k (length l) ≡ true → ltb k (length (l ++ more)) ≡ true
longer k l more q = let p : k < length l = ltb-true _ _ q in lt-ltb k (length (l ++ more)) (simp length-append (omega arith))

-- ---- the size at the front

module _ (head : ℕ → Head) (sound : List ℕ → Bool) (l : List ℕ) where
  pub size-other : (get_or l 0 0 ≡ 0xAA → ⊥) → (fronted head sound).size l ≡ NoHead
  size-other h = rw (ne_eqb (get_or l 0 0) 0xAA h) refl

  module _ (aa : get_or l 0 0 ≡ 0xAA) where
    pub size-alone : length l ≤ 1 → (fronted head sound).size l ≡ NeedMore
    size-alone h = rw (eq-eqb (get_or l 0 0) 0xAA aa, le-ltb 1 (length l) h) refl

    pub size-told : 1 < length l → (fronted head sound).size l ≡ told (head (get_or l 1 0)) (ltb 2 (length l)) (get_or l 2 0)
    size-told h = rw (eq-eqb (get_or l 0 0) 0xAA aa, lt-ltb 1 (length l) h) refl

-- ---- a size once said stays

module _ (head : ℕ → Head) (sound : List ℕ → Bool) where
  told-stays : (l more : List ℕ) (v : Head) (c : Bool) → ltb 2 (length l) ≡ c → (told v c (get_or l 2 0) ≡ NeedMore → ⊥) → told v (ltb 2 (length (l ++ more))) (get_or (l ++ more) 2 0) ≡ told v c (get_or l 2 0)
  told-stays l more NotHead c hc w = refl
  told-stays l more (Fixed n) c hc w = refl
  told-stays l more (ByThird says) false hc w = absurd (w refl)
  told-stays l more (ByThird says) true hc w = rw (longer 2 l more hc, get_or-append l more 0 2 (ltb-true _ _ hc)) refl

  stays_by : (l more : List ℕ) (a b : Bool) → 0 < length l → eqb (get_or l 0 0) 0xAA ≡ a → ltb 1 (length l) ≡ b
      → (front a b (told (head (get_or l 1 0)) (ltb 2 (length l)) (get_or l 2 0)) ≡ NeedMore → ⊥)
      → (fronted head sound).size (l ++ more) ≡ front a b (told (head (get_or l 1 0)) (ltb 2 (length l)) (get_or l 2 0))
  stays_by l more false b p ha hb w = rw (get_or-append l more 0 0 p, ha) refl
  stays_by l more true false p ha hb w = absurd (w refl)
  stays_by l more true true p ha hb w =
      rw (get_or-append l more 0 0 p, get_or-append l more 0 1 (ltb-true _ _ hb), ha, longer 1 l more hb)
      (told-stays l more (head (get_or l 1 0)) (ltb 2 (length l)) refl w)

  pub fronted-steady : Steady (fronted head sound)
  fronted-steady = record { stays = λ l more p w. stays_by l more (eqb (get_or l 0 0) 0xAA) (ltb 1 (length l)) p refl refl w }

-- ---- heads that need no third byte

-- no frame, or one of at most so many bytes
abbrev pub Brief : Head → ℕ → Type 0
Brief NotHead bound = Unit {0}
Brief (Fixed n) bound = 4 + n ≤ bound
Brief (ByThird says) bound = ⊥

module _ (head : ℕ → Head) (sound : List ℕ → Bool) (bound : ℕ) (brief : (b : ℕ) → Brief (head b) bound) where
  says-by : (a s c : Bool) (v : Head) (t n : ℕ) → Brief v bound → front a s (told v c t) ≡ Of n → v ≡ Fixed n
  says-by false s c v t n w e = let z : ◌≡◌ {A = ℕ} 0 1 = cc in absurd (omega arith)
  says-by true false c v t n w e = let z : ◌≡◌ {A = ℕ} 0 1 = cc in absurd (omega arith)
  says-by true true c NotHead t n w e = let z : ◌≡◌ {A = ℕ} 0 1 = cc in absurd (omega arith)
  says-by true true c (Fixed m) t n w e = cc
  says-by true true c (ByThird says) t n w e = absurd w

  -- a front that says a size has a head that says it
  pub brief-says : (l : List ℕ) (n : ℕ) → (fronted head sound).size l ≡ Of n → head (get_or l 1 0) ≡ Fixed n
  brief-says l n e = says-by (eqb (get_or l 0 0) 0xAA) (ltb 1 (length l)) (ltb 2 (length l)) (head (get_or l 1 0)) (get_or l 2 0) n (brief (get_or l 1 0)) e

  most-by : (v : Head) (n : ℕ) → Brief v bound → v ≡ Fixed n → 4 + n ≤ bound
  most-by NotHead n w e = let z : ◌≡◌ {A = ℕ} 0 1 = cc in absurd (omega arith)
  most-by (Fixed m) n w e = let q : m ≡ n = cc in omega arith
  most-by (ByThird says) n w e = absurd w

  early-by : (l : List ℕ) (a s c : Bool) (v : Head) (t : ℕ) → 4 ≤ bound → Brief v bound → ltb 1 (length l) ≡ s → front a s (told v c t) ≡ NeedMore → length l < bound
  early-by l false s c v t four w q e = let z : ◌≡◌ {A = ℕ} 0 1 = cc in absurd (omega arith)
  early-by l true false c v t four w q e = omega (arith, ltb-false 1 (length l) q)
  early-by l true true c NotHead t four w q e = let z : ◌≡◌ {A = ℕ} 0 1 = cc in absurd (omega arith)
  early-by l true true c (Fixed m) t four w q e = let z : ◌≡◌ {A = ℕ} 0 1 = cc in absurd (omega arith)
  early-by l true true c (ByThird says) t four w q e = absurd w

  pub fronted-under : 4 ≤ bound → Under (fronted head sound) bound
  fronted-under four = record {
    most = λ l n e. most-by (head (get_or l 1 0)) n (brief (get_or l 1 0)) (brief-says l n e);
    early = λ l e. early-by l (eqb (get_or l 0 0) 0xAA) (ltb 1 (length l)) (ltb 2 (length l)) (head (get_or l 1 0)) (get_or l 2 0) four (brief (get_or l 1 0)) refl e;
    some = omega arith;
  }

-- ---- bytes that are no AA are skipped, whatever the heads are

pub noise-passed : (head : ℕ → Head) (sound : List ℕ → Bool) (l : List ℕ) (from at : ℕ) → Noise l from at → Passed (fronted head sound) l from at
noise-passed head sound l from at p =
    stretch-as l _ (λ i. look (fronted head sound) (drop i l) ≡ Skip)
    (λ i e. look-headless (fronted head sound) (drop i l) (size-other head sound (drop i l) (λ q. e (sym (get_or-drop i l 0 0 ∙ rw add-zero refl) ∙ q)))) from at p

-- ---- the last byte of a candidate

pub closed_is : (n : ℕ) (l : List ℕ) → 4 + n ≤ length l → ends_in_85 (take (4 + n) l) ≡ eqb (get_or l (3 + n) 0) 0x85
closed_is n l p =
    let e : 4 + n - 1 ≡ 3 + n = omega arith in
    rw (length-take-le (4 + n) l p, e, get_or-take (4 + n) l (3 + n) 0 (omega arith)) refl

-- ---- at a place of a stream

further : (l : List ℕ) (at : ℕ) → ltb 2 (length (drop at l)) ≡ ltb (at + 2) (length l)
further l at =
    rw (length-drop at l)
    (⊎_elim (λ p. lt-ltb 2 (length l - at) (omega arith) ∙ sym (lt-ltb (at + 2) (length l) p)) (λ p. le-ltb 2 (length l - at) (omega arith) ∙ sym (le-ltb (at + 2) (length l) p)) (before-or-not (at + 2) (length l)))

module _ (head : ℕ → Head) (l : List ℕ) (at : ℕ) where
  abbrev front-size : Size
  front-size = (fronted head ends_in_85).size (drop at l)

  module _ (aa : get_or l at 0 ≡ 0xAA) where
    first : get_or (drop at l) 0 0 ≡ 0xAA
    first = get_or-drop at l 0 0 ∙ rw add-zero aa

    pub alone_at : length l ≤ at + 1 → front-size ≡ NeedMore
    alone_at h = size-alone head ends_in_85 (drop at l) first (rw length-drop (omega arith))

    pub told_at : at + 1 < length l → front-size ≡ told (head (get_or l (at + 1) 0)) (ltb (at + 2) (length l)) (get_or l (at + 2) 0)
    told_at h =
        let e = size-told head ends_in_85 (drop at l) first (rw length-drop (omega arith)) in
        e ∙ rw (get_or-drop at l 1 0, further l at, get_or-drop at l 2 0) refl

  -- a candidate
  module _ (n : ℕ) (said : front-size ≡ Of n) where
    pub candidate-waits : at < length l → length l ≤ at + 3 + n → look (fronted head ends_in_85) (drop at l) ≡ Wait
    candidate-waits b h = look-unfinished (fronted head ends_in_85) (drop at l) n said (rw length-drop (omega arith))

    -- its last place
    module _ (place : ℕ) (e : place ≡ at + 3 + n) (h : at + 3 + n < length l) where
      all : 4 + n ≤ length (drop at l)
      all = rw length-drop (omega arith)

      last : get_or (drop at l) (3 + n) 0 ≡ get_or l place 0
      last = get_or-drop at l (3 + n) 0 ∙ ap (λ (i : ℕ). get_or l i 0) (let z : at + (3 + n) ≡ place = omega arith in z)

      ended : ends_in_85 (take (4 + n) (drop at l)) ≡ eqb (get_or l place 0) 0x85
      ended = closed_is n (drop at l) all ∙ rw last refl

      pub candidate-torn : (get_or l place 0 ≡ 0x85 → ⊥) → look (fronted head ends_in_85) (drop at l) ≡ Tear
      candidate-torn b = look-torn (fronted head ends_in_85) (drop at l) n said all (ended ∙ ne_eqb (get_or l place 0) 0x85 b)

      pub candidate-frame : get_or l place 0 ≡ 0x85 → look (fronted head ends_in_85) (drop at l) ≡ Take n
      candidate-frame b = look-frame (fronted head ends_in_85) (drop at l) n said all (ended ∙ eq-eqb (get_or l place 0) 0x85 b)

-- ---- what is asked of the heads that a board hunts for

-- a stream may be cut anywhere, frames have at most `frame_most` bytes, and their head bytes are 9n or An
pub record Huntable (h : Heads) : Type 0 where
  pub steady : Steady h
  pub under : Under h frame_most
  pub headed : (l : List ℕ) (n : ℕ) → h.size l ≡ Of n → is_head (get_or l 1 0) ≡ true

module _ (h : Heads) (ok : Huntable h) where
  -- at most `wait_most` bytes wait
  pub waits-few : (l : List ℕ) → waits h l ≡ true → length l ≤ wait_most
  waits-few l t = let q : length l < frame_most = cuts.waits-short h frame_most ok.under l t in omega arith

  pub waiting-short : (l : List ℕ) → length (cut h l).waiting ≤ wait_most
  waiting-short l = waits-few (cut h l).waiting (cuts.cut-waits h l)

  pub taken-headed : (l : List ℕ) (n : ℕ) → look h l ≡ Take n → is_head (head_of (take (4 + n) l)) ≡ true
  taken-headed l n e = rw (get_or-take (4 + n) l 1 0 (omega arith)) (ok.headed l n (cuts.take-room h l n e).1)

-- ---- the lines

pub heads-of : (k : Line) → heads_of k ≡ fronted (line_head k) ends_in_85
unfolding serial
heads-of Board = refl

-- n is the low half of a head
pub low_half : (t : Bool) (b : ℕ) → Brief (cond t (Fixed (b % 16)) NotHead) frame_most
low_half true b = omega arith
low_half false b = tt

-- no line has a longer frame, nor a head that needs a third byte
pub line-brief : (k : Line) (b : ℕ) → Brief (line_head k b) frame_most
line-brief Board b = low_half (is_head b) b

headed-by : (t : Bool) (b n : ℕ) → cond t (Fixed (b % 16)) NotHead ≡ Fixed n → t ≡ true
headed-by true b n e = refl
headed-by false b n e = let z : ◌≡◌ {A = ℕ} 0 1 = cc in absurd (omega arith)

-- nor a head other than 9n and An
pub line-headed : (k : Line) (b n : ℕ) → line_head k b ≡ Fixed n → is_head b ≡ true
line-headed Board b n e = headed-by (is_head b) b n e

pub huntable : (k : Line) → Huntable (heads_of k)
huntable k = rw (heads-of k) (record {
  steady = fronted-steady (line_head k) ends_in_85;
  under = fronted-under (line_head k) ends_in_85 frame_most (line-brief k) (omega arith);
  headed = λ l n e. line-headed k (get_or l 1 0) n (brief-says (line_head k) ends_in_85 frame_most (line-brief k) l n e);
})

-- ---- 9n and An

pub serial-huntable : Huntable serial
serial-huntable = huntable Board

pub serial-steady : Steady serial
serial-steady = serial-huntable.steady

pub serial-under : Under serial frame_most
serial-under = serial-huntable.under

pub pending-short : (l : List ℕ) → waits serial l ≡ true → length l ≤ wait_most
pending-short l t = waits-few serial serial-huntable l t

-- ---- the six lines

module _ (l : List ℕ) where
  abbrev announced : ℕ
  announced = get_or l 1 0 % 16

  lines-by : (a b c d e : Bool) → eqb (get_or l 0 0) 0xAA ≡ a → ltb 1 (length l) ≡ b → is_head (get_or l 1 0) ≡ c → leb (4 + announced) (length l) ≡ d → eqb (get_or l (3 + announced) 0) 0x85 ≡ e
      → look serial l ≡ six_lines a b c d e announced
  unfolding look serial
  lines-by false b c d e ha hb hc hd he = rw ha refl
  lines-by true false c d e ha hb hc hd he = rw (ha, hb) refl
  lines-by true true false d e ha hb hc hd he = rw (ha, hb, hc) refl
  lines-by true true true false e ha hb hc hd he = rw (ha, hb, hc, hd) refl
  lines-by true true true true true ha hb hc hd he = rw (ha, hb, hc, hd, closed_is announced l (leb-true _ _ hd), he) refl
  lines-by true true true true false ha hb hc hd he = rw (ha, hb, hc, hd, closed_is announced l (leb-true _ _ hd), he) refl

  pub look-lines : look serial l
      ≡ six_lines (eqb (get_or l 0 0) 0xAA) (ltb 1 (length l)) (is_head (get_or l 1 0)) (leb (4 + announced) (length l)) (eqb (get_or l (3 + announced) 0) 0x85) announced
  look-lines = lines-by _ _ _ _ _ refl refl refl refl refl

-- ---- what waits, as the record's check tests it

is_wait-by : (a b c d e : Bool) (n : ℕ) → is_wait (six_lines a b c d e n) ≡ (a && (not b || (c && not d)))
is_wait-by false b c d e n = refl
is_wait-by true false c d e n = refl
is_wait-by true true false d e n = refl
is_wait-by true true true false e n = refl
is_wait-by true true true true true n = refl
is_wait-by true true true true false n = refl

not-leb : (a b : ℕ) → not (leb a b) ≡ ltb b a
not-leb a b = go (leb a b) refl
  where
    go : (t : Bool) → leb a b ≡ t → not t ≡ ltb b a
    go true e = sym (le-ltb b a (leb-true a b e))
    go false e = sym (lt-ltb b a (leb-false a b e))

module _ (l : List ℕ) where
  pub waits-none : length l ≡ 0 → waits serial l ≡ true
  unfolding waits
  waits-none e = rw (eq-eqb (length l) 0 e) refl

  module _ (some : 0 < length l) where
    waits-some : waits serial l ≡ (eqb (get_or l 0 0) 0xAA && (not (ltb 1 (length l)) || (is_head (get_or l 1 0) && ltb (length l) (4 + get_or l 1 0 % 16))))
    unfolding waits
    waits-some =
        rw (ne_eqb (length l) 0 (λ e. let z : ⊥ = omega arith in z), look-lines l, is_wait-by (eqb (get_or l 0 0) 0xAA) (ltb 1 (length l)) (is_head (get_or l 1 0)) (leb (4 + get_or l 1 0 % 16) (length l)) (eqb (get_or l (3 + get_or l 1 0 % 16) 0) 0x85) (get_or l 1 0 % 16), not-leb (4 + get_or l 1 0 % 16) (length l))
        refl

    pub waits-not : (get_or l 0 0 ≡ 0xAA → ⊥) → waits serial l ≡ false
    waits-not e = waits-some ∙ rw (ne_eqb (get_or l 0 0) 0xAA e) refl

    module _ (aa : get_or l 0 0 ≡ 0xAA) where
      pub waits_one : length l ≡ 1 → waits serial l ≡ true
      waits_one e = waits-some ∙ rw (eq-eqb (get_or l 0 0) 0xAA aa, e) refl

      pub waits-head : 1 < length l → waits serial l ≡ (is_head (get_or l 1 0) && ltb (length l) (4 + get_or l 1 0 % 16))
      waits-head h = waits-some ∙ rw (eq-eqb (get_or l 0 0) 0xAA aa, lt-ltb 1 (length l) h) refl
