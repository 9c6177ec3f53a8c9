-- Laws of the cut, for any set of heads: each decision as an equation, conservation, packets, what waits.
use Prim.Native.Nat.{ℕ, zero, suc, ◌+◌, ◌≤◌, ◌<◌}
use mathlib.Core.Path.{◌≡◌, refl, ap, ◌∙◌}
use mathlib.Core.List.{List, [], ◌∷◌, ◌++◌}
use mathlib.Core.Bool.{Bool, true, false, ◌||◌}
use native.Mathlib.Nat.{zero-add, add_assoc}
use native.Mathlib.Omega.{arith}
use lib.ListN.{length, get_or, take, drop, length-append, get_or-append}
use lib.Seq.{take-append-le, length-take-le}
use lib.Dec.{leb, eqb}
use borrow.Author.Tests.{leb-false, leb-true, le-leb, lt-leb, eqb-true}
use Rattle.wire.specs.Numbers.{Bytes}
use Rattle.wire.specs.declared.Size.{Size}
use Rattle.wire.specs.declared.Size.TheVariants.{NoHead, NeedMore, Of}
use Rattle.wire.specs.Frames.{Heads, Look, Skip, Wait, Take, Tear, settle, weigh, look, Piece, Whole, Broken, sizes, All, Cut, stop, skip_one, take_one, tear_one, onward, cut_from, cut, is_wait, waits}
use Rattle.wire.proofs.NumberLaws.{bytes_take, bytes_drop}

-- a size once said does not change when more bytes follow
pub record Steady (h : Heads) : Type 0 where
  pub stays : (l more : List ℕ) → 0 < length l → (h.size l ≡ NeedMore → ⊥) → h.size (l ++ more) ≡ h.size l

-- every frame is shorter than a bound, and so is a front that does not say its size yet
pub record Under (h : Heads) (bound : ℕ) : Type 0 where
  pub most : (l : List ℕ) (n : ℕ) → h.size l ≡ Of n → 4 + n ≤ bound
  pub early : (l : List ℕ) → h.size l ≡ NeedMore → length l < bound
  pub some : 0 < bound

-- how many frames
unfoldable pub frames : List Piece → ℕ
frames [] = 0
frames (Whole f ∷ pieces) = 1 + frames pieces
frames (Broken head ∷ pieces) = frames pieces

-- a cut followed by another
abbrev pub and_then : Cut → Cut → Cut
and_then a b = record { pieces = a.pieces ++ b.pieces; skipped = a.skipped + b.skipped; waiting = b.waiting }

-- what every frame is that a stream of bytes holds
abbrev pub Fair : Piece → Type 0
Fair (Whole f) = (4 ≤ length f) × Bytes f
Fair (Broken head) = Unit {0}

-- ---- what a decision says of the bytes that are there

settle-take : (a s : Bool) (n m : ℕ) → settle a s n ≡ Take m → (a ≡ true) × (s ≡ true) × (n ≡ m)
settle-take false s n m e = let z : ◌≡◌ {A = ℕ} 0 1 = cc in absurd (omega arith)
settle-take true true n m e = (refl, refl, cc)
settle-take true false n m e = let z : ◌≡◌ {A = ℕ} 0 1 = cc in absurd (omega arith)

settle-tear : (a s : Bool) (n : ℕ) → settle a s n ≡ Tear → a ≡ true
settle-tear false s n e = let z : ◌≡◌ {A = ℕ} 0 1 = cc in absurd (omega arith)
settle-tear true s n e = refl

settle-wait : (a s : Bool) (n : ℕ) → settle a s n ≡ Wait → a ≡ false
settle-wait false s n e = refl
settle-wait true true n e = let z : ◌≡◌ {A = ℕ} 0 1 = cc in absurd (omega arith)
settle-wait true false n e = let z : ◌≡◌ {A = ℕ} 0 1 = cc in absurd (omega arith)

wait-is : (v : Look) → is_wait v ≡ true → v ≡ Wait
wait-is Skip e = let z : ◌≡◌ {A = ℕ} 0 1 = cc in absurd (omega arith)
wait-is Wait e = refl
wait-is (Take n) e = let z : ◌≡◌ {A = ℕ} 0 1 = cc in absurd (omega arith)
wait-is Tear e = let z : ◌≡◌ {A = ℕ} 0 1 = cc in absurd (omega arith)

empty-is : (l : List ℕ) → eqb (length l) 0 ≡ true → l ≡ []
empty-is [] e = refl
empty-is (x ∷ l) e = absurd (omega (arith, eqb-true (length (x ∷ l)) 0 e))

-- ---- a decision, by the size that the front announces

module _ (h : Heads) (l : List ℕ) where
  pub look-headless : h.size l ≡ NoHead → look h l ≡ Skip
  unfolding look
  look-headless e = rw e refl

  pub look-unsaid : h.size l ≡ NeedMore → look h l ≡ Wait
  unfolding look
  look-unsaid e = rw e refl

  module _ (n : ℕ) (e : h.size l ≡ Of n) where
    pub look-unfinished : length l < 4 + n → look h l ≡ Wait
    unfolding look
    look-unfinished p = rw (e, lt-leb (4 + n) (length l) p) refl

    pub look-torn : 4 + n ≤ length l → h.sound (take (4 + n) l) ≡ false → look h l ≡ Tear
    unfolding look
    look-torn p s = rw (e, le-leb (4 + n) (length l) p, s) refl

    pub look-frame : 4 + n ≤ length l → h.sound (take (4 + n) l) ≡ true → look h l ≡ Take n
    unfolding look
    look-frame p s = rw (e, le-leb (4 + n) (length l) p, s) refl

module _ (h : Heads) where
  -- a frame that is carried out is there whole and sound, and has the size that its front says
  take_by : (l : List ℕ) (v : Size) (n : ℕ) → weigh h.sound l v ≡ Take n → (4 + n ≤ length l) × (v ≡ Of n) × (h.sound (take (4 + n) l) ≡ true)
  take_by l NoHead n e = let z : ◌≡◌ {A = ℕ} 0 1 = cc in absurd (omega arith)
  take_by l NeedMore n e = let z : ◌≡◌ {A = ℕ} 0 1 = cc in absurd (omega arith)
  take_by l (Of m) n e =
      let w = settle-take (leb (4 + m) (length l)) (h.sound (take (4 + m) l)) m n e in
      let q : m ≡ n = w.2 in
      let r : 4 + m ≤ length l = leb-true _ _ w.0 in
      (omega arith, ap Of q, rw q at w.1)

  pub take-room : (l : List ℕ) (n : ℕ) → look h l ≡ Take n → (4 + n ≤ length l) × (h.size l ≡ Of n) × (h.sound (take (4 + n) l) ≡ true)
  unfolding look
  take-room l n e = take_by l (h.size l) n e

  tear-by : (l : List ℕ) (v : Size) → weigh h.sound l v ≡ Tear → 4 ≤ length l
  tear-by l NoHead e = let z : ◌≡◌ {A = ℕ} 0 1 = cc in absurd (omega arith)
  tear-by l NeedMore e = let z : ◌≡◌ {A = ℕ} 0 1 = cc in absurd (omega arith)
  tear-by l (Of m) e =
      let r : 4 + m ≤ length l = leb-true _ _ (settle-tear (leb (4 + m) (length l)) (h.sound (take (4 + m) l)) m e) in
      omega arith

  pub tear-room : (l : List ℕ) → look h l ≡ Tear → 4 ≤ length l
  unfolding look
  tear-room l e = tear-by l (h.size l) e

  -- ---- the recursion, as equations

  pub cut_from-drop : (k : ℕ) (l : List ℕ) → cut_from h k l ≡ cut h (drop k l)
  unfolding cut_from
  cut_from-drop zero [] = refl
  cut_from-drop (suc k) [] = refl
  cut_from-drop zero (x ∷ l) = refl
  cut_from-drop (suc k) (x ∷ l) = cut_from-drop k l

  cut-onward : (x : ℕ) (l : List ℕ) → cut h (x ∷ l) ≡ onward (look h (x ∷ l)) (x ∷ l) (λ k. cut_from h k l)
  unfolding cut_from
  cut-onward x l = refl

  pub cut-nil : cut h [] ≡ stop []
  unfolding cut_from
  cut-nil = refl

  pub cut-over : (l : List ℕ) → length l ≡ 0 → cut h l ≡ stop []
  cut-over [] e = cut-nil
  cut-over (x ∷ l) e = absurd (omega arith)

  pub cut-wait : (l : List ℕ) → look h l ≡ Wait → cut h l ≡ stop l
  cut-wait [] e = cut-nil
  cut-wait (x ∷ l) e = cut-onward x l ∙ rw e refl

  pub cut-skip : (l : List ℕ) → 0 < length l → look h l ≡ Skip → cut h l ≡ skip_one (cut h (drop 1 l))
  cut-skip [] n e = absurd (omega arith)
  cut-skip (x ∷ l) n e = cut-onward x l ∙ rw e refl

  pub cut-take : (n : ℕ) (l : List ℕ) → look h l ≡ Take n → cut h l ≡ take_one (take (4 + n) l) (cut h (drop (4 + n) l))
  cut-take n [] e = absurd (omega (arith, (take-room [] n e).0))
  cut-take n (x ∷ l) e =
      let q : 4 + n ≡ suc (3 + n) = omega arith in
      cut-onward x l ∙ rw (e, q, ← cut_from-drop (3 + n) l) refl

  pub cut-tear : (l : List ℕ) → look h l ≡ Tear → cut h l ≡ tear_one (get_or l 1 0) (cut h (drop 1 l))
  cut-tear [] e = absurd (omega (arith, tear-room [] e))
  cut-tear (x ∷ l) e = cut-onward x l ∙ rw e refl

  -- ---- conservation: every byte is skipped, in a frame that is carried out, or waiting

  abbrev weight : Cut → ℕ
  weight c = c.skipped + sizes c.pieces + length c.waiting

  weigh-on : (l : List ℕ) (v : Look) (go : ℕ → Cut) → 0 < length l → look h l ≡ v
      → ((k : ℕ) → k + 1 ≤ length l → k + 1 + weight (go k) ≡ length l) → weight (onward v l go) ≡ length l
  unfolding sizes
  weigh-on l Skip go p e ih = omega (arith, ih 0 (omega arith))
  weigh-on l Wait go p e ih = omega arith
  weigh-on l (Take n) go p e ih =
      let r = take-room l n e in
      let q : length (take (4 + n) l) ≡ 4 + n = length-take-le (4 + n) l r.0 in
      omega (arith, ih (3 + n) (omega (arith, r.0)))
  weigh-on l Tear go p e ih = omega (arith, ih 0 (omega arith))

  weigh-from : (l : List ℕ) (k : ℕ) → k ≤ length l → k + weight (cut_from h k l) ≡ length l
  unfolding cut_from sizes
  weigh-from [] k p = omega arith
  weigh-from (x ∷ l) zero p =
      rw zero-add (weigh-on (x ∷ l) (look h (x ∷ l)) (λ k. cut_from h k l) (omega arith) refl (λ k b. omega (arith, weigh-from l k (omega arith))))
  weigh-from (x ∷ l) (suc k) p = omega (arith, weigh-from l k (omega arith))

  pub conserved : (l : List ℕ) → (cut h l).skipped + sizes (cut h l).pieces + length (cut h l).waiting ≡ length l
  conserved l = rw zero-add at (weigh-from l 0 (omega arith))

  -- ---- every piece stands somewhere in the stream

  module _ (P : Piece → Type 0) where
    -- what the decisions on a stream say of its pieces
    abbrev Shown : List ℕ → Type 0
    Shown l = ((k n : ℕ) → look h (drop k l) ≡ Take n → P (Whole (take (4 + n) (drop k l)))) × ((k : ℕ) → look h (drop k l) ≡ Tear → P (Broken (get_or (drop k l) 1 0)))

    all-on : (l : List ℕ) (v : Look) (go : ℕ → Cut) → look h l ≡ v → Shown l → ((k : ℕ) → All P (go k).pieces) → All P (onward v l go).pieces
    unfolding All
    all-on l Skip go e s ih = ih 0
    all-on l Wait go e s ih = tt
    all-on l (Take n) go e s ih = (s.0 0 n e, ih (3 + n))
    all-on l Tear go e s ih = (s.1 0 e, ih 0)

    all_from : (l : List ℕ) (k : ℕ) → Shown l → All P (cut_from h k l).pieces
    unfolding cut_from All
    all_from [] k s = tt
    all_from (x ∷ l) zero s = all-on (x ∷ l) (look h (x ∷ l)) (λ k. cut_from h k l) refl s (λ k. all_from l k (λ j n e. s.0 (suc j) n e, λ j e. s.1 (suc j) e))
    all_from (x ∷ l) (suc k) s = all_from l k (λ j n e. s.0 (suc j) n e, λ j e. s.1 (suc j) e)

    pub all-pieces : (l : List ℕ) → ((k n : ℕ) → look h (drop k l) ≡ Take n → P (Whole (take (4 + n) (drop k l)))) → ((k : ℕ) → look h (drop k l) ≡ Tear → P (Broken (get_or (drop k l) 1 0)))
        → All P (cut h l).pieces
    all-pieces l f g = all_from l 0 (f, g)

  -- ---- what waits: exactly the fronts that the test of pending bytes accepts

  waits-wait : (l : List ℕ) → look h l ≡ Wait → waits h l ≡ true
  unfolding waits
  waits-wait l e = rw e (either (eqb (length l) 0))
    where
      either : (b : Bool) → (b || true) ≡ true
      either true = refl
      either false = refl

  waits-on : (l : List ℕ) (v : Look) (go : ℕ → Cut) → look h l ≡ v → ((k : ℕ) → waits h (go k).waiting ≡ true) → waits h (onward v l go).waiting ≡ true
  waits-on l Skip go e ih = ih 0
  waits-on l Wait go e ih = waits-wait l e
  waits-on l (Take n) go e ih = ih (3 + n)
  waits-on l Tear go e ih = ih 0

  waits-from : (l : List ℕ) (k : ℕ) → waits h (cut_from h k l).waiting ≡ true
  unfolding cut_from waits
  waits-from [] k = refl
  waits-from (x ∷ l) zero = waits-on (x ∷ l) (look h (x ∷ l)) (λ k. cut_from h k l) refl (λ k. waits-from l k)
  waits-from (x ∷ l) (suc k) = waits-from l k

  pub cut-waits : (l : List ℕ) → waits h (cut h l).waiting ≡ true
  cut-waits l = waits-from l 0

  waits-split : (l : List ℕ) (a : Bool) (v : Look) → eqb (length l) 0 ≡ a → look h l ≡ v → (a || is_wait v) ≡ true → cut h l ≡ stop l
  waits-split l true v p e t = rw (empty-is l p) cut-nil
  waits-split l false v p e t = cut-wait l (e ∙ wait-is v t)

  pub waits-cut : (l : List ℕ) → waits h l ≡ true → cut h l ≡ stop l
  unfolding waits
  waits-cut l t = waits-split l (eqb (length l) 0) (look h l) refl refl t

  bytes_on : (l : List ℕ) (v : Look) (go : ℕ → Cut) → Bytes l → ((k : ℕ) → Bytes (go k).waiting) → Bytes (onward v l go).waiting
  bytes_on l Skip go b ih = ih 0
  bytes_on l Wait go b ih = b
  bytes_on l (Take n) go b ih = ih (3 + n)
  bytes_on l Tear go b ih = ih 0

  bytes-from : (l : List ℕ) (k : ℕ) → Bytes l → Bytes (cut_from h k l).waiting
  unfolding cut_from
  bytes-from [] k b = b
  bytes-from (x ∷ l) zero b = bytes_on (x ∷ l) (look h (x ∷ l)) (λ k. cut_from h k l) b (λ k. bytes-from l k (λ i. b (suc i)))
  bytes-from (x ∷ l) (suc k) b = bytes-from l k (λ i. b (suc i))

  pub cut-bytes : (l : List ℕ) → Bytes l → Bytes (cut h l).waiting
  cut-bytes l b = bytes-from l 0 b

  -- ---- a frame that is carried out has at least four bytes, and is of bytes where the stream is

  pub fair-whole : (l : List ℕ) → Bytes l → (k n : ℕ) → look h (drop k l) ≡ Take n → Fair (Whole (take (4 + n) (drop k l)))
  fair-whole l b k n e =
      let m : length (take (4 + n) (drop k l)) ≡ 4 + n = length-take-le (4 + n) (drop k l) (take-room (drop k l) n e).0 in
      (omega arith, bytes_take (4 + n) (drop k l) (bytes_drop k l b))

  pub pieces-fair : (l : List ℕ) → Bytes l → All Fair (cut h l).pieces
  pieces-fair l b = all-pieces Fair l (fair-whole l b) (λ k e. tt)

  -- ---- what waits is shorter than every frame may be

  module _ (bound : ℕ) (under : Under h bound) where
    wait_by : (l : List ℕ) (v : Size) → h.size l ≡ v → weigh h.sound l v ≡ Wait → length l < bound
    wait_by l NoHead q e = let z : ◌≡◌ {A = ℕ} 0 1 = cc in absurd (omega arith)
    wait_by l NeedMore q e = under.early l q
    wait_by l (Of n) q e =
        omega (arith, leb-false (4 + n) (length l) (settle-wait (leb (4 + n) (length l)) (h.sound (take (4 + n) l)) n e), under.most l n q)

    pub wait-short : (l : List ℕ) → look h l ≡ Wait → length l < bound
    unfolding look
    wait-short l e = wait_by l (h.size l) refl e

    short-split : (l : List ℕ) (a : Bool) (v : Look) → eqb (length l) 0 ≡ a → look h l ≡ v → (a || is_wait v) ≡ true → length l < bound
    short-split l true v p e t = omega (arith, eqb-true (length l) 0 p, under.some)
    short-split l false v p e t = wait-short l (e ∙ wait-is v t)

    pub waits-short : (l : List ℕ) → waits h l ≡ true → length l < bound
    unfolding waits
    waits-short l t = short-split l (eqb (length l) 0) (look h l) refl refl t

    pub take_short : (l : List ℕ) (n : ℕ) → look h l ≡ Take n → 4 + n ≤ bound
    take_short l n e = under.most l n (take-room l n e).1

  -- ---- packets: a stream may be cut anywhere

  module _ (steady : Steady h) where
    more_by : (l more : List ℕ) (v : Size) → (weigh h.sound l v ≡ Wait → ⊥) → weigh h.sound (l ++ more) v ≡ weigh h.sound l v
    more_by l more NoHead w = refl
    more_by l more NeedMore w = refl
    more_by l more (Of n) w = more_of (leb (4 + n) (length l)) refl
      where
        more_of : (a : Bool) → leb (4 + n) (length l) ≡ a → weigh h.sound (l ++ more) (Of n) ≡ weigh h.sound l (Of n)
        more_of false q = absurd (w (rw q refl))
        more_of true q =
            let r : 4 + n ≤ length l = leb-true _ _ q in
            let p : leb (4 + n) (length (l ++ more)) ≡ true = le-leb (4 + n) (length (l ++ more)) (simp length-append (omega arith)) in
            rw (p, q, take-append-le (4 + n) l more r) refl

    -- a decision on a front is the decision on every stream that begins with it
    pub look-more : (l more : List ℕ) → 0 < length l → (look h l ≡ Wait → ⊥) → look h (l ++ more) ≡ look h l
    unfolding look
    look-more l more p w = rw (steady.stays l more p (λ e. w (rw e refl))) (more_by l more (h.size l) w)

    packet-on : (l more : List ℕ) (v : Look) (go further : ℕ → Cut) → 0 < length l → look h l ≡ v
        → ((k : ℕ) → k + 1 ≤ length l → further k ≡ and_then (go k) (cut h ((go k).waiting ++ more)))
        → cut h (l ++ more) ≡ onward (look h (l ++ more)) (l ++ more) further
        → cut h (l ++ more) ≡ and_then (onward v l go) (cut h ((onward v l go).waiting ++ more))
    packet-on l more Skip go further p e ih whole =
        let w : look h l ≡ Wait → ⊥ = λ q. let z : ◌≡◌ {A = ℕ} 0 1 = cc in omega arith in
        let f : look h (l ++ more) ≡ Skip = look-more l more p w ∙ e in
        whole ∙ rw (f, ih 0 (omega arith)) (simp add_assoc)
    packet-on l more Wait go further p e ih whole = rw zero-add refl
    packet-on l more (Take n) go further p e ih whole =
        let w : look h l ≡ Wait → ⊥ = λ q. let z : ◌≡◌ {A = ℕ} 0 1 = cc in omega arith in
        let f : look h (l ++ more) ≡ Take n = look-more l more p w ∙ e in
        let r = take-room l n e in
        whole ∙ rw (f, take-append-le (4 + n) l more r.0, ih (3 + n) (omega (arith, r.0))) refl
    packet-on l more Tear go further p e ih whole =
        let w : look h l ≡ Wait → ⊥ = λ q. let z : ◌≡◌ {A = ℕ} 0 1 = cc in omega arith in
        let f : look h (l ++ more) ≡ Tear = look-more l more p w ∙ e in
        let r = tear-room l e in
        whole ∙ rw (f, get_or-append l more 0 1 (omega arith), ih 0 (omega arith)) (simp add_assoc)

    packet-from : (l more : List ℕ) (k : ℕ) → k ≤ length l → cut_from h k (l ++ more) ≡ and_then (cut_from h k l) (cut h ((cut_from h k l).waiting ++ more))
    unfolding cut_from
    packet-from [] more k p = let e : k ≡ 0 = omega arith in rw (e, zero-add) refl
    packet-from (x ∷ l) more zero p =
        packet-on (x ∷ l) more (look h (x ∷ l)) (λ k. cut_from h k l) (λ k. cut_from h k (l ++ more)) (omega arith) refl (λ k b. packet-from l more k (omega arith)) refl
    packet-from (x ∷ l) more (suc k) p = packet-from l more k (omega arith)

    pub packets : (l more : List ℕ) → cut h (l ++ more) ≡ and_then (cut h l) (cut h ((cut h l).waiting ++ more))
    packets l more = packet-from l more 0 (omega arith)
