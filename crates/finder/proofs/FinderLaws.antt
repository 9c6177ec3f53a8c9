-- What the finder meets at a place, as a decision of the hunt, for the heads of any line.
use Prim.Native.Nat.{ℕ, ◌+◌, ◌≤◌, ◌<◌}
use mathlib.Core.Path.{◌≡◌, refl, sym, ap, ap₂, ◌∙◌}
use mathlib.Core.Logic.{◌⊎◌, inl, inr, ⊎_elim}
use mathlib.Core.List.{List, [], ◌∷◌}
use mathlib.Core.Bool.{Bool, true, not, ◌&&◌, and-true, and_assoc}
use native.Mathlib.Omega.{arith}
use lib.ListN.{length, get_or, drop}
use lib.Dec.{eqb}
use borrow.Author.Tests.{eqb-false, not-true}
use Rattle.wire.specs.Frames.{Heads, Look, Skip, Wait, Take, Tear, look, Passed}
use Rattle.wire.specs.declared.Size.TheVariants.{Of}
use Rattle.wire.specs.Serial.{Fixed, NotHead, fronted, ends_in_85, line_head, heads_of, Noise}
use Rattle.wire.specs.declared.Line.{Line}
use Rattle.std.proofs.Common.{take, ◌-◌, ◌≢◌, subst}
use Rattle.std.proofs.lemmas.List.Edits.{length-between}
use Rattle.std.proofs.lemmas.List.Recursion.{and_at}
use Rattle.std.specs.List.{list_all, fold, AllWithin}
use lib.Seq.{get_or-take, get_or-drop}
use Rattle.finder.specs.Finder.{Reaches, StandsAt, Finds}
use Rattle.finder.specs.declared.Seen.{Seen}
use Rattle.finder.specs.declared.Seen.TheVariants.{Frame, Torn, NoMore}
use Rattle.finder.specs.declared.Found.{Found}
use Rattle.wire.proofs.Stretches.{before-or-not, stretch-on}
use Rattle.wire.proofs.CutLaws.{look-unsaid}
use Rattle.wire.proofs.CutLaws as cuts
use Rattle.wire.proofs.SerialLaws.{heads-of, noise-passed, alone_at, told_at, candidate-waits, candidate-torn, candidate-frame}

-- ---- bytes that are no AA

abbrev pub is_quiet : ℕ → Bool
is_quiet b = not (eqb b 0xAA)

-- the test of all bytes, as a fold makes it
pub quiet-fold : (s : List ℕ) (a : Bool) → fold (λ (q : Bool) (b : ℕ). q && is_quiet b) a s ≡ (a && list_all is_quiet s)
quiet-fold [] a = sym (and-true a)
quiet-fold (b ∷ s) a = quiet-fold s (a && is_quiet b) ∙ and_assoc a (is_quiet b) (list_all is_quiet s)

module _ (l : List ℕ) (from at until : ℕ) (h : at ≤ until) (m : until ≤ length l) (p : Noise l from at) where
  abbrev rest : List ℕ
  rest = take (until - at) (drop at l)

  long : length rest ≡ until - at
  long = length-between l at until m

  there : (i : ℕ) → i < until - at → get_or rest i 0 ≡ get_or l (at + i) 0
  there i b = get_or-take (until - at) (drop at l) i 0 b ∙ get_or-drop at l i 0

  still : (k : ℕ) → k ≤ length rest → AllWithin (λ b. b ≢ 0xAA) rest 0 k → Noise l from (at + k)
  still k b a =
      let each : (i : ℕ) → at ≤ i → i < at + k → get_or l i 0 ≢ 0xAA =
      λ i c d. let e : at + (i - at) ≡ i = omega arith in rw e at (subst (λ (x : ℕ). x ≢ 0xAA) (there (i - at) (omega (arith, long))) (a (i - at) 0 (omega arith) (omega arith))) in
      stretch-on l _ from at (at + k) p (record { after = omega arith; inside = omega (arith, long); each = each })

  -- as many bytes as a test of all of them leaves quiet
  pub noise-quiet : list_all is_quiet rest ≡ true → Noise l from until
  noise-quiet e =
      let n : at + length rest ≡ until = omega (arith, long) in
      rw n at (still (length rest) (omega arith) (λ k d a b. eqb-false (get_or rest k d) 0xAA (not-true (eqb (get_or rest k d) 0xAA) (and_at (list_all is_quiet) is_quiet refl (λ _ _. refl) rest k d b e))))

-- a search that begins at another byte than AA goes on
pub reaches-on : (l : List ℕ) (from until at : ℕ) → Reaches l from until at → from < until → (get_or l from 0 ≡ 0xAA → ⊥) → from < at
reaches-on l from until at r h n =
    ⊎_elim (λ q. q)
    (λ q.
    let e : at ≡ from = omega (arith, r.noise.after) in
    ⊎_elim (λ w. absurd (omega arith)) (λ w. absurd (n (ap (λ (i : ℕ). get_or l i 0) (sym e) ∙ w))) r.stops) (before-or-not from at)

-- ---- at a place

module _ (k : Line) (l : List ℕ) (at : ℕ) where
  -- after bytes that are skipped come bytes that are no AA
  pub passed-noise : (from mid : ℕ) → Passed (heads_of k) l from mid → Noise l mid at → Passed (heads_of k) l from at
  passed-noise from mid p q =
      stretch-on l (λ i. look (heads_of k) (drop i l) ≡ Skip) from mid at p (rw (heads-of k) (noise-passed (line_head k) ends_in_85 l mid at q))

  module _ (aa : get_or l at 0 ≡ 0xAA) where
    pub look-alone : length l ≤ at + 1 → look (heads_of k) (drop at l) ≡ Wait
    look-alone h = rw (heads-of k) (look-unsaid (fronted (line_head k) ends_in_85) (drop at l) (alone_at (line_head k) l at aa h))

    pub look-headless : at + 1 < length l → line_head k (get_or l (at + 1) 0) ≡ NotHead → look (heads_of k) (drop at l) ≡ Skip
    look-headless two h = rw (heads-of k) (cuts.look-headless (fronted (line_head k) ends_in_85) (drop at l) (told_at (line_head k) l at aa two ∙ rw h refl))

-- ---- a candidate frame

pub record Candidate (k : Line) (l : List ℕ) (at n : ℕ) : Type 0 where
  pub aa : get_or l at 0 ≡ 0xAA
  pub two : at + 1 < length l
  pub head : line_head k (get_or l (at + 1) 0) ≡ Fixed n

module _ (k : Line) (l : List ℕ) (at n : ℕ) (c : Candidate k l at n) where
  said : (fronted (line_head k) ends_in_85).size (drop at l) ≡ Of n
  said = told_at (line_head k) l at c.aa c.two ∙ rw c.head refl

  pub scan-waits : length l ≤ at + 3 + n → look (heads_of k) (drop at l) ≡ Wait
  scan-waits h = rw (heads-of k) (candidate-waits (line_head k) l at n said (omega (arith, c.two)) h)

  -- its last place
  module _ (place : ℕ) (e : place ≡ at + 3 + n) (h : at + 3 + n < length l) where
    pub scan-torn : (get_or l place 0 ≡ 0x85 → ⊥) → look (heads_of k) (drop at l) ≡ Tear
    scan-torn b = rw (heads-of k) (candidate-torn (line_head k) l at n said place e h b)

    pub scan-frame : get_or l place 0 ≡ 0x85 → look (heads_of k) (drop at l) ≡ Take n
    scan-frame b = rw (heads-of k) (candidate-frame (line_head k) l at n said place e h b)

-- ---- nothing found

module _ (k : Line) (l : List ℕ) (from until at : ℕ) (seen : Seen) (e : seen ≡ NoMore) (p : Passed (heads_of k) l from at) where
  pub finds-end : at ≡ until → Finds (heads_of k) l from until (record { seen = seen; at = at })
  finds-end w = rw e (record { passed = p; stands = inl w })

  pub finds-waiting : at < until → look (heads_of k) (drop at l) ≡ Wait → Finds (heads_of k) l from until (record { seen = seen; at = at })
  finds-waiting b w = rw e (record { passed = p; stands = inr (b, w) })

-- ---- what was found, for any heads

-- what a decision shows to the finder, which stops at none that skips
abbrev seen_by : Look → Seen
seen_by Skip = NoMore
seen_by Wait = NoMore
seen_by (Take n) = Frame n
seen_by Tear = Torn

module _ (h : Heads) (l : List ℕ) (from until : ℕ) where
  module _ (found : Found) (f : Finds h l from until found) where
    pub shown-frame : (n : ℕ) → found.seen ≡ Frame n → look h (drop found.at l) ≡ Take n
    shown-frame n e = let w = rw e at f.stands in w.1

    pub shown-torn : found.seen ≡ Torn → look h (drop found.at l) ≡ Tear
    shown-torn e = let w = rw e at f.stands in w.1

    pub shown-nothing : found.seen ≡ NoMore → (until ≤ found.at) ⊎ (look h (drop found.at l) ≡ Wait)
    shown-nothing e = ⊎_elim (λ w. inl (omega arith)) (λ w. inr w.1) (rw e at f.stands)

  -- the promise leaves no choice: at the place found the look is no Skip, or the search ends there

  up-to : (v : Seen) (at : ℕ) → StandsAt h v l at until → at ≤ until
  up-to (Frame n) at s = omega (arith, s.0)
  up-to Torn at s = omega (arith, s.0)
  up-to NoMore at s = ⊎_elim (λ w. omega arith) (λ w. omega (arith, w.0)) s

  no-skip : (v : Seen) (at : ℕ) → StandsAt h v l at until → at < until → look h (drop at l) ≡ Skip → ⊥
  no-skip (Frame n) at s b e = let q : look h (drop at l) ≡ Take n = s.1 in let z : ◌≡◌ {A = ℕ} 0 1 = cc in omega arith
  no-skip Torn at s b e = let q : look h (drop at l) ≡ Tear = s.1 in let z : ◌≡◌ {A = ℕ} 0 1 = cc in omega arith
  no-skip NoMore at s b e = ⊎_elim (λ w. omega arith) (λ w. let q : look h (drop at l) ≡ Wait = w.1 in let z : ◌≡◌ {A = ℕ} 0 1 = cc in omega arith) s

  seen-is : (v : Seen) (at : ℕ) → StandsAt h v l at until → at < until → v ≡ seen_by (look h (drop at l))
  seen-is (Frame n) at s b = rw s.1 refl
  seen-is Torn at s b = rw s.1 refl
  seen-is NoMore at s b = ⊎_elim (λ w. absurd (omega arith)) (λ w. rw w.1 refl) s

  seen_end : (v : Seen) (at : ℕ) → StandsAt h v l at until → until ≤ at → v ≡ NoMore
  seen_end (Frame n) at s b = absurd (omega (arith, s.0))
  seen_end Torn at s b = absurd (omega (arith, s.0))
  seen_end NoMore at s b = refl

  same_seen : (v w : Seen) (at : ℕ) → StandsAt h v l at until → StandsAt h w l at until → v ≡ w
  same_seen v w at s t = ⊎_elim (λ b. seen-is v at s b ∙ sym (seen-is w at t b)) (λ b. seen_end v at s b ∙ sym (seen_end w at t b)) (before-or-not at until)

  not-before : (r q : Found) → Finds h l from until r → Finds h l from until q → r.at < q.at → ⊥
  not-before r q f g b =
      no-skip r.seen r.at f.stands (omega (arith, up-to q.seen q.at g.stands)) (g.passed.each r.at f.passed.after b)

  pub finds-once : (r q : Found) → Finds h l from until r → Finds h l from until q → r ≡ q
  finds-once r q f g =
      let e : r.at ≡ q.at = ⊎_elim (λ b. absurd (not-before r q f g b)) (λ b. ⊎_elim (λ c. absurd (not-before q r g f c)) (λ c. omega arith) (before-or-not q.at r.at)) (before-or-not r.at q.at) in
      let t : StandsAt h q.seen l r.at until = rw e g.stands in
      ap₂ (λ (s : Seen) (a : ℕ). record { seen = s; at = a }) (same_seen r.seen q.seen r.at f.stands t) e
