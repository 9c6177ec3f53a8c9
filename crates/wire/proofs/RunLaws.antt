-- Laws of a hunt, for any heads and any board: each decision as an equation, packets, and two boards that agree.
use Prim.Native.Nat.{ℕ, ◌+◌}
use mathlib.Core.Path.{◌≡◌, refl, sym, ap₂, ◌∙◌}
use mathlib.Core.List.{List, [], ◌∷◌, ◌++◌, append_assoc}
use native.Mathlib.Nat.{zero-add, add_assoc}
use lib.ListN.{get_or, take, drop}
use Rattle.wire.specs.Frames.{Heads, Wait, Take, Tear, look, Piece, Whole, Broken, All, cut, skips}
use Rattle.wire.specs.Run.{Run, runs, Hunted, hunt, halt, ahead}
use Rattle.wire.proofs.CutLaws.{Steady, cut-wait, cut-take, cut-tear, packets}

module _ (S A : Type 0) where
  pub ahead_none : (h : Hunted S A) → ahead [] 0 h ≡ h
  ahead_none h = rw zero-add refl

  pub ahead-ahead : (a b : List A) (k m : ℕ) (h : Hunted S A) → ahead a k (ahead b m h) ≡ ahead (a ++ b) (k + m) h
  ahead-ahead a b k m h = rw (append_assoc a b h.said, add_assoc k m h.skipped) refl

  module _ (heads : Heads) (answer : S → Piece → Run S A) where
    pub hunt-nil : (s : S) → hunt heads answer s [] ≡ halt s []
    unfolding hunt runs
    hunt-nil s = refl

    pub hunt-wait : (s : S) (l : List ℕ) → look heads l ≡ Wait → hunt heads answer s l ≡ halt s l
    unfolding hunt runs
    hunt-wait s l e = rw (cut-wait heads l e) refl

    pub hunt-pass : (s : S) (l g : List ℕ) (k : ℕ) → cut heads l ≡ skips k (cut heads g) → hunt heads answer s l ≡ ahead [] k (hunt heads answer s g)
    unfolding hunt
    hunt-pass s l g k e = rw e refl

    pub hunt-take : (s : S) (n : ℕ) (l : List ℕ) → look heads l ≡ Take n
        → let a = answer s (Whole (take (4 + n) l)) in hunt heads answer s l ≡ ahead a.said 0 (hunt heads answer a.state (drop (4 + n) l))
    unfolding hunt runs
    hunt-take s n l e = rw (cut-take heads n l e, zero-add) refl

    pub hunt-tear : (s : S) (l : List ℕ) → look heads l ≡ Tear
        → let a = answer s (Broken (get_or l 1 0)) in hunt heads answer s l ≡ ahead a.said 1 (hunt heads answer a.state (drop 1 l))
    unfolding hunt runs
    hunt-tear s l e = rw (cut-tear heads l e) refl

    -- the pieces of one stream and then those of another
    pub runs_append : (s : S) (ps qs : List Piece)
        → runs answer s (ps ++ qs) ≡ record { state = (runs answer (runs answer s ps).state qs).state; said = (runs answer s ps).said ++ (runs answer (runs answer s ps).state qs).said }
    unfolding runs
    runs_append s [] qs = refl
    runs_append s (p ∷ ps) qs = rw (runs_append (answer s p).state ps qs) (simp append_assoc)

    pub hunt-packets : Steady heads → (s : S) (l more : List ℕ)
        → let a = hunt heads answer s l in hunt heads answer s (l ++ more) ≡ ahead a.said a.skipped (hunt heads answer a.state (a.waiting ++ more))
    unfolding hunt
    hunt-packets steady s l more = rw (packets heads steady l more, runs_append) refl

    -- what was found out on a front holds on every stream that begins with it
    pub hunt-further : Steady heads → (s b : S) (h g more : List ℕ) (said : List A) (k : ℕ) → hunt heads answer s h ≡ ahead said k (hunt heads answer b g)
        → hunt heads answer s (h ++ more) ≡ ahead said k (hunt heads answer b (g ++ more))
    hunt-further steady s b h g more said k e =
        let x = hunt heads answer b g in
        hunt-packets steady s h more
        ∙ rw (e, hunt-packets steady b g more) (sym (ahead-ahead said x.said k x.skipped (hunt heads answer x.state (x.waiting ++ more))))

    -- a property of states that the answer to every fair piece keeps
    module _ (Keeps : S → Type 0) (Fair : Piece → Type 0) (kept : (s : S) (p : Piece) → Fair p → Keeps s → Keeps (answer s p).state) where
      pub runs-keep : (s : S) (ps : List Piece) → All Fair ps → Keeps s → Keeps (runs answer s ps).state
      unfolding All runs
      runs-keep s [] f k = k
      runs-keep s (p ∷ ps) f k = runs-keep (answer s p).state ps f.1 (kept s p f.0 k)

    -- two states that agree say the same, as long as no piece tells them apart
    module _ (Agree : S → S → Type 0) (Quiet : S → S → Piece → Type 0)
        (same : (s t : S) (p : Piece) → Agree s t → Quiet s t p → ((answer s p).said ≡ (answer t p).said) × Agree (answer s p).state (answer t p).state) where
      unfoldable pub AllQuiet : S → S → List Piece → Type 0
      AllQuiet s t [] = Unit {0}
      AllQuiet s t (p ∷ ps) = Quiet s t p × AllQuiet (answer s p).state (answer t p).state ps

      pub runs-agree : (s t : S) (ps : List Piece) → Agree s t → AllQuiet s t ps → ((runs answer s ps).said ≡ (runs answer t ps).said) × Agree (runs answer s ps).state (runs answer t ps).state
      unfolding AllQuiet runs
      runs-agree s t [] a q = (refl, a)
      runs-agree s t (p ∷ ps) a q =
          let x = same s t p a q.0 in
          let y = runs-agree (answer s p).state (answer t p).state ps x.1 q.1 in
          (ap₂ (◌++◌) x.0 y.0, y.1)
