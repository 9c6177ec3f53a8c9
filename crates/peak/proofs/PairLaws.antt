-- A reading keeps every pair in range: finite, smallest not above greatest.
use Rattle.std.proofs.Common.{◌≡◌, ℕ, zero, suc, ◌+◌, ◌*◌, ◌<◌, ◌≤◌, Bool, true, false, cond, ◌&&◌, leb, List, [], ◌∷◌, length, get_or, sym, refl, ap, ◌∙◌, arith, ltb-true, le-leb, leb-true}
use Rattle.wire.specs.Numbers.{word_at}
use Rattle.peak.specs.Pairs.{finite, key, less, Pair, no_pair, seen, seen_all, all_finite, pair_fits}

pub both : (a b : Bool) → (a && b) ≡ true → (a ≡ true) × (b ≡ true)
both true true e = (refl, refl)
both true false e = let z : ◌≡◌ {A = ℕ} 0 1 = cc in absurd (omega arith)
both false b e = let z : ◌≡◌ {A = ℕ} 0 1 = cc in absurd (omega arith)

-- a pair that fits with a reading seen, as facts
pub record Fit (p : Pair) : Type 0 where
  pub great : finite p.greatest ≡ true
  pub small : finite p.smallest ≡ true
  pub order : key p.smallest ≤ key p.greatest

pub fit : (p : Pair) → pair_fits true p ≡ true → Fit p
fit p e =
    let w = both (finite p.greatest && finite p.smallest) (leb (key p.smallest) (key p.greatest)) e in
    let v = both (finite p.greatest) (finite p.smallest) w.0 in
    record { great = v.0; small = v.1; order = leb-true _ _ w.1 }

pub unfit : (p : Pair) → Fit p → pair_fits true p ≡ true
unfit p f = rw (f.great, f.small, le-leb (key p.smallest) (key p.greatest) f.order) refl

-- ---- one channel

later-by : (p : Pair) (x : ℕ) → Fit p → finite x ≡ true → (a b : Bool) → less p.greatest x ≡ a → less x p.smallest ≡ b
    → Fit (record { greatest = cond a x p.greatest; smallest = cond b x p.smallest })
later-by p x f h true true ha hb = record { great = h; small = h; order = omega arith }
later-by p x f h true false ha hb = record { great = h; small = f.small; order = omega (arith, ltb-true (key p.greatest) (key x) ha, f.order) }
later-by p x f h false true ha hb = record { great = f.great; small = h; order = omega (arith, ltb-true (key x) (key p.smallest) hb, f.order) }
later-by p x f h false false ha hb = f

pub seen-fits : (reading : Bool) (p : Pair) (x : ℕ) → pair_fits reading p ≡ true → finite x ≡ true → pair_fits true (seen reading p x) ≡ true
seen-fits false p x e h = unfit (seen false p x) (record { great = h; small = h; order = omega arith })
seen-fits true p x e h = unfit (seen true p x) (later-by p x (fit p e) h (less p.greatest x) (less x p.smallest) refl refl)

choose-lt : (t : Bool) (x y n : ℕ) → x < n → y < n → cond t x y < n
choose-lt true x y n a b = a
choose-lt false x y n a b = b

pub seen-word : (reading : Bool) (p : Pair) (x n : ℕ) → x < n → p.greatest < n → p.smallest < n → ((seen reading p x).greatest < n) × ((seen reading p x).smallest < n)
seen-word false p x n h g s = (h, h)
seen-word true p x n h g s = (choose-lt (less p.greatest x) x p.greatest n h g, choose-lt (less x p.smallest) x p.smallest n h s)

-- ---- all channels

pub length_seen : (reading : Bool) (pairs : List Pair) (s : List ℕ) (at : ℕ) → length (seen_all reading pairs s at) ≡ length pairs
unfolding seen_all
length_seen reading [] s at = refl
length_seen reading (p ∷ pairs) s at = ap suc (length_seen reading pairs s (at + 4))

next : (at i : ℕ) → at + 4 + 4 * i ≡ at + 4 * suc i
next at i = omega arith

pub seen-at : (reading : Bool) (pairs : List Pair) (s : List ℕ) (at i : ℕ) → i < length pairs
    → get_or (seen_all reading pairs s at) i no_pair ≡ seen reading (get_or pairs i no_pair) (word_at s (at + 4 * i))
unfolding seen_all
seen-at reading [] s at i h = absurd (omega arith)
seen-at reading (p ∷ pairs) s at zero h = ap (λ (k : ℕ). seen reading p (word_at s k)) (let z : at ≡ at + 4 * 0 = omega arith in z)
seen-at reading (p ∷ pairs) s at (suc i) h = seen-at reading pairs s (at + 4) i (omega arith) ∙ ap (λ (k : ℕ). seen reading (get_or pairs i no_pair) (word_at s k)) (next at i)

pub finite-at : (n : ℕ) (s : List ℕ) (at i : ℕ) → all_finite n s at ≡ true → i < n → finite (word_at s (at + 4 * i)) ≡ true
unfolding all_finite
finite-at zero s at i e h = absurd (omega arith)
finite-at (suc n) s at zero e h = ap (λ (k : ℕ). finite (word_at s k)) (let z : at + 4 * 0 ≡ at = omega arith in z) ∙ (both (finite (word_at s at)) (all_finite n s (at + 4)) e).0
finite-at (suc n) s at (suc i) e h =
    ap (λ (k : ℕ). finite (word_at s k)) (sym (next at i)) ∙ finite-at n s (at + 4) i (both (finite (word_at s at)) (all_finite n s (at + 4)) e).1 (omega arith)
