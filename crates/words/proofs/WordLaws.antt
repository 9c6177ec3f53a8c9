-- Words of bytes, low byte first, and parts of a list written over each other.
use Prim.Native.Nat.{ℕ, zero, suc, ◌+◌, ◌-◌, ◌/◌, ◌≤◌, ◌<◌}
use mathlib.Core.Path.{◌≡◌, refl, sym, ap, ◌∙◌}
use mathlib.Core.Logic.{◌⊎◌, ⊎_elim}
use mathlib.Core.List.{List, [], ◌∷◌, ◌++◌, append_assoc}
use native.Mathlib.Nat.{add-zero, add_assoc}
use native.Mathlib.Omega.{arith}
use lib.ListN.{length, get_or, take, drop, set, replicate, length-append, length-drop, length-replicate, take-append-drop}
use lib.Seq.{take-take, take-add, length-take-le, take-append-le, drop-append-add, drop-drop, take_all, take_at, drop_at, set-set}
use Rattle.wire.specs.Numbers.{bytes_at, put}
use Rattle.wire.proofs.NumberLaws.{part-is}
use Rattle.wire.proofs.PutLaws.{put-nil, put-put, length-put, put_one, put_two, put_three}
use Rattle.low.specs.Low.{low_bytes}

-- ---- parts written over each other

module _ (d : List ℕ) (at : ℕ) where
  -- a part written over a part no longer than itself
  put-again : (s t : List ℕ) → at + length t ≤ length d → length s ≤ length t → put (put d at s) at t ≡ put d at t
  unfolding put
  put-again s t h k =
      let n : length (take at d) ≡ at = length-take-le at d (omega arith) in
      let m : at + length t ≡ length (take at d) + (length s + (length t - length s)) = omega (arith, n) in
      let f : drop (at + length t) (take at d ++ (s ++ drop (at + length s) d)) ≡ drop (at + length t) d =
      ap (λ (j : ℕ). drop j (take at d ++ (s ++ drop (at + length s) d))) m
      ∙ drop-append-add (take at d) (s ++ drop (at + length s) d) (length s + (length t - length s))
      ∙ drop-append-add s (drop (at + length s) d) (length t - length s)
      ∙ drop-drop (length t - length s) (at + length s) d
      ∙ ap (λ (j : ℕ). drop j d) (let z : at + length s + (length t - length s) ≡ at + length t = omega arith in z) in
      rw (take_at (take at d) (s ++ drop (at + length s) d) at n, f) refl

  -- the second of two neighbours written first
  put-before : (s t : List ℕ) → at + length s ≤ length d → put (put d (at + length s) t) at s ≡ put d at (s ++ t)
  unfolding put
  put-before s t h =
      let n : length (take (at + length s) d) ≡ at + length s = length-take-le (at + length s) d h in
      let r : List ℕ = t ++ drop (at + length s + length t) d in
      let front : take at (take (at + length s) d ++ r) ≡ take at d =
      take-append-le at (take (at + length s) d) r (omega (arith, n)) ∙ take-take at (at + length s) d (omega arith) in
      rw (front, drop_at (take (at + length s) d) r (at + length s) n, length-append s t, ← add_assoc at (length s) (length t)) (simp append_assoc)

-- a part written over a longer one
pub put-within : (d : List ℕ) (at : ℕ) (z p : List ℕ) → at + length z ≤ length d → length p ≤ length z → put (put d at z) at p ≡ put d at (p ++ drop (length p) z)
put-within d at z p h k =
    let n : length (take (length p) z) ≡ length p = length-take-le (length p) z k in
    let r : List ℕ = drop (length p) z in
    let x : List ℕ = put d (at + length p) r in
    let long : length x ≡ length d = length-put d (at + length p) r (rw (length-drop (length p) z) (omega arith)) in
    let apart : put d at z ≡ put x at (take (length p) z) =
    ap (put d at) (sym (take-append-drop (length p) z)) ∙ sym (put-before d at (take (length p) z) r (omega (arith, n))) ∙ ap (λ (j : ℕ). put (put d (at + j) r) at (take (length p) z)) n in
    ap (λ (l : List ℕ). put l at p) apart ∙ put-again x at (take (length p) z) p (omega (arith, long)) (omega (arith, n)) ∙ put-before d at p r (omega arith)

-- the rest of a list, from a place on that is written already
put-over : (d : List ℕ) (at : ℕ) (p : List ℕ) (m k : ℕ) → at + length p ≤ length d → k ≤ m → m ≤ length p → put (put d at (take m p)) (at + k) (drop k p) ≡ put d at p
put-over d at p m k h a b =
    let one : length (take k p) ≡ k = length-take-le k p (omega arith) in
    let all : length (take m p) ≡ m = length-take-le m p b in
    let x : List ℕ = put d at (take k p) in
    let y : List ℕ = drop k (take m p) in
    let split : take m p ≡ take k p ++ y = sym (take-append-drop k (take m p)) ∙ ap (λ (l : List ℕ). l ++ y) (take-take k m p a) in
    let lower : put d at (take m p) ≡ put x (at + k) y =
    ap (put d at) split ∙ sym (put-put d at (take k p) y (omega (arith, one))) ∙ ap (λ (j : ℕ). put x (at + j) y) one in
    let long : length x ≡ length d = length-put d at (take k p) (omega (arith, one)) in
    ap (λ (l : List ℕ). put l (at + k) (drop k p)) lower
    ∙ put-again x (at + k) y (drop k p) (rw (long, length-drop k p) (omega arith)) (rw (length-drop k (take m p), all, length-drop k p) (omega arith))
    ∙ ap (λ (j : ℕ). put x (at + j) (drop k p)) (sym one)
    ∙ put-put d at (take k p) (drop k p) (omega (arith, one))
    ∙ ap (put d at) (take-append-drop k p)

-- ---- a part written by its first and its last word

module _ (d : List ℕ) (at : ℕ) (p : List ℕ) (h : at + length p ≤ length d) where
  first_word : (k : ℕ) → k ≤ length p → bytes_at k p 0 ≡ take k p
  first_word k a = part-is k p 0 (omega arith)

  last_word : (k : ℕ) → k ≤ length p → bytes_at k p (length p - k) ≡ drop (length p - k) p
  last_word k a = part-is k p (length p - k) (omega arith) ∙ take_all k (drop (length p - k) p) (rw (length-drop (length p - k) p) (omega arith))

  pub put-ends : (k : ℕ) → k ≤ length p → length p ≤ k + k → put (put d at (bytes_at k p 0)) (at + length p - k) (bytes_at k p (length p - k)) ≡ put d at p
  put-ends k a b =
      let e : at + length p - k ≡ at + (length p - k) = omega arith in
      rw (e, first_word k a, last_word k a) (put-over d at p k (length p - k) h (omega arith) a)

  -- with the second word written before them
  put-three-words : (k : ℕ) → k + k ≤ length p → length p ≤ k + k + k
      → put (put (put d (at + k) (bytes_at k p k)) at (bytes_at k p 0)) (at + length p - k) (bytes_at k p (length p - k)) ≡ put d at p
  put-three-words k a b =
      let e : at + length p - k ≡ at + (length p - k) = omega arith in
      let n : length (take k p) ≡ k = length-take-le k p (omega arith) in
      let two : put (put d (at + k) (bytes_at k p k)) at (take k p) ≡ put d at (take (k + k) p) =
      ap (λ (j : ℕ). put (put d (at + j) (bytes_at k p k)) at (take k p)) (sym n)
      ∙ put-before d at (take k p) (bytes_at k p k) (omega (arith, n))
      ∙ ap (put d at) (ap (λ (l : List ℕ). take k p ++ l) (part-is k p k (omega arith)) ∙ sym (take-add k k p)) in
      rw (e, first_word k (omega arith), last_word k (omega arith), two) (put-over d at p (k + k) (length p - k) h (omega arith) a)

-- two words read and stored
pub two-words : (x y z : List ℕ) (i j : ℕ) (a a' b b' : List ℕ) → a ≡ a' → y ≡ put x i a → b ≡ b' → z ≡ put y j b → z ≡ put (put x i a') j b'
two-words x y z i j a a' b b' e f g h = h ∙ rw (f, e, g) refl

-- ---- fewer than four bytes: the first, the middle and the last

pub put-three-bytes : (d : List ℕ) (at : ℕ) (p : List ℕ) → at + length p ≤ length d → 0 < length p → length p < 4
    → set (set (set d at (get_or p 0 0)) (at + length p / 2) (get_or p (length p / 2) 0)) (at + length p - 1) (get_or p (length p - 1) 0) ≡ put d at p
put-three-bytes d at [] h a b = absurd (omega arith)
put-three-bytes d at (x ∷ []) h a b =
    let e : at + 1 - 1 ≡ at = omega arith in
    rw (add-zero at, e, set-set (set d at x) at x x, set-set d at x x) (put_one d at x (omega arith))
put-three-bytes d at (x ∷ y ∷ []) h a b =
    let e : at + 2 - 1 ≡ at + 1 = omega arith in
    rw (e, set-set) (put_two d at x y h)
put-three-bytes d at (x ∷ y ∷ z ∷ []) h a b =
    let e : at + 3 - 1 ≡ at + 2 = omega arith in
    rw e (put_three d at x y z h)
put-three-bytes d at (x ∷ y ∷ z ∷ v ∷ p) h a b = absurd (omega arith)

pub put-none : (d : List ℕ) (at : ℕ) (p : List ℕ) → length p ≡ 0 → d ≡ put d at p
put-none d at [] h = sym (put-nil d at)
put-none d at (x ∷ p) h = absurd (omega arith)

-- ---- a part of one to three words, x being the buffer behind the test for a gap

module _ (d : List ℕ) (at : ℕ) (p : List ℕ) (h : at + length p ≤ length d) (k : ℕ) (x : List ℕ)
    (w : ((k < length p - k) × (x ≡ put d (at + k) (bytes_at k p k))) ⊎ ((length p - k ≤ k) × (x ≡ d))) where
  pub gap-put : k ≤ length p → length p ≤ k + k + k → put (put x at (bytes_at k p 0)) (at + length p - k) (bytes_at k p (length p - k)) ≡ put d at p
  gap-put a b = ⊎_elim (λ q. rw q.1 (put-three-words d at p h k (omega (arith, q.0)) b)) (λ q. rw q.1 (put-ends d at p h k a (omega (arith, q.0)))) w

-- ---- eight to 24 zeros

abbrev none : List ℕ
none = low_bytes 8 0

zeros-at : (n i : ℕ) → ◌≡◌ {A = ℕ} (get_or (replicate n 0) i 0) 0
zeros-at zero i = refl
zeros-at (suc n) zero = refl
zeros-at (suc n) (suc i) = zeros-at n i

zeros-part : (n at : ℕ) → bytes_at 8 (replicate n 0) at ≡ none
zeros-part n at = simp zeros-at

module _ (d : List ℕ) (at end : ℕ) (room : end ≤ length d) (x : List ℕ)
    (w : ((16 < end - at) × (x ≡ put (put d at none) (at + 8) none)) ⊎ ((end - at ≤ 16) × (x ≡ put d at none))) where
  pub clear-put : at + 8 ≤ end → end ≤ at + 24 → put x (end - 8) none ≡ put d at (replicate (end - at) 0)
  clear-put a b =
      let z : List ℕ = replicate (end - at) 0 in
      let n : length z ≡ end - at = length-replicate (end - at) 0 in
      let e : end - 8 ≡ at + length z - 8 = omega (arith, n) in
      let first : bytes_at 8 z 0 ≡ none = zeros-part (end - at) 0 in
      let last : bytes_at 8 z (length z - 8) ≡ none = zeros-part (end - at) (length z - 8) in
      let second : bytes_at 8 z 8 ≡ none = zeros-part (end - at) 8 in
      ⊎_elim
      (λ q.
      let swap : put (put d at none) (at + 8) none ≡ put (put d (at + 8) none) at none = put-put d at none none (omega arith) ∙ sym (put-before d at none none (omega arith)) in
      let all : put (put (put d (at + 8) none) at none) (at + length z - 8) none ≡ put d at z =
      rw (second, first, last) at (put-three-words d at z (omega (arith, n)) 8 (omega (arith, n, q.0)) (omega (arith, n))) in
      rw (q.1, swap, e) all)
      (λ q.
      let all : put (put d at none) (at + length z - 8) none ≡ put d at z = rw (first, last) at (put-ends d at z (omega (arith, n)) 8 (omega (arith, n)) (omega (arith, n, q.0))) in
      rw (q.1, e) all)
      w
