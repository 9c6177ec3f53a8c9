-- What a reading stores, channel by channel, is what the definitions say over patterns.
use Prim.Native.Nat.{ℕ, zero, suc, ◌+◌, ◌*◌, ◌%◌, ◌≤◌, ◌<◌, max}
use mathlib.Core.Path.{◌≡◌, refl, sym, ap, ap₂, subst, ◌∙◌}
use mathlib.Core.Bool.{Bool, true, false, cond, ◌&&◌, and_assoc, and-true}
use mathlib.Core.List.{List, [], ◌∷◌, ◌++◌, map, append_assoc, append-nil}
use native.Mathlib.Nat.{add-zero, zero-add, add_assoc, le_antisymm}
use native.Mathlib.Numerals.{add-one}
use native.Mathlib.Omega.{arith}
use lib.ListN.{length, get_or, set, take, drop, take-append-drop, length-append, length-set, drop_of_length-le}
use lib.Seq.{sets, get_or-set_same, get_or-set_other, drop-drop, length-take-le, get_or-append-add, get_or-drop, drop-cons}
use lib.Dec.{ltb, eqb}
use lib.Bits.{bit_or, or_lt}
use borrow.Author.Tests.{eqb-true, eqb-false}
use Rattle.std.proofs.lemmas.List.FromFn.{fill_by_all}
use Rattle.wire.specs.Numbers.{Bytes, word_at, bytes4, bytes_at, put}
use Rattle.wire.proofs.NumberLaws.{part-is, part-part, length_part}
use Rattle.wire.proofs.PutLaws.{put-nil, put-put, length-put, put-sets}
use Rattle.peak.specs.Pairs.{Pair, no_pair, finite, less, seen, seen_all, all_finite, pair_fits, pair_at, pairs_at, pair_bytes, pairs_bytes}
use Rattle.peak.specs.Floats.{peak_of, is_raised, is_lowered}
use Rattle.peak.specs.declared.Peak.{Peak}
use Rattle.peak.proofs.Order.{bits_back, float-number}
use Rattle.peak.proofs.Patterns.{max-below}
use Rattle.peak.proofs.PairLaws.{both, fit, seen-at}
use Rattle.record.specs.Record.{Record, with_flags, with_reading, with_pairs}
use Rattle.record.specs.Layout.{record_size, channels, at_flags, at_pairs, nibble, bit_of, bytes_of, record_of}
use Rattle.record.specs.InPlace.{Sound}
use Rattle.record.specs.Reading.{reading_of}
use Rattle.record.proofs.Choices.{switch}
use Rattle.record.proofs.Parts.{word_lt, word-at}
use Rattle.record.proofs.Pieces.{pairs-long, pairs-get, pairs-many}
use Rattle.record.proofs.Lens.{long, get_flags, set-flags}
use Rattle.reading.specs.declared.Decoded.{Decoded}
use Rattle.reading.specs.Decoded.{decoded_at, There, AllNumbers, words_at, finite_all, no_peak, stored, seen_at, seen_up_to}

-- ---- the values of a reading

pub finite-all : (n : ℕ) (s : List ℕ) (at : ℕ) → finite_all (words_at n s at) ≡ all_finite n s at
unfolding finite_all all_finite
finite-all zero s at = refl
finite-all (suc n) s at = ap (λ (t : Bool). finite (word_at s at) && t) (finite-all n s (at + 4))

pub finite-of : (x : List ℕ) (k : ℕ) → finite_all x ≡ true → k < length x → finite (get_or x k 0) ≡ true
unfolding finite_all
finite-of [] k e h = absurd (let z : ⊥ = omega arith in z)
finite-of (x ∷ xs) zero e h = (both (finite x) (finite_all xs) e).0
finite-of (x ∷ xs) (suc k) e h = finite-of xs k (both (finite x) (finite_all xs) e).1 (omega arith)

-- the values that are left
pub finite-more : (x : List ℕ) (most k : ℕ) → k < length x
    → (ltb most 0x7F800000 && finite_all (drop k x)) ≡ (ltb (max most (get_or x k 0 % 0x80000000)) 0x7F800000 && finite_all (drop (k + 1) x))
unfolding finite_all
finite-more x most k h = rw (drop-cons x k 0 h, add-one k, max-below most (get_or x k 0 % 0x80000000) 0x7F800000) (simp and_assoc)

pub finite-none : (x : List ℕ) (most k : ℕ) → length x ≤ k → (ltb most 0x7F800000 && finite_all (drop k x)) ≡ ltb most 0x7F800000
unfolding finite_all
finite-none x most k h = rw (drop_of_length-le x {i = k} h) (and-true _)

word_of : (n : ℕ) (s : List ℕ) (at k : ℕ) → k < n → get_or (words_at n s at) k 0 ≡ word_at s (at + 4 * k)
word_of zero s at k h = absurd (let z : ⊥ = omega arith in z)
word_of (suc n) s at zero h = let e : at ≡ at + 4 * 0 = omega arith in ap (word_at s) e
word_of (suc n) s at (suc k) h = let e : at + 4 + 4 * k ≡ at + 4 * suc k = omega arith in word_of n s (at + 4) k (omega arith) ∙ ap (word_at s) e

-- ---- the pairs

mapped : (ps : List Pair) (k : ℕ) → k < length ps → get_or (map peak_of ps) k no_peak ≡ peak_of (get_or ps k no_pair)
mapped [] k h = absurd (let z : ⊥ = omega arith in z)
mapped (p ∷ ps) zero h = refl
mapped (p ∷ ps) (suc k) h = mapped ps k (omega arith)

peak-of : (n : ℕ) (s : List ℕ) (at k : ℕ) → k < n → get_or (map peak_of (pairs_at n s at)) k no_peak ≡ peak_of (pair_at s (at + 8 * k))
peak-of n s at k h = mapped (pairs_at n s at) k (rw (pairs-many n s at) h) ∙ ap peak_of (pairs-get n s at k h)

-- the six one by one, at the places that the code reads
six-pairs : (s : List ℕ) (at : ℕ) → pairs_at channels s at ≡ pair_at s at ∷ pair_at s (at + 8) ∷ pair_at s (at + 16) ∷ pair_at s (at + 24) ∷ pair_at s (at + 32) ∷ pair_at s (at + 40) ∷ []
six-pairs s at = simp add_assoc

pub six-decoded : (s : List ℕ) (at : ℕ) (ps : List Peak) → let peak : ℕ → Peak = λ k. peak_of (pair_at s (at + k)) in let nth : ℕ → Peak = λ k. get_or ps k no_peak in
    length ps ≡ channels → nth 0 ≡ peak 0 → nth 1 ≡ peak 8 → nth 2 ≡ peak 16 → nth 3 ≡ peak 24 → nth 4 ≡ peak 32 → nth 5 ≡ peak 40 → record { peaks = ps } ≡ decoded_at at s
six-decoded s at ps h e₀ e₁ e₂ e₃ e₄ e₅ =
    ap (λ (qs : List Peak). record { peaks = qs })
    (fill_by_all (λ k. get_or ps k no_peak) ps channels no_peak h (λ k l. refl)
    ∙ rw (e₀, e₁, e₂, e₃, e₄, e₅, add-zero at) (ap (map peak_of) (sym (six-pairs s at))))

-- the bytes of one pair more
bytes-more : (n : ℕ) (ps : List Pair) (i : ℕ) → pairs_bytes (suc n) ps i ≡ pairs_bytes n ps i ++ pair_bytes (get_or ps (i + n) no_pair)
bytes-more zero ps i = rw (add-zero i) (append-nil _)
bytes-more (suc n) ps i =
    let e : suc i + n ≡ i + suc n = omega arith in
    ap (λ (l : List ℕ). pair_bytes (get_or ps i no_pair) ++ l) (bytes-more n ps (suc i) ∙ ap (λ (j : ℕ). pairs_bytes n ps (suc i) ++ pair_bytes (get_or ps j no_pair)) e)
    ∙ sym (append_assoc (pair_bytes (get_or ps i no_pair)) (pairs_bytes n ps (suc i)) (pair_bytes (get_or ps (i + suc n) no_pair)))

-- ---- bytes written and not written

put_same : (n : ℕ) (d : List ℕ) (at : ℕ) → at + n ≤ length d → put d at (bytes_at n d at) ≡ d
unfolding put
put_same n d at h =
    rw (length_part n d at, part-is n d at h) (ap (λ (l : List ℕ). take at d ++ (take n (drop at d) ++ l)) (sym (drop-drop n at d)) ∙ ap (λ (l : List ℕ). take at d ++ l) (take-append-drop n (drop at d)) ∙ take-append-drop at d)

-- what stands behind a part that is written
put-kept : (d : List ℕ) (at : ℕ) (s : List ℕ) (j : ℕ) → at + length s ≤ length d → get_or (put d at s) (at + length s + j) 0 ≡ get_or d (at + length s + j) 0
unfolding put
put-kept d at s j h =
    let n : length (take at d ++ s) ≡ at + length s = simp (length-append, length-take-le at d (omega arith)) in
    rw (← append_assoc (take at d) s (drop (at + length s) d)) (ap (λ (k : ℕ). get_or ((take at d ++ s) ++ drop (at + length s) d) (k + j) 0) (sym n) ∙ get_or-append-add (take at d ++ s) (drop (at + length s) d) j 0 ∙ get_or-drop (at + length s) d j 0)

part-kept : (n : ℕ) (d : List ℕ) (at : ℕ) (s : List ℕ) (j : ℕ) → at + length s ≤ length d → bytes_at n (put d at s) (at + length s + j) ≡ bytes_at n d (at + length s + j)
part-kept zero d at s j h = refl
part-kept (suc n) d at s j h =
    let e : suc (at + length s + j) ≡ at + length s + suc j = omega arith in
    ap₂ (◌∷◌) (put-kept d at s j h) (ap (bytes_at n (put d at s)) e ∙ part-kept n d at s (suc j) h ∙ ap (bytes_at n d) (sym e))

-- two values of four bytes, each stored or not
module _ (d : List ℕ) (at : ℕ) (v : List ℕ) (four : length v ≡ 4) (room : at + 8 ≤ length d) where
  upper : put d (at + 4) v ≡ put d at (bytes_at 4 d at ++ v)
  upper = ap (λ (l : List ℕ). put l (at + 4) v) (sym (put_same 4 d at (omega arith))) ∙ put-put d at (bytes_at 4 d at) v (omega arith)

  lower : put d at v ≡ put d at (v ++ bytes_at 4 d (at + 4))
  lower =
      let e : put d at v ≡ put (put d at v) (at + 4) (bytes_at 4 d (at + 4)) =
      sym (ap (put (put d at v) (at + 4)) (sym kept) ∙ put_same 4 (put d at v) (at + 4) (rw (length-put d at v (omega arith)) (omega arith))) in
      e ∙ ap (λ (j : ℕ). put (put d at v) (at + j) (bytes_at 4 d (at + 4))) (sym four) ∙ put-put d at v (bytes_at 4 d (at + 4)) (omega arith)
    where
      kept : bytes_at 4 (put d at v) (at + 4) ≡ bytes_at 4 d (at + 4)
      kept = let f : at + length v + 0 ≡ at + 4 = omega arith in rw f at (part-kept 4 d at v 0 (omega arith))

  pub both_stored : (a b : Bool) → stored b (stored a d at v) (at + 4) v ≡ put d at (cond a v (bytes_at 4 d at) ++ cond b v (bytes_at 4 d (at + 4)))
  both_stored true true = ap (λ (j : ℕ). put (put d at v) (at + j) v) (sym four) ∙ put-put d at v v (omega arith)
  both_stored true false = lower
  both_stored false true = upper
  both_stored false false = sym (ap (put d at) (part-part 4 4 d at) ∙ put_same 8 d at room)

-- ---- one channel after the other

module _ (seen : Bool) (peaks : List Peak) (x sample d : List ℕ) (at : ℕ) where
  abbrev up : ℕ → List ℕ
  up k = seen_up_to k seen peaks x sample d at

  pub seen_none : d ≡ up 0
  unfolding seen_up_to
  seen_none = refl

  pub seen_more : (k : ℕ) (q : Peak) (e f : List ℕ) → e ≡ up k → q ≡ get_or peaks k no_peak → f ≡ seen_at seen q (get_or x k 0) (bytes_at 4 sample (4 * k)) e (at + 8 * k) → f ≡ up (k + 1)
  unfolding seen_up_to
  seen_more k q e f h g l = rw (add-one k) (l ∙ ap₂ (λ (t : List ℕ) (r : Peak). seen_at seen r (get_or x k 0) (bytes_at 4 sample (4 * k)) t (at + 8 * k)) h g)

  pub seen_done : (k n : ℕ) (e : List ℕ) → k ≤ n → n ≤ k → e ≡ up k → e ≡ up n
  seen_done k n e h l q = q ∙ ap up (le_antisymm h l)

-- ---- one channel

bytes-cond : (t : Bool) (x y : ℕ) → bytes4 (cond t x y) ≡ cond t (bytes4 x) (bytes4 y)
bytes-cond true x y = refl
bytes-cond false x y = refl

module _ (p : Pair) (x : ℕ) (G : p.greatest < 0x100000000) (S : p.smallest < 0x100000000) (great : finite p.greatest ≡ true) (small : finite p.smallest ≡ true) where
  pair-chosen : (r : Bool) → pair_bytes (seen r p x) ≡ cond (is_raised r (peak_of p) x) (bytes4 x) (bytes4 p.greatest) ++ cond (is_lowered r (peak_of p) x) (bytes4 x) (bytes4 p.smallest)
  pair-chosen false = refl
  pair-chosen true =
      rw (bits_back p.greatest G great, bits_back p.smallest S small) (ap₂ (◌++◌) (bytes-cond (less p.greatest x) x p.greatest) (bytes-cond (less x p.smallest) x p.smallest))

-- ---- the first channels

module _ (n : ℕ) (d sample : List ℕ) (at : ℕ) (reading : Bool) (B : Bytes d) (C : Bytes sample) (room : at + n * 8 ≤ length d)
    (numbers : (k : ℕ) → k < n → (finite (word_at d (at + 8 * k)) ≡ true) × (finite (word_at d (at + 8 * k + 4)) ≡ true)) where
  abbrev pairs : List Pair
  pairs = pairs_at n d at

  abbrev next : List Pair
  next = seen_all reading pairs sample 0

  abbrev up_to : ℕ → List ℕ
  up_to k = seen_up_to k reading (map peak_of pairs) (words_at n sample 0) sample d at

  module _ (k : ℕ) (h : k < n) where
    abbrev place : ℕ
    place = at + 8 * k

    abbrev before : List ℕ
    before = pairs_bytes k next 0

    abbrev value : List ℕ
    value = bytes_at 4 sample (4 * k)

    far : length before ≡ 8 * k
    far = omega (arith, pairs-long k next 0)

    -- the pair of this channel is still that of the record
    kept : (j : ℕ) → bytes_at 4 (put d at before) (place + j) ≡ bytes_at 4 d (place + j)
    kept j = rw far at (part-kept 4 d at before j (omega (arith, far)))

    abbrev raising : Bool
    raising = is_raised reading (peak_of (pair_at d place)) (word_at sample (4 * k))

    abbrev lowering : Bool
    lowering = is_lowered reading (peak_of (pair_at d place)) (word_at sample (4 * k))

    chosen : cond raising value (bytes_at 4 (put d at before) place) ++ cond lowering value (bytes_at 4 (put d at before) (place + 4)) ≡ pair_bytes (seen reading (pair_at d place) (word_at sample (4 * k)))
    chosen =
        let first : bytes_at 4 (put d at before) place ≡ bytes4 (word_at d place) = rw (add-zero place) at (kept 0) ∙ sym (word-at d B place) in
        let then : bytes_at 4 (put d at before) (place + 4) ≡ bytes4 (word_at d (place + 4)) = kept 4 ∙ sym (word-at d B (place + 4)) in
        let new : value ≡ bytes4 (word_at sample (4 * k)) = sym (word-at sample C (4 * k)) in
        rw (first, then, new)
        (sym (pair-chosen (pair_at d place) (word_at sample (4 * k)) (word_lt d B place) (word_lt d B (place + 4)) (numbers k h).0 (numbers k h).1 reading))

    one_more : seen_at reading (peak_of (pair_at d place)) (word_at sample (4 * k)) value (put d at before) place ≡ put d at (pairs_bytes (suc k) next 0)
    one_more =
        let long : length (put d at before) ≡ length d = length-put d at before (omega (arith, far)) in
        let this : get_or next k no_pair ≡ seen reading (pair_at d place) (word_at sample (4 * k)) =
        seen-at reading pairs sample 0 k (rw (pairs-many n d at) h) ∙ ap₂ (seen reading) (pairs-get n d at k h) (ap (word_at sample) (zero-add (4 * k))) in
        both_stored (put d at before) place value (length_part 4 sample (4 * k)) (omega (arith, long)) raising lowering
        ∙ ap (put (put d at before) place) chosen
        ∙ ap (λ (j : ℕ). put (put d at before) (at + j) (pair_bytes (seen reading (pair_at d place) (word_at sample (4 * k))))) (sym far)
        ∙ put-put d at before (pair_bytes (seen reading (pair_at d place) (word_at sample (4 * k)))) (omega (arith, far))
        ∙ ap (put d at) (sym (bytes-more k next 0 ∙ ap (λ (q : Pair). before ++ pair_bytes q) (ap (λ (j : ℕ). get_or next j no_pair) (zero-add k) ∙ this)))

  pub up-to : (k : ℕ) → k ≤ n → up_to k ≡ put d at (pairs_bytes k next 0)
  unfolding seen_up_to
  up-to zero h = sym (put-nil d at)
  up-to (suc k) h =
      ap (λ (l : List ℕ). seen_at reading (get_or (map peak_of pairs) k no_peak) (get_or (words_at n sample 0) k 0) (value k h) l (place k h)) (up-to k (omega arith))
      ∙ ap₂ (λ (q : Peak) (x : ℕ). seen_at reading q x (value k h) (put d at (before k h)) (place k h)) (peak-of n d at k h) (word_of n sample 0 k h ∙ ap (word_at sample) (zero-add (4 * k)))
      ∙ one_more k h

-- ---- the record

pub sound-long : (s : List ℕ) → Sound s → length s ≡ record_size
sound-long s h = ap length h.same ∙ long (record_of s)

fit-finite : (reading : Bool) (p : Pair) → pair_fits reading p ≡ true → (finite p.greatest ≡ true) × (finite p.smallest ≡ true)
fit-finite true p e = ((fit p e).great, (fit p e).small)
fit-finite false p e =
    let t = both (eqb p.greatest 0) (eqb p.smallest 0) e in
    (ap finite (eqb-true p.greatest 0 t.0), ap finite (eqb-true p.smallest 0 t.1))

-- the bytes with other flags: no pair is touched
abbrev marked : List ℕ → ℕ → List ℕ
marked s v = set s at_flags v

word-marked : (s : List ℕ) (v at : ℕ) → at_flags < at → word_at (marked s v) at ≡ word_at s at
word-marked s v at h = rw (other at (omega arith), other (at + 1) (omega arith), other (at + 2) (omega arith), other (at + 3) (omega arith)) refl
  where
    other : (k : ℕ) → at_flags < k → get_or (marked s v) k 0 ≡ get_or s k 0
    other k l = get_or-set_other s at_flags k v 0 (λ e. omega arith)

pairs-marked : (n : ℕ) (s : List ℕ) (v at : ℕ) → at_flags < at → pairs_at n (marked s v) at ≡ pairs_at n s at
pairs-marked zero s v at h = refl
pairs-marked (suc n) s v at h =
    ap₂ (◌∷◌) (λ i. record { greatest = word-marked s v at h i; smallest = word-marked s v (at + 4) (omega arith) i }) (pairs-marked n s v (at + 8) (omega arith))

-- with the reading flag set
abbrev flagged : List ℕ → List ℕ
flagged s = marked s (bit_or (get_or s at_flags 0) 8)

bytes-flagged : (s : List ℕ) → at_flags < length s → Bytes s → Bytes (flagged s)
bytes-flagged s h b i = go (eqb i at_flags) refl
  where
    go : (t : Bool) → eqb i at_flags ≡ t → get_or (flagged s) i 0 < 256
    go true e = rw (eqb-true i at_flags e, get_or-set_same s at_flags (bit_or (get_or s at_flags 0) 8) 0 h) (or_lt 8 (get_or s at_flags 0) 8 (b at_flags) (omega arith))
    go false e = rw (get_or-set_other s at_flags i (bit_or (get_or s at_flags 0) 8) 0 (eqb-false i at_flags e)) (b i)

module _ (s : List ℕ) (h : Sound s) where
  numbers-there : (k : ℕ) → k < channels → (finite (word_at s (at_pairs + 8 * k)) ≡ true) × (finite (word_at s (at_pairs + 8 * k + 4)) ≡ true)
  unfolding record_of
  numbers-there k l =
      subst (λ (p : Pair). (finite p.greatest ≡ true) × (finite p.smallest ≡ true)) (pairs-get channels s at_pairs k l)
      (fit-finite (record_of s).flags.reading (get_or (pairs_at channels s at_pairs) k no_pair) (h.fit.pairs k l))

  pub there : (v : ℕ) → There at_pairs (marked s v)
  there v = record {
    pairs = omega (arith, length-set s at_flags v, sound-long s h);
    numbers = λ k l. rw (word-marked s v (at_pairs + 8 * k) (omega arith), word-marked s v (at_pairs + 8 * k + 4) (omega arith)) (numbers-there k l);
  }

  pub all-numbers : (v : ℕ) → AllNumbers (decoded_at at_pairs (marked s v)).peaks
  all-numbers v k l =
      rw (peak-of channels (marked s v) at_pairs k l)
      (float-number (word_at (marked s v) (at_pairs + 8 * k)) ((there v).numbers k l).0, float-number (word_at (marked s v) (at_pairs + 8 * k + 4)) ((there v).numbers k l).1)

reading-bit : (a b c d : Bool) → bit_or (nibble a b c d) 8 ≡ nibble a b c true
reading-bit a b c d = switch 4 (omega arith) (omega arith) true a b c d

set-pairs : (r : Record) (v : List Pair) → sets (bytes_of r) at_pairs (pairs_bytes channels v 0) ≡ bytes_of (with_pairs r v)
unfolding bytes_of with_pairs
set-pairs r v = refl

set-reading : (r : Record) → flagged (bytes_of r) ≡ bytes_of (with_flags r (with_reading r.flags true))
set-reading r =
    rw (get_flags r, reading-bit r.flags.opened r.flags.unlocked r.flags.sending r.flags.reading) (set-flags r (with_reading r.flags true))

module _ (s sample : List ℕ) (h : Sound s) (b : Bytes s) (c : Bytes sample) where
  abbrev r : Record
  r = record_of s

  abbrev later : List Pair
  later = seen_all r.flags.reading r.pairs sample 0

  abbrev flags : ℕ
  flags = get_or s at_flags 0

  stored-all : seen_up_to channels (bit_of flags 8) (decoded_at at_pairs (flagged s)).peaks (words_at channels sample 0) sample (flagged s) at_pairs ≡ bytes_of (reading_of r sample)
  unfolding reading_of with_flags with_pairs record_of
  stored-all =
      let t : There at_pairs (flagged s) = there s h (bit_or flags 8) in
      up-to channels (flagged s) sample at_pairs r.flags.reading (bytes-flagged s (omega (arith, sound-long s h)) b) c t.pairs t.numbers channels (omega arith)
      ∙ ap (λ (ps : List Pair). put (flagged s) at_pairs (pairs_bytes channels (seen_all r.flags.reading ps sample 0) 0)) (pairs-marked channels s (bit_or flags 8) at_pairs (omega arith))
      ∙ put-sets (flagged s) at_pairs (pairs_bytes channels later 0) (omega (arith, pairs-long channels later 0, t.pairs))
      ∙ ap (λ (l : List ℕ). sets l at_pairs (pairs_bytes channels later 0)) (ap flagged h.same ∙ set-reading r)
      ∙ set-pairs (with_flags r (with_reading r.flags true)) later

  -- the bytes that are left, by what they were made of
  pub taken : (d : Decoded) (x : List ℕ) → d ≡ decoded_at at_pairs (flagged s) → x ≡ words_at channels sample 0 → (l : List ℕ)
      → l ≡ seen_up_to channels (bit_of flags 8) d.peaks x sample (flagged s) at_pairs → l ≡ bytes_of (reading_of (record_of s) sample)
  taken d x e f l g = g ∙ ap₂ (λ (k : Decoded) (v : List ℕ). seen_up_to channels (bit_of flags 8) k.peaks v sample (flagged s) at_pairs) e f ∙ stored-all
