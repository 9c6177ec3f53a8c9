-- The bytes of each part of a record and its value are the same, in any layout.
use Prim.Native.Nat.{ℕ, zero, suc, ◌+◌, ◌*◌, ◌%◌, ◌≤◌, ◌<◌}
use mathlib.Core.Path.{◌≡◌, refl, sym, ap, ap₂, subst, subst⁻¹, ◌∙◌}
use mathlib.Core.Bool.{Bool, true, false, cond, not, ◌&&◌, ◌||◌, and-true, and-eq-true_iff, false≢true}
use mathlib.Core.List.{List, [], ◌∷◌, ◌++◌}
use native.Mathlib.Nat.{zero-add, add_assoc, not-suc-le-zero, le_of_suc-le-suc}
use native.Mathlib.Omega.{arith}
use lib.ListN.{length, get_or, take, drop}
use lib.Seq.{length-take-le}
use lib.Dec.{ltb, eqb}
use borrow.Author.Tests.{lt-ltb, le-leb, eq-eqb, ltb-true, leb-true, eqb-true}
use Rattle.wire.specs.Numbers.{Bytes, half_at, word_at, bytes2, bytes4, bytes_at}
use Rattle.wire.specs.Ranges.{fits}
use Rattle.wire.specs.Zeros.{all_zero, before_zero}
use Rattle.wire.specs.Frames.{waits}
use Rattle.wire.specs.declared.Range.{Range}
use Rattle.wire.specs.declared.Range.TheVariants.{Fits, Big, Small}
use Rattle.wire.proofs.NumberLaws.{half_back, word_back, length_part, part-all, bytes-part, bytes_take, part-part}
use Rattle.peak.specs.Pairs.{Pair, no_pair, pair_at, pairs_at, pair_bytes, pairs_bytes, pair_fits}
use Rattle.record.specs.Record.{Outputs, Record}
use Rattle.record.specs.Limits.{power_range, step_range, mode_range, on_off_range, input_range, interval_range, filter_range, name_range}
use Rattle.record.specs.Layout.{Part, SizeBytes, VersionByte, FlagByte, TriesByte, CodeWord, PowerHalf, StepByte, ModeByte, OnOffByte, InputBytes, OutputByte, IntervalByte, FilterWord, NamePart, ModelPart, PendingPart, PairsPart, CounterHalf, has, each, Plan, width, place, plan_size, flags_byte, outputs_byte, bit_of, part_bytes, value_of}
use Rattle.record.specs.Form.{Field, field, several, all_fine, flags_fit, tests_of, reading_by, Unless, Silent, InRangeIn}
use Rattle.record.proofs.Choices.{nibble-below, nibble-back, bits_back, even_is}
use Rattle.wire.proofs.ZeroLaws.{shift, part-back, rest-zero, pad-take, cut-cut, cut-bytes, cut-le, cut-back, cut-behind, pad-cut}
use Rattle.record.proofs.Parts.{Words, part-drop, word_lt, words-lt, half_at_lem, word-at, pair-part, pair-back, pairs-part, pairs-shift}
use Rattle.record.specs.Laid.{Laid, core_parts, radio_parts}

-- ---- pairs, any number of them

pub pairs-long : (n : ℕ) (ps : List Pair) (i : ℕ) → length (pairs_bytes n ps i) ≡ n * 8
pairs-long zero ps i = omega arith
pairs-long (suc n) ps i = omega (arith, pairs-long n ps (suc i))

pairs-laid : (n : ℕ) (s : List ℕ) → Bytes s → (at : ℕ) → pairs_bytes n (pairs_at n s at) 0 ≡ bytes_at (n * 8) s at
pairs-laid zero s b at = ap (λ (k : ℕ). bytes_at k s at) (let e : ◌≡◌ {A = ℕ} 0 (0 * 8) = omega arith in e)
pairs-laid (suc n) s b at =
    let e : suc n * 8 ≡ 8 + n * 8 = omega arith in
    let one : pair_bytes (pair_at s at) ≡ bytes_at 8 s at = ap₂ (◌++◌) (word-at s b at) (word-at s b (at + 4)) ∙ part-part 4 4 s at in
    ap₂ (◌++◌) one (pairs-shift n (pair_at s at) (pairs_at n s (at + 8)) 0 ∙ pairs-laid n s b (at + 8)) ∙ part-part 8 (n * 8) s at ∙ ap (λ (k : ℕ). bytes_at k s at) (sym e)

pair-in : (n : ℕ) (ps : List Pair) (k : ℕ) → k < n → Words ps → pair_at (pairs_bytes n ps 0) (8 * k) ≡ get_or ps k no_pair
pair-in n ps k h words =
    pair-part (pairs_bytes n ps 0) (8 * k) ∙ ap (λ (l : List ℕ). pair_at l 0) (pairs-part n ps 0 k h ∙ ap (λ (j : ℕ). pair_bytes (get_or ps j no_pair)) (zero-add k))
    ∙ pair-back (get_or ps k no_pair) (words k).0 (words k).1

pairs-drop : (n m : ℕ) (s : List ℕ) (j : ℕ) → pairs_at n s (m + j) ≡ pairs_at n (drop m s) j
pairs-drop zero m s j = refl
pairs-drop (suc n) m s j =
    let one : pair_at s (m + j) ≡ pair_at (drop m s) j = pair-part s (m + j) ∙ ap (λ (l : List ℕ). pair_at l 0) (part-drop 8 m s j) ∙ sym (pair-part (drop m s) j) in
    let more : pairs_at n s (m + j + 8) ≡ pairs_at n (drop m s) (j + 8) = ap (pairs_at n s) (add_assoc m j 8) ∙ pairs-drop n m s (j + 8) in
    λ i. one i ∷ more i

pairs-read : (n : ℕ) (ps : List Pair) → length ps ≡ n → Words ps → pairs_at n (pairs_bytes n ps 0) 0 ≡ ps
pairs-read zero [] e w = refl
pairs-read zero (x ∷ ps) e w = absurd (let z : ⊥ = omega arith in z)
pairs-read (suc n) [] e w = absurd (let z : ⊥ = omega arith in z)
pairs-read (suc n) (x ∷ ps) e w =
    let rest : pairs_at n (pairs_bytes (suc n) (x ∷ ps) 0) 8 ≡ ps = pairs-drop n 8 (pairs_bytes (suc n) (x ∷ ps) 0) 0 ∙ ap (λ (l : List ℕ). pairs_at n l 0) (pairs-shift n x ps 0) ∙ pairs-read n ps (omega arith) (λ k. w (suc k)) in
    λ i. pair-back x (w 0).0 (w 0).1 i ∷ rest i

-- ---- tests of several fields

module _ (f : ℕ → Bool) (at : ℕ) where
  several-each : (n k : ℕ) → all_fine (several n 8 f at k) ≡ true → (i : ℕ) → i < n → f (k + 8 * i) ≡ true
  several-each zero k e i h = absurd (not-suc-le-zero h)
  several-each (suc n) k e zero h = let z : k + 8 * 0 ≡ k = omega arith in rw z ((and-eq-true_iff (f k) (all_fine (several n 8 f at (k + 8)))).0 e).0
  several-each (suc n) k e (suc i) h =
      let z : k + 8 * suc i ≡ k + 8 + 8 * i = omega arith in
      rw z (several-each n (k + 8) ((and-eq-true_iff (f k) (all_fine (several n 8 f at (k + 8)))).0 e).1 i (le_of_suc-le-suc h))

  several-all : (n k : ℕ) → ((i : ℕ) → i < n → f (k + 8 * i) ≡ true) → all_fine (several n 8 f at k) ≡ true
  several-all zero k h = refl
  several-all (suc n) k h =
      let here : k + 8 * 0 ≡ k = omega arith in
      let next : (i : ℕ) → k + 8 * suc i ≡ k + 8 + 8 * i = λ i. omega arith in
      let first : f k ≡ true = subst (λ (m : ℕ). f m ≡ true) here (h 0 (omega arith)) in
      let rest : (i : ℕ) → i < n → f (k + 8 + 8 * i) ≡ true = λ i l. subst (λ (m : ℕ). f m ≡ true) (next i) (h (suc i) (omega arith)) in
      λ i. first i && several-all n (k + 8) rest i

one : (b : Bool) → b ≡ true → (b && true) ≡ true
one b e = ap (λ (t : Bool). t && true) e

the_one : (b : Bool) → (b && true) ≡ true → b ≡ true
the_one b e = ((and-eq-true_iff b true).0 e).0

pub fits-is : (v : Range) → fits v ≡ true → v ≡ Fits
fits-is Fits e = refl
fits-is Big e = absurd (false≢true e)
fits-is Small e = absurd (false≢true e)

-- so many bytes behind their number
pub behind-length : (n k : ℕ) (l : List ℕ) → bytes_at n (k ∷ bytes_at n l 0) 1 ≡ bytes_at n l 0
behind-length n k l = shift n k (bytes_at n l 0) 0 ∙ part-all n (bytes_at n l 0) (length_part n l 0)

pub chunk-long : (p : Plan) (r : Record) (q : Part) → length (part_bytes p r q) ≡ width p q
chunk-long p r SizeBytes = refl
chunk-long p r VersionByte = refl
chunk-long p r FlagByte = refl
chunk-long p r TriesByte = refl
chunk-long p r CodeWord = refl
chunk-long p r PowerHalf = refl
chunk-long p r StepByte = refl
chunk-long p r ModeByte = refl
chunk-long p r OnOffByte = refl
chunk-long p r InputBytes = refl
chunk-long p r OutputByte = refl
chunk-long p r IntervalByte = refl
chunk-long p r FilterWord = refl
chunk-long p r NamePart = refl
chunk-long p r ModelPart = refl
chunk-long p r PendingPart = ap suc (length_part p.room r.pending 0)
chunk-long p r PairsPart = pairs-long p.channels r.pairs 0
chunk-long p r CounterHalf = refl

flags-test : (opens : Bool) (b : ℕ) → flags_fit opens b ≡ (ltb b 16 && (opens || eqb (b % 2) 0))
flags-test true b = sym (and-true (ltb b 16))
flags-test false b = refl

filter-lt : (w most : ℕ) → filter_range most w ≡ Fits → w < most
filter-lt w most e = by (ltb w most) refl e
  where
    by : (t : Bool) → ltb w most ≡ t → cond t Fits Big ≡ Fits → w < most
    by true t e = ltb-true w most t
    by false t e = let z : ◌≡◌ {A = ℕ} 0 1 = cc in absurd (omega arith)

-- what holds where a part is missing
pub unless-by : {A : Type 0} (b : Bool) → (b ≡ false → A) → Unless b A
unless-by true f = tt
unless-by false f = f refl

unless-is : {A : Type 0} (b : Bool) → Unless b A → b ≡ false → A
unless-is true u e = absurd (false≢true (sym e))
unless-is false u e = u

pub unless-map : {A B : Type 0} (b : Bool) → (A → B) → Unless b A → Unless b B
unless-map true f u = tt
unless-map false f u = f u

-- the field of a number; behind the last all is fine
fine-at : (fs : List Field) → all_fine fs ≡ true → (k : ℕ) → (get_or fs k (field 0 true)).fine ≡ true
fine-at [] e k = refl
fine-at (f ∷ fs) e zero = ((and-eq-true_iff f.fine (all_fine fs)).0 e).0
fine-at (f ∷ fs) e (suc k) = fine-at fs ((and-eq-true_iff f.fine (all_fine fs)).0 e).1 k

inputs-fit : (c : List ℕ) (at : ℕ) → all_fine (several 5 1 (λ k. fits (input_range (get_or c k 0))) at 0) ≡ true → (i : ℕ) → input_range (get_or (bytes_at 5 c 0) i 0) ≡ Fits
inputs-fit c at e zero = fits-is (input_range (get_or c 0 0)) (fine-at (several 5 1 (λ k. fits (input_range (get_or c k 0))) at 0) e 0)
inputs-fit c at e (suc zero) = fits-is (input_range (get_or c 1 0)) (fine-at (several 5 1 (λ k. fits (input_range (get_or c k 0))) at 0) e 1)
inputs-fit c at e (suc (suc zero)) = fits-is (input_range (get_or c 2 0)) (fine-at (several 5 1 (λ k. fits (input_range (get_or c k 0))) at 0) e 2)
inputs-fit c at e (suc (suc (suc zero))) = fits-is (input_range (get_or c 3 0)) (fine-at (several 5 1 (λ k. fits (input_range (get_or c k 0))) at 0) e 3)
inputs-fit c at e (suc (suc (suc (suc zero)))) = fits-is (input_range (get_or c 4 0)) (fine-at (several 5 1 (λ k. fits (input_range (get_or c k 0))) at 0) e 4)
inputs-fit c at e (suc (suc (suc (suc (suc i))))) = refl

pub pairs-get : (n : ℕ) (s : List ℕ) (at k : ℕ) → k < n → get_or (pairs_at n s at) k no_pair ≡ pair_at s (at + 8 * k)
pairs-get zero s at k h = absurd (not-suc-le-zero h)
pairs-get (suc n) s at zero h = let z : at + 8 * 0 ≡ at = omega arith in ap (pair_at s) (sym z)
pairs-get (suc n) s at (suc k) h = let z : at + 8 + 8 * k ≡ at + 8 * suc k = omega arith in pairs-get n s (at + 8) k (le_of_suc-le-suc h) ∙ ap (pair_at s) z

pub pairs-many : (n : ℕ) (s : List ℕ) (at : ℕ) → length (pairs_at n s at) ≡ n
pairs-many zero s at = refl
pairs-many (suc n) s at = ap suc (pairs-many n s (at + 8))

abbrev outputs_at : List ℕ → Outputs
outputs_at c = record { first = bit_of (get_or c 0 0) 1; second = bit_of (get_or c 0 0) 2; third = bit_of (get_or c 0 0) 4; fourth = bit_of (get_or c 0 0) 8 }

-- a part of n bytes in use, behind their number
abbrev pub used : ℕ → List ℕ → List ℕ
used n c = take (get_or c 0 0) (bytes_at n c 1)

used-long : (n : ℕ) (c : List ℕ) → get_or c 0 0 ≤ n → length (used n c) ≡ get_or c 0 0
used-long n c h = length-take-le (get_or c 0 0) (bytes_at n c 1) (rw (length_part n c 1) h)

used-laid : (n : ℕ) (c : List ℕ) → length c ≡ suc n → get_or c 0 0 ≤ n → all_zero (drop (get_or c 0 0) (bytes_at n c 1)) ≡ true → length (used n c) ∷ bytes_at n (used n c) 0 ≡ c
used-laid n c e h z = ap₂ (◌∷◌) (used-long n c h) (rw (length_part n c 1) at (pad-take (get_or c 0 0) (bytes_at n c 1) z)) ∙ part-all (suc n) c e

module _ (p : Plan) (l : Laid p) where
  -- ---- a record in range passes the tests

  module _ (r : Record) (h : InRangeIn p r) where
    abbrev byte : ℕ
    byte = flags_byte r.flags

    low : byte < 16
    low = nibble-below r.flags.opened r.flags.unlocked r.flags.sending r.flags.reading

    pub chunk-fine : (at : ℕ) (q : Part) → all_fine (tests_of p r.flags.reading at (part_bytes p r q) q) ≡ true
    chunk-fine at SizeBytes = one _ (eq-eqb (half_at (bytes2 (plan_size p)) 0) (plan_size p) (half_back (plan_size p) l.size))
    chunk-fine at VersionByte = one _ (eq-eqb p.version p.version refl)
    chunk-fine at FlagByte =
        let e : (p.opens || eqb (byte % 2) 0) ≡ true = ap (λ (t : Bool). p.opens || t) (even_is byte low ∙ ap not (bits_back r.flags.opened r.flags.unlocked r.flags.sending r.flags.reading).0) ∙ h.opened in
        (λ i. flags-test p.opens byte i && true) ∙ (λ i. (lt-ltb byte 16 low i && e i) && true)
    chunk-fine at TriesByte = one _ (le-leb r.tries 3 h.tries)
    chunk-fine at CodeWord = refl
    chunk-fine at PowerHalf = λ i. fits ((ap power_range (half_back r.settings.power h.power_half) ∙ h.power) i) && true
    chunk-fine at StepByte = λ i. fits (h.step i) && true
    chunk-fine at ModeByte = λ i. fits (h.mode i) && true
    chunk-fine at OnOffByte = λ i. fits (h.on-off i) && true
    chunk-fine at InputBytes = λ i. fits (h.inputs 0 i) && (fits (h.inputs 1 i) && (fits (h.inputs 2 i) && (fits (h.inputs 3 i) && (fits (h.inputs 4 i) && true))))
    chunk-fine at OutputByte = one _ (lt-ltb (outputs_byte r.outputs) 16 (nibble-below r.outputs.first r.outputs.second r.outputs.third r.outputs.fourth))
    chunk-fine at IntervalByte = λ i. fits (h.interval i) && true
    chunk-fine at FilterWord = λ i. fits ((ap (filter_range p.filters) (word_back r.settings.filter (omega (arith, filter-lt r.settings.filter p.filters h.filter, l.filters))) ∙ h.filter) i) && true
    chunk-fine at NamePart =
        λ i. le-leb (length r.settings.name) 15 h.name_length i
        && ((fits ((ap name_range (part-back 15 r.settings.name h.name_length) ∙ h.name) i) && rest-zero 15 r.settings.name h.name_length i) && true)
    chunk-fine at ModelPart = one _ (cut-behind 15 r.model h.model_length h.model)
    chunk-fine at PendingPart =
        let n = l.short r.pending h.pending in
        let e = behind-length p.room (length r.pending) r.pending in
        let waiting : waits p.heads (take (length r.pending) (bytes_at p.room (part_bytes p r PendingPart) 1)) ≡ true =
        ap (λ (t : List ℕ). waits p.heads (take (length r.pending) t)) e ∙ ap (waits p.heads) (part-back p.room r.pending n) ∙ h.pending in
        let rest : all_zero (drop (length r.pending) (bytes_at p.room (part_bytes p r PendingPart) 1)) ≡ true = ap (λ (t : List ℕ). all_zero (drop (length r.pending) t)) e ∙ rest-zero p.room r.pending n in
        λ i. le-leb (length r.pending) p.room n i && ((waiting i && rest i) && true)
    chunk-fine at PairsPart =
        several-all (λ k. pair_fits r.flags.reading (pair_at (pairs_bytes p.channels r.pairs 0) k)) at p.channels 0
        (λ k t. ap (λ (m : ℕ). pair_fits r.flags.reading (pair_at (pairs_bytes p.channels r.pairs 0) m)) (zero-add (8 * k)) ∙ ap (pair_fits r.flags.reading) (pair-in p.channels r.pairs k t h.words) ∙ h.pairs k t)
    chunk-fine at CounterHalf = refl

  -- ---- a record from its parts

  -- what a record has at a part that the layout has, or none
  abbrev pub present : Record → Part → List ℕ
  present r q = cond (has p.parts q) (part_bytes p r q) []

  core-has : (k : ℕ) → get_or (each (has p.parts) core_parts) k true ≡ get_or (each (λ q. true) core_parts) k true
  core-has k = ap (λ (b : List Bool). get_or b k true) l.core

  radio-has : (k : ℕ) → get_or (each (has p.parts) radio_parts) k true ≡ get_or (each (λ q. has p.parts PowerHalf) radio_parts) k true
  radio-has k = ap (λ (b : List Bool). get_or b k true) l.radio

  -- a part that is there says its value, or the value is that of no bytes
  read_by : {A : Type 0} (read : List ℕ → A) (b : Bool) (c : List ℕ) (x : A) → read c ≡ x → (b ≡ false → read [] ≡ x) → read (cond b c []) ≡ x
  read_by read true c x e f = e
  read_by read false c x e f = f refl

  module _ (r : Record) (h : InRangeIn p r) where
    read-core : {A : Type 0} (q : Part) (read : List ℕ → A) (x : A) → has p.parts q ≡ true → read (part_bytes p r q) ≡ x → read (present r q) ≡ x
    read-core q read x t e = read_by read (has p.parts q) (part_bytes p r q) x e (λ f. absurd (false≢true (sym f ∙ t)))

    read-radio : {A : Type 0} (q : Part) (read : List ℕ → A) (x : A) → has p.parts q ≡ has p.parts PowerHalf → read (part_bytes p r q) ≡ x → (Silent r.settings r.outputs → read [] ≡ x) → read (present r q) ≡ x
    read-radio q read x t e f = read_by read (has p.parts q) (part_bytes p r q) x e (λ g. f (unless-is (has p.parts PowerHalf) h.silent (sym t ∙ g)))

    pub read-present : value_of p (present r) ≡ r
    unfolding value_of
    read-present =
        let g = r.settings in
        let flags = bits_back r.flags.opened r.flags.unlocked r.flags.sending r.flags.reading in
        let outputs = bits_back r.outputs.first r.outputs.second r.outputs.third r.outputs.fourth in
        let n = l.short r.pending h.pending in
        λ i. record {
          flags = read-core FlagByte (λ c. record { opened = bit_of (get_or c 0 0) 1; unlocked = bit_of (get_or c 0 0) 2; sending = bit_of (get_or c 0 0) 4; reading = bit_of (get_or c 0 0) 8 }) r.flags (core-has 2) (λ i. record { opened = flags.0 i; unlocked = flags.1 i; sending = flags.2 i; reading = flags.3 i }) i;
          tries = read-core TriesByte (λ c. get_or c 0 0) r.tries (core-has 3) refl i;
          code = read-core CodeWord (λ c. word_at c 0) r.code (core-has 4) (word_back r.code h.code) i;
          settings = record {
            power = read-radio PowerHalf (λ c. half_at c 0) g.power refl (half_back g.power h.power_half) (λ s. sym s.power) i;
            step = read-radio StepByte (λ c. get_or c 0 0) g.step (radio-has 0) refl (λ s. sym s.step) i;
            mode = read-radio ModeByte (λ c. get_or c 0 0) g.mode (radio-has 1) refl (λ s. sym s.mode) i;
            on_off = read-radio OnOffByte (λ c. get_or c 0 0) g.on_off (radio-has 2) refl (λ s. sym s.on-off) i;
            inputs = read-radio InputBytes (λ c. bytes_at 5 c 0) g.inputs (radio-has 3) (part-all 5 g.inputs h.five) (λ s. sym s.inputs) i;
            interval = read-radio IntervalByte (λ c. get_or c 0 0) g.interval (radio-has 5) refl (λ s. sym s.interval) i;
            filter = read-core FilterWord (λ c. word_at c 0) g.filter (core-has 5) (word_back g.filter (omega (arith, filter-lt g.filter p.filters h.filter, l.filters))) i;
            name = read-radio NamePart (λ c. take (get_or c 0 0) (bytes_at 15 c 1)) g.name (radio-has 6) (part-back 15 g.name h.name_length) (λ s. sym s.name) i;
          };
          outputs = read-radio OutputByte (λ c. record { first = bit_of (get_or c 0 0) 1; second = bit_of (get_or c 0 0) 2; third = bit_of (get_or c 0 0) 4; fourth = bit_of (get_or c 0 0) 8 }) r.outputs (radio-has 4) (λ i. record { first = outputs.0 i; second = outputs.1 i; third = outputs.2 i; fourth = outputs.3 i }) (λ s. sym s.outputs) i;
          model = read-core ModelPart (λ c. before_zero (bytes_at 15 c 0)) r.model (core-has 6) (cut-back 15 r.model h.model_length h.model) i;
          pending = read-core PendingPart (λ c. take (get_or c 0 0) (bytes_at p.room c 1)) r.pending (core-has 7) (ap (take (length r.pending)) (behind-length p.room (length r.pending) r.pending) ∙ part-back p.room r.pending n) i;
          pairs = read-core PairsPart (λ c. pairs_at p.channels c 0) r.pairs (core-has 8) (pairs-read p.channels r.pairs h.six h.words) i;
          counter = read_by (λ c. half_at c 0) (has p.parts CounterHalf) (part_bytes p r CounterHalf) r.counter (half_back r.counter h.counter) (λ e. sym (unless-is (has p.parts CounterHalf) h.uncounted e)) i;
        }

  -- ---- the parts of well-formed bytes

  -- parts that pass their tests
  pub record Cut (c : Part → List ℕ) : Type 0 where
    pub long : (q : Part) → has p.parts q ≡ true → length (c q) ≡ width p q
    pub none : (q : Part) → has p.parts q ≡ false → c q ≡ []
    pub bytes : (q : Part) → Bytes (c q)
    pub fine : (q : Part) → has p.parts q ≡ true → all_fine (tests_of p (reading_by (c FlagByte)) (place p q) (c q) q) ≡ true

  module _ (c : Part → List ℕ) (g : Cut c) where
    test : (q : Part) → has p.parts q ≡ true → (k : ℕ) → (get_or (tests_of p (reading_by (c FlagByte)) (place p q) (c q) q) k (field 0 true)).fine ≡ true
    test q t k = fine-at (tests_of p (reading_by (c FlagByte)) (place p q) (c q) q) (g.fine q t) k

    byte-is : (q : Part) → length (c q) ≡ 1 → get_or (c q) 0 0 ∷ [] ≡ c q
    byte-is q e = part-all 1 (c q) e

    half_is : (q : Part) → length (c q) ≡ 2 → bytes2 (half_at (c q) 0) ≡ c q
    half_is q e = half_at_lem (c q) (g.bytes q) 0 ∙ part-all 2 (c q) e

    word-is : (q : Part) → length (c q) ≡ 4 → bytes4 (word_at (c q) 0) ≡ c q
    word-is q e = word-at (c q) (g.bytes q) 0 ∙ part-all 4 (c q) e

    flags-low : has p.parts FlagByte ≡ true → (get_or (c FlagByte) 0 0 < 16) × ((p.opens || eqb (get_or (c FlagByte) 0 0 % 2) 0) ≡ true)
    flags-low t =
        let b = get_or (c FlagByte) 0 0 in
        let w = (and-eq-true_iff (ltb b 16) (p.opens || eqb (b % 2) 0)).0 (sym (flags-test p.opens b) ∙ test FlagByte t 0) in
        (ltb-true b 16 w.0, w.1)

    pub write-part : (q : Part) → has p.parts q ≡ true → part_bytes p (value_of p c) q ≡ c q
    unfolding value_of
    write-part SizeBytes t = sym (ap bytes2 (eqb-true (half_at (c SizeBytes) 0) (plan_size p) (test SizeBytes t 0))) ∙ half_is SizeBytes (g.long SizeBytes t)
    write-part VersionByte t = sym (ap (λ (x : ℕ). x ∷ []) (eqb-true (get_or (c VersionByte) 0 0) p.version (test VersionByte t 0))) ∙ byte-is VersionByte (g.long VersionByte t)
    write-part FlagByte t = ap (λ (x : ℕ). x ∷ []) (nibble-back (get_or (c FlagByte) 0 0) (flags-low t).0) ∙ byte-is FlagByte (g.long FlagByte t)
    write-part TriesByte t = byte-is TriesByte (g.long TriesByte t)
    write-part CodeWord t = word-is CodeWord (g.long CodeWord t)
    write-part PowerHalf t = half_is PowerHalf (g.long PowerHalf t)
    write-part StepByte t = byte-is StepByte (g.long StepByte t)
    write-part ModeByte t = byte-is ModeByte (g.long ModeByte t)
    write-part OnOffByte t = byte-is OnOffByte (g.long OnOffByte t)
    write-part InputBytes t = part-all 5 (c InputBytes) (g.long InputBytes t)
    write-part OutputByte t = ap (λ (x : ℕ). x ∷ []) (nibble-back (get_or (c OutputByte) 0 0) (ltb-true (get_or (c OutputByte) 0 0) 16 (test OutputByte t 0))) ∙ byte-is OutputByte (g.long OutputByte t)
    write-part IntervalByte t = byte-is IntervalByte (g.long IntervalByte t)
    write-part FilterWord t = word-is FilterWord (g.long FilterWord t)
    write-part NamePart t =
        let d = c NamePart in
        let w = (and-eq-true_iff (fits (name_range (used 15 d))) (all_zero (drop (get_or d 0 0) (bytes_at 15 d 1)))).0 (test NamePart t 1) in
        used-laid 15 d (g.long NamePart t) (leb-true (get_or d 0 0) 15 (test NamePart t 0)) w.1
    write-part ModelPart t = pad-cut (bytes_at 15 (c ModelPart) 0) (test ModelPart t 0) ∙ part-all 15 (c ModelPart) (g.long ModelPart t)
    write-part PendingPart t =
        let d = c PendingPart in
        let w = (and-eq-true_iff (waits p.heads (used p.room d)) (all_zero (drop (get_or d 0 0) (bytes_at p.room d 1)))).0 (test PendingPart t 1) in
        used-laid p.room d (g.long PendingPart t) (leb-true (get_or d 0 0) p.room (test PendingPart t 0)) w.1
    write-part PairsPart t = pairs-laid p.channels (c PairsPart) (g.bytes PairsPart) 0 ∙ part-all (p.channels * 8) (c PairsPart) (g.long PairsPart t)
    write-part CounterHalf t = half_is CounterHalf (g.long CounterHalf t)

    -- a fact of a part that may be missing
    either : (q : Part) (P : List ℕ → Type 0) → (has p.parts q ≡ true → P (c q)) → P [] → P (c q)
    either q P f z = by (has p.parts q) refl
      where
        by : (t : Bool) → has p.parts q ≡ t → P (c q)
        by true e = f e
        by false e = subst⁻¹ P (g.none q e) z

    pub value_in : InRangeIn p (value_of p c)
    unfolding value_of name_range
    value_in =
        let b = get_or (c FlagByte) 0 0 in
        let flags = flags-low (core-has 2) in
        let word : (q : Part) → word_at (c q) 0 < 0x100000000 = λ q. word_lt (c q) (g.bytes q) 0 in
        let half : (q : Part) → half_at (c q) 0 < 0x10000 = λ q. omega (arith, g.bytes q 0, g.bytes q 1) in
        let name = c NamePart in
        let d = c PendingPart in
        let pended = (and-eq-true_iff (waits p.heads (used p.room d)) (all_zero (drop (get_or d 0 0) (bytes_at p.room d 1)))).0 (test PendingPart (core-has 7) 1) in
        record {
          opened = ap (λ (t : Bool). p.opens || t) (sym (even_is b flags.0)) ∙ flags.1;
          tries = leb-true (get_or (c TriesByte) 0 0) 3 (test TriesByte (core-has 3) 0);
          code = word CodeWord;
          power = either PowerHalf (λ d. power_range (half_at d 0) ≡ Fits) (λ t. fits-is (power_range (half_at (c PowerHalf) 0)) (test PowerHalf t 0)) refl;
          power_half = half PowerHalf;
          step = either StepByte (λ d. step_range (get_or d 0 0) ≡ Fits) (λ t. fits-is (step_range (get_or (c StepByte) 0 0)) (test StepByte t 0)) refl;
          mode = either ModeByte (λ d. mode_range (get_or d 0 0) ≡ Fits) (λ t. fits-is (mode_range (get_or (c ModeByte) 0 0)) (test ModeByte t 0)) refl;
          on-off = either OnOffByte (λ d. on_off_range (get_or d 0 0) ≡ Fits) (λ t. fits-is (on_off_range (get_or (c OnOffByte) 0 0)) (test OnOffByte t 0)) refl;
          five = refl;
          inputs = either InputBytes (λ d. (i : ℕ) → input_range (get_or (bytes_at 5 d 0) i 0) ≡ Fits) (λ t. inputs-fit (c InputBytes) (place p InputBytes) (g.fine InputBytes t)) (inputs-fit [] 0 refl);
          interval = either IntervalByte (λ d. interval_range (get_or d 0 0) ≡ Fits) (λ t. fits-is (interval_range (get_or (c IntervalByte) 0 0)) (test IntervalByte t 0)) refl;
          filter = fits-is (filter_range p.filters (word_at (c FilterWord) 0)) (test FilterWord (core-has 5) 0);
          name_length = either NamePart (λ d. length (used 15 d) ≤ 15) (λ t. let h = leb-true (get_or name 0 0) 15 (test NamePart t 0) in omega (arith, used-long 15 name h, h)) (omega arith);
          name = either NamePart (λ d. name_range (used 15 d) ≡ Fits) (λ t. fits-is (name_range (used 15 name)) ((and-eq-true_iff (fits (name_range (used 15 name))) (all_zero (drop (get_or name 0 0) (bytes_at 15 name 1)))).0 (test NamePart t 1)).0) refl;
          model_length = cut-le (bytes_at 15 (c ModelPart) 0);
          model = cut-cut (bytes_at 15 (c ModelPart) 0);
          model_bytes = cut-bytes (bytes_at 15 (c ModelPart) 0) (bytes-part 15 (c ModelPart) 0 (g.bytes ModelPart));
          pending = pended.0;
          pending_bytes = bytes_take (get_or d 0 0) (bytes_at p.room d 1) (bytes-part p.room d 1 (g.bytes PendingPart));
          six = pairs-many p.channels (c PairsPart) 0;
          words = words-lt (c PairsPart) (g.bytes PairsPart) p.channels 0;
          pairs = λ k t. ap (pair_fits (reading_by (c FlagByte))) (pairs-get p.channels (c PairsPart) 0 k t) ∙ several-each (λ k. pair_fits (reading_by (c FlagByte)) (pair_at (c PairsPart) k)) (place p PairsPart) p.channels 0 (g.fine PairsPart (core-has 8)) k t;
          counter = half CounterHalf;
          silent = unless-by (has p.parts PowerHalf) (λ e. record {
            power = ap (λ (d : List ℕ). half_at d 0) (g.none PowerHalf e);
            step = ap (λ (d : List ℕ). get_or d 0 0) (g.none StepByte (radio-has 0 ∙ e));
            mode = ap (λ (d : List ℕ). get_or d 0 0) (g.none ModeByte (radio-has 1 ∙ e));
            on-off = ap (λ (d : List ℕ). get_or d 0 0) (g.none OnOffByte (radio-has 2 ∙ e));
            inputs = ap (λ (d : List ℕ). bytes_at 5 d 0) (g.none InputBytes (radio-has 3 ∙ e));
            interval = ap (λ (d : List ℕ). get_or d 0 0) (g.none IntervalByte (radio-has 5 ∙ e));
            name = ap (used 15) (g.none NamePart (radio-has 6 ∙ e));
            outputs = ap outputs_at (g.none OutputByte (radio-has 4 ∙ e));
          });
          uncounted = unless-by (has p.parts CounterHalf) (λ e. ap (λ (d : List ℕ). half_at d 0) (g.none CounterHalf e));
        }
