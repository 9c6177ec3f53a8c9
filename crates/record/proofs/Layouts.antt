-- Parts one behind the other: what stands at the place of a part, and what a store within it changes; over any widths and any list of parts.
use Prim.Native.Nat.{ℕ, zero, suc, ◌+◌, ◌≤◌}
use mathlib.Core.Path.{◌≡◌, refl, sym, ap, ap₂, subst, ◌∙◌}
use mathlib.Core.Bool.{Bool, true, false, cond, not, ◌||◌, or-true, and-eq-true_iff, false≢true}
use mathlib.Core.List.{List, [], ◌∷◌, ◌++◌}
use native.Mathlib.Nat.{add-zero, zero-add, add_assoc}
use native.Mathlib.Omega.{arith}
use lib.ListN.{length, get_or, length-append}
use lib.Seq.{sets, take_at, drop_at}
use borrow.Author.Tests.{eqb-true, eq-eqb}
use Rattle.wire.proofs.NumberLaws.{part-is, part-part}
use Rattle.wire.specs.Numbers.{bytes_at}
use Rattle.record.specs.Layout.{Part, SizeBytes, VersionByte, FlagByte, TriesByte, CodeWord, PowerHalf, StepByte, ModeByte, OnOffByte, InputBytes, OutputByte, IntervalByte, FilterWord, NamePart, ModelPart, PendingPart, PairsPart, CounterHalf, tag, all_parts, same, has, distinct, size_of, place_of, lay, each}
use Rattle.record.proofs.Parts.{part-drop, sets_behind, sets-within}

-- ---- parts of lists

part-front : (n : ℕ) (a b : List ℕ) → length a ≡ n → bytes_at n (a ++ b) 0 ≡ a
part-front n a b e = part-is n (a ++ b) 0 (let h : length (a ++ b) ≡ length a + length b = length-append a b in omega arith) ∙ take_at a b n e

-- ---- a part is known by its number

numbered : (q : Part) → get_or all_parts (tag q) SizeBytes ≡ q
numbered SizeBytes = refl
numbered VersionByte = refl
numbered FlagByte = refl
numbered TriesByte = refl
numbered CodeWord = refl
numbered PowerHalf = refl
numbered StepByte = refl
numbered ModeByte = refl
numbered OnOffByte = refl
numbered InputBytes = refl
numbered OutputByte = refl
numbered IntervalByte = refl
numbered FilterWord = refl
numbered NamePart = refl
numbered ModelPart = refl
numbered PendingPart = refl
numbered PairsPart = refl
numbered CounterHalf = refl

pub same-is : (a b : Part) → same a b ≡ true → a ≡ b
same-is a b e = sym (numbered a) ∙ ap (λ (n : ℕ). get_or all_parts n SizeBytes) (eqb-true (tag a) (tag b) e) ∙ numbered b

-- two functions of parts that agree on the list of all parts are the same at each
each_at : {A : Type 0} (f : Part → A) (ps : List Part) (k : ℕ) → get_or (each f ps) k (f SizeBytes) ≡ f (get_or ps k SizeBytes)
each_at f [] k = refl
each_at f (x ∷ ps) zero = refl
each_at f (x ∷ ps) (suc k) = each_at f ps k

pub all_same : {A : Type 0} (f g : Part → A) → each f all_parts ≡ each g all_parts → (q : Part) → f q ≡ g q
all_same {A} f g e q =
    let head : f SizeBytes ≡ g SizeBytes = ap (λ (l : List A). get_or l 0 (f SizeBytes)) e in
    sym (ap f (numbered q)) ∙ sym (each_at f all_parts (tag q)) ∙ ap₂ (λ (l : List A) (d : A). get_or l (tag q) d) e head ∙ each_at g all_parts (tag q) ∙ ap g (numbered q)

-- ---- parts of a list

pub has_first : (x : Part) (ps : List Part) → has (x ∷ ps) x ≡ true
has_first x ps = ap (λ (t : Bool). t || has ps x) (eq-eqb (tag x) (tag x) refl)

pub has-later : (q x : Part) (ps : List Part) → has ps q ≡ true → has (x ∷ ps) q ≡ true
has-later q x ps e = ap (λ (t : Bool). same q x || t) e ∙ or-true (same q x)

pub lay-same : (c d : Part → List ℕ) (ps : List Part) → ((q : Part) → has ps q ≡ true → c q ≡ d q) → lay c ps ≡ lay d ps
lay-same c d [] h = refl
lay-same c d (x ∷ ps) h = ap₂ (◌++◌) (h x (has_first x ps)) (lay-same c d ps (λ q e. h q (has-later q x ps e)))

-- of distinct parts a later one is not the first
not_first : (q x : Part) (ps : List Part) → not (has ps x) ≡ true → has ps q ≡ true → same q x ≡ false
not_first q x ps n e = by (same q x) refl
  where
    by : (t : Bool) → same q x ≡ t → t ≡ false
    by false s = refl
    by true s = let u : has ps x ≡ true = subst (λ (y : Part). has ps y ≡ true) (same-is q x s) e in absurd (false≢true (sym (ap not u) ∙ n))

-- the same parts with the bytes of one of them changed
abbrev pub upd : Part → List ℕ → (Part → List ℕ) → Part → List ℕ
upd q v c x = cond (same q x) v (c x)

same-sym : (a b : Part) → same a b ≡ false → same b a ≡ false
same-sym a b e = by (same b a) refl
  where
    by : (t : Bool) → same b a ≡ t → t ≡ false
    by false s = refl
    by true s = let u : same a a ≡ false = subst (λ (y : Part). same a y ≡ false) (same-is b a s) e in absurd (false≢true (sym u ∙ eq-eqb (tag a) (tag a) refl))

module _ (w : Part → ℕ) where
  -- ---- what stands at the place of a part

  pub place_in : (q : Part) (ps : List Part) → has ps q ≡ true → place_of w ps q + w q ≤ size_of w ps
  place_in q [] e = absurd (false≢true e)
  place_in q (x ∷ ps) e = by (same q x) refl e (λ h. place_in q ps h)
    where
      by : (t : Bool) → same q x ≡ t → (t || has ps q) ≡ true → (has ps q ≡ true → place_of w ps q + w q ≤ size_of w ps) → cond t 0 (w x + place_of w ps q) + w q ≤ w x + size_of w ps
      by true s e ih = omega (arith, ap w (same-is q x s))
      by false s e ih = omega (arith, ih e)

  module _ (c : Part → List ℕ) (long : (q : Part) → length (c q) ≡ w q) where
    pub lay-long : (ps : List Part) → length (lay c ps) ≡ size_of w ps
    lay-long [] = refl
    lay-long (x ∷ ps) = length-append (c x) (lay c ps) ∙ ap₂ (◌+◌) (long x) (lay-long ps)

    pub lay-part : (q : Part) (ps : List Part) → has ps q ≡ true → bytes_at (w q) (lay c ps) (place_of w ps q) ≡ c q
    lay-part q [] e = absurd (false≢true e)
    lay-part q (x ∷ ps) e = by (same q x) refl e (λ h. lay-part q ps h)
      where
        by : (t : Bool) → same q x ≡ t → (t || has ps q) ≡ true → (has ps q ≡ true → bytes_at (w q) (lay c ps) (place_of w ps q) ≡ c q) → bytes_at (w q) (c x ++ lay c ps) (cond t 0 (w x + place_of w ps q)) ≡ c q
        by true s e ih = subst (λ (y : Part). bytes_at (w q) (c y ++ lay c ps) 0 ≡ c q) (same-is q x s) (part-front (w q) (c q) (lay c ps) (long q))
        by false s e ih = part-drop (w q) (w x) (c x ++ lay c ps) (place_of w ps q) ∙ ap (λ (l : List ℕ). bytes_at (w q) l (place_of w ps q)) (drop_at (c x) (lay c ps) (w x) (long x)) ∙ ih e

    -- ---- a store within a part

    pub lay-store : (q : Part) (ps : List Part) → distinct ps ≡ true → has ps q ≡ true → (j : ℕ) (v : List ℕ) → j + length v ≤ w q
        → sets (lay c ps) (place_of w ps q + j) v ≡ lay (upd q (sets (c q) j v) c) ps
    lay-store q [] d e j v h = absurd (false≢true e)
    lay-store q (x ∷ ps) d e j v h = by (same q x) refl e (λ k. lay-store q ps apart.1 k j v h)
      where
        apart : (not (has ps x) ≡ true) × (distinct ps ≡ true)
        apart = (and-eq-true_iff (not (has ps x)) (distinct ps)).0 d

        by : (t : Bool) → same q x ≡ t → (t || has ps q) ≡ true → (has ps q ≡ true → sets (lay c ps) (place_of w ps q + j) v ≡ lay (upd q (sets (c q) j v) c) ps)
            → sets (c x ++ lay c ps) (cond t 0 (w x + place_of w ps q) + j) v ≡ cond t (sets (c q) j v) (c x) ++ lay (upd q (sets (c q) j v) c) ps
        by true s e ih =
            let others : lay c ps ≡ lay (upd q (sets (c q) j v) c) ps =
            lay-same c (upd q (sets (c q) j v) c) ps (λ y k. sym (ap (λ (t : Bool). cond t (sets (c q) j v) (c y)) (same-sym y q (rw (same-is q x s) (not_first y x ps apart.0 k))))) in
            subst (λ (y : Part). sets (c y ++ lay c ps) (0 + j) v ≡ sets (c q) j v ++ lay (upd q (sets (c q) j v) c) ps) (same-is q x s)
            (ap (λ (k : ℕ). sets (c q ++ lay c ps) k v) (zero-add j) ∙ sets-within (c q) (lay c ps) j v (rw (long q) h) ∙ ap (λ (l : List ℕ). sets (c q) j v ++ l) others)
        by false s e ih =
            ap (λ (k : ℕ). sets (c x ++ lay c ps) k v) (add_assoc (w x) (place_of w ps q) j) ∙ sets_behind (w x) (c x ++ lay c ps) (place_of w ps q + j) v
            ∙ ap₂ (λ (a b : List ℕ). a ++ sets b (place_of w ps q + j) v) (take_at (c x) (lay c ps) (w x) (long x)) (drop_at (c x) (lay c ps) (w x) (long x)) ∙ ap (λ (l : List ℕ). c x ++ l) (ih e)

  -- ---- bytes cut into parts and laid again

  pub cut-lay : (s : List ℕ) (ps : List Part) → distinct ps ≡ true → (at : ℕ) → lay (λ q. bytes_at (w q) s (at + place_of w ps q)) ps ≡ bytes_at (size_of w ps) s at
  cut-lay s [] d at = refl
  cut-lay s (x ∷ ps) d at =
      let apart = (and-eq-true_iff (not (has ps x)) (distinct ps)).0 d in
      let here : cond (same x x) 0 (w x + place_of w ps x) ≡ 0 = ap (λ (t : Bool). cond t 0 (w x + place_of w ps x)) (eq-eqb (tag x) (tag x) refl) in
      let there : (q : Part) → has ps q ≡ true → at + cond (same q x) 0 (w x + place_of w ps q) ≡ at + w x + place_of w ps q =
      λ q e. ap (λ (t : Bool). at + cond t 0 (w x + place_of w ps q)) (not_first q x ps apart.0 e) ∙ sym (add_assoc at (w x) (place_of w ps q)) in
      ap₂ (◌++◌) (ap (bytes_at (w x) s) (ap (λ (k : ℕ). at + k) here ∙ add-zero at))
      (lay-same (λ q. bytes_at (w q) s (at + cond (same q x) 0 (w x + place_of w ps q))) (λ q. bytes_at (w q) s (at + w x + place_of w ps q)) ps (λ q e. ap (bytes_at (w q) s) (there q e))
      ∙ cut-lay s ps apart.1 (at + w x))
      ∙ part-part (w x) (size_of w ps) s at
