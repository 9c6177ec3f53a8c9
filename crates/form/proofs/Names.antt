-- The name by two words: bytes above 7F by their highest bits, zeros behind it by a shift.
use Prim.Native.Nat.{ℕ, zero, suc, ◌+◌, ◌-◌, ◌*◌, ◌/◌, ◌%◌, ◌^◌, ◌≤◌, ◌<◌}
use mathlib.Core.Path.{◌≡◌, refl, sym, ap, ap₂, ◌∙◌}
use mathlib.Core.Logic.{⊎_elim}
use mathlib.Core.Bool.{Bool, true, false, cond, ◌&&◌, and_assoc}
use mathlib.Core.List.{List, [], ◌∷◌, ◌++◌}
use native.Mathlib.Nat.{div-add-mod'}
use native.Mathlib.Omega.{arith}
use lib.ListN.{take, drop}
use lib.Seq.{drop-append-le, drop-append-add}
use lib.Bits.{bit_and, and_block, and_zero_r}
use lib.Dec.{leb, eqb}
use borrow.Author.Tests.{lt-leb, le-leb, eq-eqb, ne_eqb}
use Rattle.wire.specs.Ranges.{fits, also}
use Rattle.wire.specs.Zeros.{all_zero}
use Rattle.wire.specs.declared.Range.{Range}
use Rattle.wire.specs.declared.Range.TheVariants.{Fits, Big}
use Rattle.low.specs.Low.{low_bytes}
use Rattle.low.proofs.ZeroWords.{low-zero, zero-from, zero-append}
use Rattle.peak.proofs.Patterns.{split}
use Rattle.record.specs.Limits.{name_byte, name_range}
use Rattle.record.specs.Form.{part_fits}

abbrev plain : List ℕ → Bool
plain l = fits (name_range l)

plain-cons : (b : ℕ) (x : Range) → fits (also (name_byte b) x) ≡ (leb b 0x7F && fits x)
plain-cons b x = by (leb b 0x7F)
  where
    by : (t : Bool) → fits (also (cond t Fits Big) x) ≡ (t && fits x)
    by true = refl
    by false = refl

plain-append : (a b : List ℕ) → plain (a ++ b) ≡ (plain a && plain b)
unfolding name_range
plain-append [] b = refl
plain-append (x ∷ a) b =
    plain-cons x (name_range (a ++ b)) ∙ ap (λ (t : Bool). leb x 0x7F && t) (plain-append a b)
    ∙ sym (ap (λ (t : Bool). t && plain b) (plain-cons x (name_range a)) ∙ and_assoc (leb x 0x7F) (plain a) (plain b))

-- ---- the highest bits of n bytes

abbrev high_bits : ℕ → ℕ
high_bits zero = 0
high_bits (suc n) = high_bits n * 256 + 128

byte-bit : (b : ℕ) → b < 256 → eqb (bit_and b 128) 0 ≡ leb b 0x7F
byte-bit b h =
    let e : b ≡ b / 128 * 128 + b % 128 = omega arith in
    let split-bit : bit_and b 128 ≡ bit_and (b / 128) 1 * 128 + bit_and (b % 128) 0 = ap (λ (x : ℕ). bit_and x 128) e ∙ and_block 7 (b / 128) 1 (b % 128) 0 (omega arith) (omega arith) in
    ⊎_elim
    (λ l. let q : b / 128 ≡ 0 = omega arith in rw (split-bit, q, and_zero_r (b % 128), le-leb b 0x7F (omega arith)) refl)
    (λ l. let q : b / 128 ≡ 1 = omega arith in rw (split-bit, q, and_zero_r (b % 128), lt-leb b 0x7F (omega arith)) refl)
    (split b 128)

sum-zero : (a b : ℕ) → eqb (a * 256 + b) 0 ≡ (eqb b 0 && eqb a 0)
sum-zero a b =
    ⊎_elim
    (λ h. rw (ne_eqb b 0 (λ e. omega arith), ne_eqb (a * 256 + b) 0 (λ e. omega arith)) refl)
    (λ h. ⊎_elim (λ k. rw (eq-eqb b 0 (omega arith), ne_eqb a 0 (λ e. omega arith), ne_eqb (a * 256 + b) 0 (λ e. omega arith)) refl) (λ k. rw (eq-eqb b 0 (omega arith), eq-eqb a 0 (omega arith), eq-eqb (a * 256 + b) 0 (omega arith)) refl) (split 0 a))
    (split 0 b)

plain-is : (n w : ℕ) → eqb (bit_and w (high_bits n)) 0 ≡ plain (low_bytes n w)
unfolding name_range
plain-is zero w = eq-eqb (bit_and w 0) 0 (and_zero_r w)
plain-is (suc n) w =
    let cut : bit_and w (high_bits n * 256 + 128) ≡ bit_and (w / 256) (high_bits n) * 256 + bit_and (w % 256) 128 =
    ap (λ (x : ℕ). bit_and x (high_bits n * 256 + 128)) (sym (div-add-mod' w 256)) ∙ and_block 8 (w / 256) (high_bits n) (w % 256) 128 (omega arith) (omega arith) in
    ap (λ (x : ℕ). eqb x 0) cut ∙ sum-zero (bit_and (w / 256) (high_bits n)) (bit_and (w % 256) 128)
    ∙ ap₂ (◌&&◌) (byte-bit (w % 256) (omega arith)) (plain-is n (w / 256)) ∙ sym (plain-cons (w % 256) (name_range (low_bytes n (w / 256))))

-- zeros may stand in a name, so that a name and the zeros behind it are tested as one
name-zero : (l : List ℕ) → all_zero l ≡ true → plain l ≡ true
unfolding all_zero name_range
name-zero [] e = refl
name-zero (zero ∷ l) e = name-zero l e
name-zero (suc b ∷ l) e =
    let q = rw (ne_eqb (suc b) 0 (λ z. omega arith)) at e in
    let z : ◌≡◌ {A = ℕ} 0 1 = cc in
    absurd (omega arith)

room-name : (n : ℕ) (l : List ℕ) → (plain (take n l) && all_zero (drop n l)) ≡ (plain l && all_zero (drop n l))
unfolding name_range
room-name zero l = by (all_zero l) refl
  where
    by : (t : Bool) → all_zero l ≡ t → t ≡ (plain l && t)
    by true e = rw (name-zero l e) refl
    by false e = no (plain l)
      where
        no : (b : Bool) → false ≡ (b && false)
        no true = refl
        no false = refl
room-name (suc n) [] = refl
room-name (suc n) (b ∷ l) = by (leb b 0x7F) (room-name n l)
  where
    by : (t : Bool) → (plain (take n l) && all_zero (drop n l)) ≡ (plain l && all_zero (drop n l))
        → (fits (also (cond t Fits Big) (name_range (take n l))) && all_zero (drop n l)) ≡ (fits (also (cond t Fits Big) (name_range l)) && all_zero (drop n l))
    by true e = e
    by false e = refl

-- ---- the two words

module _ (low high n : ℕ) where
  abbrev room : List ℕ
  room = low_bytes 8 low ++ low_bytes 7 high

  abbrev named : Bool
  named = part_fits plain n room

  -- bytes above 7F anywhere, then zeros
  named-is : named ≡ ((plain (low_bytes 8 low) && plain (low_bytes 7 high)) && all_zero (drop n room))
  named-is = room-name n room ∙ ap (λ (t : Bool). t && all_zero (drop n room)) (plain-append (low_bytes 8 low) (low_bytes 7 high))

  pub low-above : (bit_and low 0x8080808080808080 ≡ 0 → ⊥) → false ≡ named
  low-above e = sym (named-is ∙ rw (sym (plain-is 8 low) ∙ ne_eqb (bit_and low 0x8080808080808080) 0 e) refl)

  pub high-above : (bit_and high 0x80808080808080 ≡ 0 → ⊥) → false ≡ named
  high-above e = sym (named-is ∙ rw (sym (plain-is 7 high) ∙ ne_eqb (bit_and high 0x80808080808080) 0 e) (no (plain (low_bytes 8 low)) (all_zero (drop n room))))
    where
      no : (a b : Bool) → ((a && false) && b) ≡ false
      no true b = refl
      no false b = refl

  module _ (whole : low < 0x10000000000000000) (seven : high < 0x100000000000000) (l : bit_and low 0x8080808080808080 ≡ 0) (h : bit_and high 0x80808080808080 ≡ 0) where
    zeros-left : named ≡ all_zero (drop n room)
    zeros-left = named-is ∙ rw (sym (plain-is 8 low) ∙ eq-eqb (bit_and low 0x8080808080808080) 0 l, sym (plain-is 7 high) ∙ eq-eqb (bit_and high 0x80808080808080) 0 h) refl

    pub named-short : n < 8 → (eqb (low / 2 ^ (8 * n)) 0 && eqb high 0) ≡ named
    named-short k =
        sym (zeros-left ∙ ap all_zero (drop-append-le n (low_bytes 8 low) (low_bytes 7 high) (omega arith)) ∙ zero-append (drop n (low_bytes 8 low)) (low_bytes 7 high)
        ∙ ap₂ (◌&&◌) (zero-from n 8 low whole) (sym (low-zero 7 high seven)))

    pub named-long : 8 ≤ n → eqb (high / 2 ^ (8 * (n - 8))) 0 ≡ named
    named-long k =
        let e : n ≡ 8 + (n - 8) = omega arith in
        sym (zeros-left ∙ ap (λ (j : ℕ). all_zero (drop j room)) e ∙ ap all_zero (drop-append-add (low_bytes 8 low) (low_bytes 7 high) (n - 8)) ∙ zero-from (n - 8) 7 high seven)
