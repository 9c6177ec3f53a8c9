-- The reader's heads: what the bytes behind an AA announce, by the tests of the code; a candidate at a place of a capture; no frame has more than 270 data bytes.
use Prim.Native.Nat.{ℕ, ◌+◌, ◌%◌, ◌≤◌, ◌<◌}
use mathlib.Core.Path.{◌≡◌, refl, sym, ◌∙◌}
use mathlib.Core.Bool.{Bool, true, false, cond, true≢false, ◌||◌}
use mathlib.Core.List.{List}
use native.Mathlib.Omega.{arith}
use lib.ListN.{length, get_or, drop}
use lib.Seq.{get_or-drop}
use lib.Dec.{ltb, eqb}
use borrow.Author.Tests.{lt-ltb, le-ltb, eq-eqb, ne_eqb}
use Rattle.wire.specs.declared.Size.{Size}
use Rattle.wire.specs.declared.Size.TheVariants.{NoHead, NeedMore, Of}
use Rattle.wire.specs.Sizes.{data_most, long_most, six_values}
use Rattle.wire.specs.Numbers.{Bytes}
use Rattle.wire.specs.Frames.{Wait, Take, Tear, look, Passed}
use Rattle.wire.specs.Serial.{NotHead, Fixed, ByThird, told, front, fronted, ends_in_85, Noise}
use Rattle.wire.specs.Reader.{is_reply, is_long, long_by, measuring_by, reader_head, reader}
use Rattle.wire.proofs.SerialLaws.{noise-passed, alone_at, told_at, candidate-waits, candidate-torn, candidate-frame}

module _ (b : ℕ) where
  module _ (decides : (is_long b || eqb b 0x15) ≡ true) where
    long-by : (t : Bool) → (t || false) ≡ true → t ≡ true
    long-by true e = refl
    long-by false e = e

    pub third-long : (b ≡ 0x15 → ⊥) → (t : ℕ) → Of (t + data_most) ≡ told (reader_head b) true t
    third-long n t =
        let f : eqb b 0x15 ≡ false = ne_eqb b 0x15 n in
        let g : is_long b ≡ true = long-by (is_long b) (rw f at decides) in
        rw (f, g) refl

    unsaid-by : (a c : Bool) (t : ℕ) → (a || c) ≡ true → told (cond c (ByThird measuring_by) (cond a (ByThird long_by) (cond (is_reply b) (Fixed (b % 16)) NotHead))) false t ≡ NeedMore
    unsaid-by a true t e = refl
    unsaid-by true false t e = refl
    unsaid-by false false t e = absurd (true≢false (sym e))

    pub third-missing : (t : ℕ) → NeedMore ≡ told (reader_head b) false t
    third-missing t = sym (unsaid-by (is_long b) (eqb b 0x15) t decides)

  pub third-measuring : b ≡ 0x15 → (t : ℕ) → t ≡ 0xB0 → Of six_values ≡ told (reader_head b) true t
  third-measuring e t h = rw (eq-eqb b 0x15 e, eq-eqb t 0xB0 h) refl

  pub third-other : b ≡ 0x15 → (t : ℕ) → (t ≡ 0xB0 → ⊥) → NoHead ≡ told (reader_head b) true t
  third-other e t h = rw (eq-eqb b 0x15 e, ne_eqb t 0xB0 h) refl

  module _ (plain : (is_long b || eqb b 0x15) ≡ false) (third : Bool) (t : ℕ) where
    plain_by : (a c d : Bool) (n : ℕ) → (a || c) ≡ false → told (cond c (ByThird measuring_by) (cond a (ByThird long_by) (cond d (Fixed n) NotHead))) third t ≡ told (cond d (Fixed n) NotHead) third t
    plain_by true true d n e = absurd (true≢false e)
    plain_by false true d n e = absurd (true≢false e)
    plain_by true false d n e = absurd (true≢false e)
    plain_by false false d n e = refl

    plain-is : told (reader_head b) third t ≡ told (cond (is_reply b) (Fixed (b % 16)) NotHead) third t
    plain-is = plain_by (is_long b) (eqb b 0x15) (is_reply b) (b % 16) plain

    pub reply-said : is_reply b ≡ true → Of (b % 16) ≡ told (reader_head b) third t
    reply-said e = sym (plain-is ∙ rw e refl)

    pub reply-none : is_reply b ≡ false → NoHead ≡ told (reader_head b) third t
    reply-none e = sym (plain-is ∙ rw e refl)

-- ---- at a place of a capture

pub reader-is : reader ≡ fronted reader_head ends_in_85
unfolding reader
reader-is = refl

front_of : (a s : Bool) (v : Size) (n : ℕ) → front a s v ≡ Of n → v ≡ Of n
front_of false s v n e = let z : ◌≡◌ {A = ℕ} 0 1 = cc in absurd (omega arith)
front_of true false v n e = let z : ◌≡◌ {A = ℕ} 0 1 = cc in absurd (omega arith)
front_of true true v n e = e

-- no frame has more data than the longest reply
few : (v : Size) (m n : ℕ) → v ≡ Of m → m ≤ long_most → v ≡ Of n → n ≤ long_most
few v m n p h e = let q : m ≡ n = cc in omega arith

few-by : (a c d third : Bool) (b t n : ℕ) → t < 256 → told (cond a (ByThird measuring_by) (cond c (ByThird long_by) (cond d (Fixed (b % 16)) NotHead))) third t ≡ Of n → n ≤ long_most
few-by true c d false b t n h e = let z : ◌≡◌ {A = ℕ} 0 1 = cc in absurd (omega arith)
few-by true c d true b t n h e = six (eqb t 0xB0) e
  where
    six : (x : Bool) → cond x (Of six_values) NoHead ≡ Of n → n ≤ long_most
    six true e = few (Of six_values) six_values n refl (omega arith) e
    six false e = let z : ◌≡◌ {A = ℕ} 0 1 = cc in absurd (omega arith)
few-by false true d false b t n h e = let z : ◌≡◌ {A = ℕ} 0 1 = cc in absurd (omega arith)
few-by false true d true b t n h e = few (Of (t + data_most)) (t + data_most) n refl (omega arith) e
few-by false false true third b t n h e = few (Of (b % 16)) (b % 16) n refl (omega arith) e
few-by false false false third b t n h e = let z : ◌≡◌ {A = ℕ} 0 1 = cc in absurd (omega arith)

module _ (l : List ℕ) (at : ℕ) where
  pub read-few : (n : ℕ) → Bytes l → reader.size (drop at l) ≡ Of n → n ≤ long_most
  read-few n bytes e =
      let m = drop at l in
      let b = get_or m 1 0 in
      let f : (fronted reader_head ends_in_85).size m ≡ Of n = rw reader-is at e in
      few-by (eqb b 0x15) (is_long b) (is_reply b) (ltb 2 (length m)) b (get_or m 2 0) n (rw (get_or-drop at l 2 0) (bytes (at + 2))) (front_of (eqb (get_or m 0 0) 0xAA) (ltb 1 (length m)) _ n f)

  -- what the tests of the code say, at an AA
  module _ (aa : get_or l at 0 ≡ 0xAA) where
    pub read-alone : length l ≤ at + 1 → NeedMore ≡ reader.size (drop at l)
    read-alone h = rw reader-is (sym (alone_at reader_head l at aa h))

    module _ (two : at + 1 < length l) where
      abbrev b : ℕ
      b = get_or l (at + 1) 0

      by-told : (r : Size) → r ≡ told (reader_head b) (ltb (at + 2) (length l)) (get_or l (at + 2) 0) → r ≡ reader.size (drop at l)
      by-told r e = rw reader-is (e ∙ sym (told_at reader_head l at aa two))

      pub read-unsaid : (is_long b || eqb b 0x15) ≡ true → length l ≤ at + 2 → NeedMore ≡ reader.size (drop at l)
      read-unsaid d h = by-told NeedMore (rw (le-ltb (at + 2) (length l) h) (third-missing b d (get_or l (at + 2) 0)))

      pub read-third : at + 2 < length l → (r : Size) → r ≡ told (reader_head b) true (get_or l (at + 2) 0) → r ≡ reader.size (drop at l)
      read-third h r e = by-told r (rw (lt-ltb (at + 2) (length l) h) e)

      module _ (plain : (is_long b || eqb b 0x15) ≡ false) where
        pub read-reply : is_reply b ≡ true → Of (b % 16) ≡ reader.size (drop at l)
        read-reply e = by-told (Of (b % 16)) (reply-said b plain (ltb (at + 2) (length l)) (get_or l (at + 2) 0) e)

        pub read_none : is_reply b ≡ false → NoHead ≡ reader.size (drop at l)
        read_none e = by-told NoHead (reply-none b plain (ltb (at + 2) (length l)) (get_or l (at + 2) 0) e)

      -- the byte behind the AA of a candidate is no AA
      pub head-no-aa : (n : ℕ) → reader.size (drop at l) ≡ Of n → b ≡ 0xAA → ⊥
      head-no-aa n e q =
          let f : told (reader_head b) (ltb (at + 2) (length l)) (get_or l (at + 2) 0) ≡ Of n = sym (told_at reader_head l at aa two) ∙ rw reader-is at e in
          let g : NoHead ≡ Of n = rw q at f in
          let z : ◌≡◌ {A = ℕ} 0 1 = cc in
          omega arith

  -- a candidate
  module _ (n : ℕ) (e : reader.size (drop at l) ≡ Of n) where
    said : (fronted reader_head ends_in_85).size (drop at l) ≡ Of n
    said = rw reader-is at e

    pub read-waits : at < length l → length l ≤ at + 3 + n → look reader (drop at l) ≡ Wait
    read-waits b h = rw reader-is (candidate-waits reader_head l at n said b h)

    module _ (h : at + 3 + n < length l) where
      pub read-torn : (get_or l (at + 3 + n) 0 ≡ 0x85 → ⊥) → look reader (drop at l) ≡ Tear
      read-torn b = rw reader-is (candidate-torn reader_head l at n said (at + 3 + n) refl h b)

      pub read-frame : get_or l (at + 3 + n) 0 ≡ 0x85 → look reader (drop at l) ≡ Take n
      read-frame b = rw reader-is (candidate-frame reader_head l at n said (at + 3 + n) refl h b)

pub read-noise : (l : List ℕ) (from at : ℕ) → Noise l from at → Passed reader l from at
read-noise l from at p = rw reader-is (noise-passed reader_head ends_in_85 l from at p)
