-- What the byte behind the AA announces, in code and in the definitions.
use Prim.Native.Nat.{ℕ, ◌%◌, ◌≤◌, ◌<◌}
use mathlib.Core.Path.{◌≡◌, refl}
use mathlib.Core.Bool.{Bool, true, false}
use native.Mathlib.Omega.{arith}
use borrow.Author.Tests.{le-leb, lt-leb}
use Rattle.wire.specs.Sizes.{data_most, frame_most}
use Rattle.wire.specs.Serial.{Head, NotHead, Fixed, ByThird, is_head, serial_head, line_head}
use Rattle.wire.specs.Heads.{announced_by, announced_of}
use Rattle.wire.specs.declared.Line.{Line}
use Rattle.wire.specs.declared.Line.TheVariants.{Board}
use Rattle.std.specs.declared.option.Option.TheVariants.{Some, None}
use Rattle.wire.proofs.SerialLaws.{Brief, line-brief}

pub low-none : (b : ℕ) → b < 0x90 → None ≡ announced_by (serial_head b)
low-none b h = simp (lt-leb 0x90 b h)

pub high-none : (b : ℕ) → 0xAF < b → None ≡ announced_by (serial_head b)
high-none b h = let g : 0x90 ≤ b = omega arith in simp (le-leb 0x90 b g, lt-leb b 0xAF h)

pub head-params : (b : ℕ) → 0x90 ≤ b → b ≤ 0xAF → Some (b % 16) ≡ announced_by (serial_head b)
head-params b g h = simp (le-leb 0x90 b g, le-leb b 0xAF h)

-- there is no line but the board's, so a match on the line tells nothing
pub board-line : (k : Line) (b : ℕ) → announced_by (serial_head b) ≡ announced_of k b
board-line Board b = refl

params-by : (v : Head) (n : ℕ) → announced_by v ≡ Some n → v ≡ Fixed n
params-by NotHead n e = let z : ◌≡◌ {A = ℕ} 0 1 = cc in absurd (omega arith)
params-by (Fixed m) n e = cc
params-by (ByThird says) n e = let z : ◌≡◌ {A = ℕ} 0 1 = cc in absurd (omega arith)

none-by : (v : Head) → Brief v frame_most → announced_by v ≡ None → v ≡ NotHead
none-by NotHead w e = refl
none-by (Fixed m) w e = let z : ◌≡◌ {A = ℕ} 0 1 = cc in absurd (omega arith)
none-by (ByThird says) w e = absurd w

few-by : (v : Head) (n : ℕ) → Brief v frame_most → v ≡ Fixed n → n ≤ data_most
few-by NotHead n w e = let z : ◌≡◌ {A = ℕ} 0 1 = cc in absurd (omega arith)
few-by (Fixed m) n w e = let q : m ≡ n = cc in omega arith
few-by (ByThird says) n w e = absurd w

module _ (k : Line) (b : ℕ) where
  pub params-head : (n : ℕ) → announced_of k b ≡ Some n → line_head k b ≡ Fixed n
  params-head n e = params-by (line_head k b) n e

  pub none-head : announced_of k b ≡ None → line_head k b ≡ NotHead
  none-head e = none-by (line_head k b) (line-brief k b) e

  pub params-few : (n : ℕ) → announced_of k b ≡ Some n → n ≤ data_most
  params-few n e = few-by (line_head k b) n (line-brief k b) (params-head n e)

-- ---- the board's heads by their test

pub no-head : (b : ℕ) → announced_by (serial_head b) ≡ None → is_head b ≡ false
no-head b e = by (is_head b) refl
  where
    by : (t : Bool) → is_head b ≡ t → t ≡ false
    by true t = let f : Some (b % 16) ≡ None = rw t at e in let z : ◌≡◌ {A = ℕ} 0 1 = cc in absurd (omega arith)
    by false t = refl

pub some-head : (b k : ℕ) → announced_by (serial_head b) ≡ Some k → (is_head b ≡ true) × (b % 16 ≡ k)
some-head b k e = by (is_head b) refl
  where
    by : (t : Bool) → is_head b ≡ t → (t ≡ true) × (b % 16 ≡ k)
    by true t = let f : Some (b % 16) ≡ Some k = rw t at e in (refl, cc)
    by false t = let f : None ≡ Some k = rw t at e in let z : ◌≡◌ {A = ℕ} 0 1 = cc in absurd (omega arith)
