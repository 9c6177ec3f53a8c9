-- The bytes of a number, low byte first, as the library's methods read and store them.
use Prim.Native.Nat.{ℕ, zero, suc, ◌/◌, ◌%◌, ◌^◌}
use mathlib.Core.Path.{◌≡◌, refl, sym, ap, ap₂, ◌∙◌}
use mathlib.Core.List.{◌∷◌}
use native.Mathlib.Nat.{div-div-eq-div-mul, pow-suc}
use native.Mathlib.Omega.{arith}
use Rattle.std.specs.Int.{byte_at, bytes_low_first}
use Rattle.low.specs.Low.{low_bytes}

byte-low : (i w : ℕ) → byte_at i w ≡ w / 256 ^ i % 256
byte-low zero w = let e : w / 1 ≡ w = omega arith in rw e refl
byte-low (suc i) w = refl

low-on : (n i w : ℕ) → bytes_low_first i n w ≡ low_bytes n (w / 256 ^ i)
low-on zero i w = refl
low-on (suc n) i w =
    let e : w / 256 ^ suc i ≡ w / 256 ^ i / 256 = rw pow-suc (sym (div-div-eq-div-mul w (256 ^ i) 256)) in
    ap₂ (◌∷◌) (byte-low i w) (low-on n (suc i) w ∙ ap (low_bytes n) e)

-- the bytes that `to_le_bytes` gives
pub low-first : (n w : ℕ) → bytes_low_first 0 n w ≡ low_bytes n w
low-first n w = let e : w / 1 ≡ w = omega arith in low-on n 0 w ∙ ap (low_bytes n) e
