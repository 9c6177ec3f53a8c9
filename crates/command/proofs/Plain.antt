-- Every reply of a board is of kind 5 or 6, of at most 15 bytes, and of 15 with status 0.
use Prim.Native.Nat.{ℕ, ◌≤◌, zero-le}
use mathlib.Core.Path.{◌≡◌, refl}
use mathlib.Core.Bool.{true, and-eq-true_iff}
use mathlib.Core.List.{List, [], ◌∷◌, ◌++◌}
use native.Mathlib.Omega.{arith}
use lib.ListN.{drop}
use lib.Dec.{leb}
use borrow.Author.Tests.{leb-true}
use Rattle.wire.specs.Numbers.{Bytes}
use Rattle.wire.specs.Frames.{Piece, Whole, Broken, All, cut}
use Rattle.wire.specs.Serial.{is_head, serial, head_of, params_of}
use Rattle.wire.specs.Replies.{Reply}
use Rattle.wire.specs.Run.{runs, hunt}
use Rattle.wire.proofs.NumberLaws.{bytes-append}
use Rattle.wire.proofs.CutLaws.{Fair, all-pieces, pieces-fair}
use Rattle.wire.proofs.SerialLaws.{serial-huntable, taken-headed}
use Rattle.wire.proofs.SpokenLaws.{Plain}
use Rattle.record.specs.Record.{Record}
use Rattle.record.specs.Form.{InRange}
use Rattle.command.specs.declared.Verdict.{Verdict}
use Rattle.command.specs.declared.Verdict.TheVariants.{Do, Refuse}
use Rattle.command.specs.Step.{settled, step_of, on_piece}
use Rattle.command.specs.Hunt.{hunt_of}
use Rattle.command.proofs.Refused.{verdict, step_is}
use Rattle.command.proofs.Keep.{data-short, step_in}

module _ (r : Record) (f : List ℕ) (headed : is_head (head_of f) ≡ true) (i : InRange r) where
  both : (0x90 ≤ head_of f) × (head_of f ≤ 0xAF)
  both = let w = (and-eq-true_iff (leb 0x90 (head_of f)) (leb (head_of f) 0xAF)).0 headed in (leb-true 0x90 (head_of f) w.0, leb-true (head_of f) 0xAF w.1)

  settled_plain : (v : Verdict) → Plain (settled r (head_of f) (params_of f) v).reply
  settled_plain (Do c) = record { kind_low = omega (arith, both.0); kind_high = omega (arith, both.1); short = data-short c r (params_of f) i; full = λ e. refl }
  settled_plain (Refuse why) = record { kind_low = omega (arith, both.0); kind_high = omega (arith, both.1); short = zero-le; full = λ e. absurd (omega arith) }

  step-plain : Plain (step_of r f).reply
  step-plain = rw (step_is r f) (settled_plain (verdict r f))

unfoldable pub AllPlain : List Reply → Type 0
AllPlain [] = Unit {0}
AllPlain (a ∷ said) = Plain a × AllPlain said

-- a frame of the board's line has one of its heads
abbrev Headed : Piece → Type 0
Headed (Whole f) = is_head (head_of f) ≡ true
Headed (Broken head) = Unit {0}

runs-plain : (r : Record) (ps : List Piece) → All Fair ps → All Headed ps → InRange r → AllPlain (runs on_piece r ps).said
unfolding All runs AllPlain
runs-plain r [] f h i = tt
runs-plain r (Whole g ∷ ps) f h i = (step-plain r g h.0 i, runs-plain (step_of r g).after ps f.1 h.1 (step_in r g f.0.1 i))
runs-plain r (Broken head ∷ ps) f h i = runs-plain r ps f.1 h.1 i

pub hunt-plain : (r : Record) (input : List ℕ) → Bytes input → InRange r → AllPlain (hunt_of r input).said
unfolding hunt_of hunt
hunt-plain r input b i =
    let l = r.pending ++ input in
    let bytes : Bytes l = bytes-append r.pending input i.pending_bytes b in
    runs-plain r (cut serial l).pieces (pieces-fair serial l bytes) (all-pieces serial Headed l (λ k n e. taken-headed serial serial-huntable (drop k l) n e) (λ k e. tt)) i
