-- The factory record and power-on, as stores into the bytes.
use Prim.Native.Nat.{ℕ, ◌-◌, ◌≤◌}
use mathlib.Core.Path.{◌≡◌, refl, ap, ◌∙◌}
use mathlib.Core.Bool.{Bool}
use mathlib.Core.List.{List, [], ◌∷◌, ◌++◌, append-nil}
use native.Mathlib.Omega.{arith}
use lib.ListN.{length, get_or, set, replicate, length-set, drop_of_length-le}
use lib.Dec.{eqb}
use lib.Bits.{bit_and, bit_or}
use borrow.Author.Tests.{eqb-true}
use Rattle.wire.specs.Numbers.{put}
use Rattle.wire.proofs.PutLaws.{put-zero}
use Rattle.record.specs.Layout.{record_size, version, at_flags, at_tries, at_outputs, at_name_length, at_name, at_pending_length, nibble, bytes_of}
use Rattle.record.specs.Births.{factory_name, factory, powered_on}
use Rattle.record.specs.InPlace.{Turns}
use Rattle.record.proofs.InPlaceLaws.{sound-long}
use Rattle.record.proofs.Choices.{sixteen-each}

abbrev head : List ℕ
head = 0x00 ∷ record_size ∷ version ∷ 4 ∷ 0 ∷ 0x55 ∷ 0x53 ∷ 0x43 ∷ 0x31 ∷ 0 ∷ 12 ∷ 0 ∷ 1 ∷ 1 ∷ []

abbrev blank : List ℕ
blank = replicate record_size 0

cleared : (d : List ℕ) → length d ≡ record_size → put d 0 blank ≡ blank
cleared d h = let past : length d ≤ record_size = omega arith in put-zero d blank ∙ ap (λ (l : List ℕ). blank ++ l) (drop_of_length-le d past) ∙ append-nil blank

stored : put (set (put blank 0 head) at_name_length 11) at_name factory_name ≡ bytes_of factory
unfolding put factory bytes_of
stored = refl

pub factory-stores : (d x y z : List ℕ) → length d ≡ record_size → x ≡ put d 0 blank → y ≡ put x 0 head → z ≡ put (set y at_name_length 11) at_name factory_name → z ≡ bytes_of factory
factory-stores d x y z h e₁ e₂ e₃ = e₃ ∙ ap (λ (l : List ℕ). put (set l at_name_length 11) at_name factory_name) (e₂ ∙ ap (λ (l : List ℕ). put l 0 head) (e₁ ∙ cleared d h)) ∙ stored

pub ruleset there = (sound-long, length-set)

fresh-flags : (a b c d : Bool) → bit_or (bit_and (nibble a b c d) 244) 4 ≡ 4
fresh-flags a b c d = eqb-true (bit_or (bit_and (nibble a b c d) 244) 4) 4 (sixteen-each (λ a b c d. eqb (bit_or (bit_and (nibble a b c d) 244) 4) 4) refl a b c d)

pub power-on-stores : (s : List ℕ) → let t = set s at_flags (bit_and (get_or s at_flags 0) 244) in
    Turns s (put (set (set (set t at_flags (bit_or (get_or t at_flags 0) 4)) at_tries 0) at_outputs 0) at_pending_length (replicate (record_size - at_pending_length) 0)) (λ r. powered_on r)
unfolding put bytes_of powered_on
power-on-stores s r i e =
    rw e (ap (λ (n : ℕ). put (set (set (set (bytes_of r) at_flags n) at_tries 0) at_outputs 0) at_pending_length (replicate (record_size - at_pending_length) 0)) (fresh-flags r.flags.opened r.flags.unlocked r.flags.sending r.flags.reading))
