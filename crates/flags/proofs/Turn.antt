-- A store in the bytes of a record is the change of its field, in the words of the code that stores.
use Prim.Native.Nat.{ℕ, ◌+◌, ◌-◌, ◌<◌}
use mathlib.Core.Path.{sym, ap, ap₂, ◌∙◌}
use mathlib.Core.Bool.{Bool, cond}
use mathlib.Core.List.{List}
use lib.ListN.{length, get_or, set}
use lib.Bits.{bit_and, bit_or}
use Rattle.record.specs.declared.Flag.{Flag}
use Rattle.record.specs.Record.{with_flags, with_tries}
use Rattle.record.specs.Flags.{worth, flag_of, with_flag}
use Rattle.record.specs.Layout.{FlagByte, TriesByte, place, bytes_in, at_flags, at_tries, bit_of}
use Rattle.record.specs.InPlace.{SoundAt, TurnsAt, ShowsAt}
use Rattle.record.proofs.Stores.{get-flag_in, set-flag_in, get-tries_in, set-tries_in}
use Rattle.record.proofs.InPlaceLaws.{turns_at, reaches}

module _ (s : List ℕ) where
  -- the bytes are there
  pub flags_there : SoundAt FlagByte at_flags s → at_flags < length s
  flags_there h = reaches FlagByte at_flags s h

  pub tries_there : SoundAt TriesByte at_tries s → at_tries < length s
  tries_there h = reaches TriesByte at_tries s h

  pub shows-flag : (k : Flag) → ShowsAt FlagByte at_flags s (bit_of (get_or s at_flags 0) (worth k)) (λ r. flag_of r.flags k)
  shows-flag k p w r i e = ap₂ (λ (l : List ℕ) (at : ℕ). bit_of (get_or l at 0) (worth k)) e (sym w.stands) ∙ get-flag_in p w.laid r k

  pub turn-flag : (k : Flag) (v : Bool) → TurnsAt FlagByte at_flags s (set s at_flags (cond v (bit_or (get_or s at_flags 0) (worth k)) (bit_and (get_or s at_flags 0) (255 - worth k)))) (λ r. with_flags r (with_flag r.flags k v))
  turn-flag k v =
      turns_at FlagByte at_flags s (λ at b. set b at (cond v (bit_or (get_or b at 0) (worth k)) (bit_and (get_or b at 0) (255 - worth k)))) (λ r. with_flags r (with_flag r.flags k v))
      (λ p laid r i e. set-flag_in p laid r k v)

  pub turn-tries : TurnsAt TriesByte at_tries s (set s at_tries (get_or s at_tries 0 + 1)) (λ r. with_tries r (r.tries + 1))
  turn-tries =
      turns_at TriesByte at_tries s (λ at b. set b at (get_or b at 0 + 1)) (λ r. with_tries r (r.tries + 1))
      (λ p laid r i e. ap (λ (n : ℕ). set (bytes_in p r) (place p TriesByte) (n + 1)) (get-tries_in p laid r) ∙ set-tries_in p laid r (r.tries + 1))
