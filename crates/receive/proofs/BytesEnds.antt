-- Each way that the bytes call ends, as its outcome.
use Prim.Native.Nat.{ℕ, ◌+◌, ◌≤◌, ◌<◌}
use mathlib.Core.Path.{◌≡◌, refl, ap, ◌∙◌}
use mathlib.Core.List.{List, ◌++◌}
use native.Mathlib.Omega.{arith}
use lib.ListN.{length, get_or, length-append}
use borrow.Author.Tests.{lt-ltb, le-ltb}
use Rattle.std.proofs.lemmas.List.{nil_from_length}
use Rattle.wire.specs.Sizes.{input_most, stream_most}
use Rattle.wire.specs.Numbers.{Bytes}
use Rattle.wire.specs.Serial.{serial}
use Rattle.wire.specs.Run.{hunt}
use Rattle.wire.proofs.CutLaws.{conserved}
use Rattle.wire.proofs.SerialLaws.{pending-short}
use Rattle.record.specs.Record.{Record}
use Rattle.record.specs.Layout.{at_pending_length, record_of}
use Rattle.record.specs.Form.{form_of}
use Rattle.record.specs.InPlace.{Sound}
use Rattle.record.specs.declared.Form.TheVariants.{Good}
use Rattle.command.specs.Hunt.{hunt_of, room_for}
use Rattle.hunt.specs.Progress.{Serves}
use Rattle.call.specs.Outcome.{no_counts, counts, Leaves}
use Rattle.call.proofs.InOrder.{left}
use Rattle.call.specs.Calls.{bytes_call}
use Rattle.call.specs.Ended.{BadForm}
use Rattle.hunt.specs.declared.Counts.{Counts}
use Rattle.call.specs.declared.CallRefusal.{CallRefusal}
use Rattle.call.specs.declared.CallRefusal.TheVariants.{BadLength, NoRoom}
use Rattle.call.proofs.Unfolded.{bytes-by}
use Rattle.call.proofs.Ends.{good-well}
use Rattle.call.proofs.Empty.{empty-input}
use Rattle.hunt.proofs.JoinLaws.{held-is}
use Rattle.command.proofs.Room.{room-enough}

-- the counts of a call fit: no more written than room was asked for, no more skipped than was there
skipped-most : (r : Record) (input : List ℕ) → (hunt_of r input).skipped ≤ length r.pending + length input
unfolding hunt_of hunt
skipped-most r input = omega (arith, conserved serial (r.pending ++ input), length-append r.pending input)

pub served-small : (s input o : List ℕ) (p : Counts) (t out : List ℕ) → Sound s → Bytes input → length input ≤ input_most → Serves (record_of s) input o p t out → (p.written ≤ room_for stream_most) × (p.skipped ≤ stream_most)
served-small s input o p t out sound b h f =
    let few = pending-short (record_of s).pending sound.fit.pending in
    (omega (arith, few, f.written_is, room-enough (record_of s) input b sound.fit), omega (arith, few, f.skipped_is, skipped-most (record_of s) input))

module _ (s input o : List ℕ) where
  pub bytes-bad-record : (why : CallRefusal) → BadForm s why → Leaves (bytes_call s input o) (no_counts why) s o
  bytes-bad-record why h = left (bytes-by s input o ∙ rw (h.0, h.1) refl)

  module _ (g : form_of s ≡ Good) where
    pub bytes-bad-length : input_most < length input → Leaves (bytes_call s input o) (no_counts BadLength) s o
    bytes-bad-length h = left (bytes-by s input o ∙ rw (g, lt-ltb input_most (length input) h) refl)

    module _ (sound : Sound s) (h : length input ≤ input_most) where
      pub bytes-no-room : length o < room_for (get_or s at_pending_length 0 + length input) → Leaves (bytes_call s input o) (no_counts NoRoom) s o
      bytes-no-room k =
          let k' : length o < room_for (length (record_of s).pending + length input) = rw (held-is s sound) at k in
          left (bytes-by s input o ∙ rw (g, le-ltb input_most (length input) h, lt-ltb (length o) (room_for (length (record_of s).pending + length input)) k') refl)

      module _ (k : room_for (get_or s at_pending_length 0 + length input) ≤ length o) where
        pub bytes-empty : Bytes s → length input ≡ 0 → Leaves (bytes_call s input o) (counts 0 0) s o
        bytes-empty bytes z =
            let k' : room_for (length (record_of s).pending + 0) ≤ length o = rw (held-is s sound, z) at k in
            left (ap (λ (l : List ℕ). bytes_call s l o) (nil_from_length input z) ∙ empty-input s o bytes (good-well s g) k')

        pub bytes-done : (p : Counts) (t out : List ℕ) → Serves (record_of s) input o p t out → Leaves (bytes_call s input o) (counts p.written p.skipped) t out
        bytes-done p t out f =
            let k' : room_for (length (record_of s).pending + length input) ≤ length o = rw (held-is s sound) at k in
            left (bytes-by s input o ∙ rw (f.written_is, f.skipped_is, f.record_is, f.bytes, g, le-ltb input_most (length input) h, le-ltb (length o) (room_for (length (record_of s).pending + length input)) k') refl)
