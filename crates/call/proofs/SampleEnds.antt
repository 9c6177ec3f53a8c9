-- Each way that samples ends, as its outcome.
use Prim.Native.Nat.{ℕ, ◌≤◌, ◌<◌}
use mathlib.Core.Path.{◌≡◌, refl, ◌∙◌}
use mathlib.Core.Bool.{true, false}
use mathlib.Core.List.{List, [], ◌∷◌}
use lib.ListN.{length, take}
use borrow.Author.Tests.{eq-eqb, ne_eqb, lt-ltb, le-ltb}
use Rattle.wire.specs.Numbers.{put}
use Rattle.wire.proofs.PutLaws.{put-nil}
use Rattle.peak.specs.Pairs.{all_finite}
use Rattle.record.specs.Layout.{channels, bytes_of, record_of}
use Rattle.record.specs.Form.{form_of}
use Rattle.record.specs.Reading.{reading_of}
use Rattle.record.specs.declared.Form.TheVariants.{Good}
use Rattle.call.specs.declared.CallRefusal.{CallRefusal}
use Rattle.call.specs.declared.CallRefusal.TheVariants.{BadLength, NoRoom, NotFinite}
use Rattle.call.specs.Outcome.{no_counts, counts, Leaves}
use Rattle.call.specs.Ended.{BadForm}
use Rattle.call.proofs.InOrder.{left}
use Rattle.call.specs.Calls.{sample_size, measuring_size, measuring_frame, samples_call}
use Rattle.call.proofs.Unfolded.{samples-by}

module _ (s sample o : List ℕ) where
  pub bad-record : (why : CallRefusal) → BadForm s why → Leaves (samples_call s sample o) (no_counts why) s o
  bad-record why h = left (samples-by s sample o ∙ rw (h.0, h.1) refl)

  module _ (good : form_of s ≡ Good) where
    pub bad-length : (length sample ≡ sample_size → ⊥) → Leaves (samples_call s sample o) (no_counts BadLength) s o
    bad-length h = left (samples-by s sample o ∙ rw (good, ne_eqb (length sample) sample_size h) refl)

    module _ (long : length sample ≡ sample_size) where
      pub no_room : length o < measuring_size → Leaves (samples_call s sample o) (no_counts NoRoom) s o
      no_room h = left (samples-by s sample o ∙ rw (good, eq-eqb (length sample) sample_size long, lt-ltb (length o) measuring_size h) refl)

      module _ (room : measuring_size ≤ length o) where
        pub not_finite : all_finite channels sample 0 ≡ false → Leaves (samples_call s sample o) (no_counts NotFinite) s o
        not_finite h = left (samples-by s sample o ∙ rw (good, eq-eqb (length sample) sample_size long, le-ltb (length o) measuring_size room, h) refl)

        module _ (finite : all_finite channels sample 0 ≡ true) (t : List ℕ) (kept : t ≡ bytes_of (reading_of (record_of s) sample)) where
          pub silent : (record_of s).flags.sending ≡ false → Leaves (samples_call s sample o) (counts 0 0) t o
          silent h = left (samples-by s sample o ∙ rw (kept, good, eq-eqb (length sample) sample_size long, le-ltb (length o) measuring_size room, finite, h, put-nil o 0) refl)

          pub sent : (record_of s).flags.sending ≡ true → (p : List ℕ) → p ≡ put o 0 (measuring_frame channels sample) → Leaves (samples_call s sample o) (counts measuring_size 0) t p
          sent h p q = left (samples-by s sample o ∙ rw (kept, q, good, eq-eqb (length sample) sample_size long, le-ltb (length o) measuring_size room, finite, h) refl)

-- "24 bytes", "28 bytes", "AA 15 B0"
pub six-channels : (sample_size ≡ 24) × (measuring_size ≡ 28) × ((sample : List ℕ) → take 3 (measuring_frame channels sample) ≡ 0xAA ∷ 0x15 ∷ 0xB0 ∷ [])
six-channels = (refl, refl, λ sample. refl)
