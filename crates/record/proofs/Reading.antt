-- A reading keeps the record in range.
use Prim.Native.Nat.{ℕ, ◌+◌, ◌*◌, ◌≤◌, ◌<◌}
use mathlib.Core.Path.{◌≡◌, refl, ◌∙◌}
use mathlib.Core.Bool.{Bool, true, false}
use mathlib.Core.List.{List}
use native.Mathlib.Omega.{arith}
use lib.ListN.{length, get_or, get_or-eq_default}
use lib.Dec.{ltb}
use borrow.Author.Tests.{ltb-true, ltb-false}
use Rattle.wire.specs.Numbers.{Bytes, word_at}
use Rattle.peak.specs.Pairs.{Pair, no_pair, seen, seen_all, all_finite, pair_fits}
use Rattle.peak.proofs.PairLaws.{seen-at, seen-word, seen-fits, finite-at, length_seen}
use Rattle.record.specs.Record.{Record, with_flags, with_pairs}
use Rattle.record.specs.Layout.{Plan, current, channels}
use Rattle.record.specs.Form.{InRangeIn, InRange}
use Rattle.record.specs.Reading.{reading_of}
use Rattle.record.proofs.Parts.{word_lt}

abbrev Word : Pair → Type 0
Word p = (p.greatest < 0x100000000) × (p.smallest < 0x100000000)

module _ (p : Plan) (r : Record) (sample : List ℕ) (bytes : Bytes sample) (i : InRangeIn p r) where
  abbrev next : List Pair
  next = seen_all r.flags.reading r.pairs sample 0

  next-at : (k : ℕ) → k < p.channels → get_or next k no_pair ≡ seen r.flags.reading (get_or r.pairs k no_pair) (word_at sample (0 + 4 * k))
  next-at k h = seen-at r.flags.reading r.pairs sample 0 k (rw i.six h)

  next-six : length next ≡ p.channels
  next-six = length_seen r.flags.reading r.pairs sample 0 ∙ i.six

  next-words : (k : ℕ) → Word (get_or next k no_pair)
  next-words k = go (ltb k p.channels) refl
    where
      go : (t : Bool) → ltb k p.channels ≡ t → Word (get_or next k no_pair)
      go true e =
          rw (next-at k (ltb-true k p.channels e))
          (seen-word r.flags.reading (get_or r.pairs k no_pair) (word_at sample (0 + 4 * k)) 0x100000000 (word_lt sample bytes (0 + 4 * k)) (i.words k).0 (i.words k).1)
      go false e =
          let past : length next ≤ k = omega (arith, ltb-false k p.channels e, next-six) in
          rw (get_or-eq_default next no_pair past) (omega arith, omega arith)

  pub reading-in_in : all_finite p.channels sample 0 ≡ true → InRangeIn p (reading_of r sample)
  unfolding reading_of with_flags with_pairs
  reading-in_in finite =
      let fit : (k : ℕ) → k < p.channels → pair_fits true (get_or next k no_pair) ≡ true =
      λ k h. rw (next-at k h) (seen-fits r.flags.reading (get_or r.pairs k no_pair) (word_at sample (0 + 4 * k)) (i.pairs k h) (finite-at p.channels sample 0 k finite h)) in
      record {
        opened = i.opened;
        tries = i.tries;
        code = i.code;
        power = i.power;
        power_half = i.power_half;
        step = i.step;
        mode = i.mode;
        on-off = i.on-off;
        five = i.five;
        inputs = i.inputs;
        interval = i.interval;
        filter = i.filter;
        name_length = i.name_length;
        name = i.name;
        model_length = i.model_length;
        model = i.model;
        model_bytes = i.model_bytes;
        pending = i.pending;
        pending_bytes = i.pending_bytes;
        six = next-six;
        words = next-words;
        pairs = fit;
        counter = i.counter;
        silent = i.silent;
        uncounted = i.uncounted;
      }

pub reading-in : (r : Record) (sample : List ℕ) → Bytes sample → InRange r → all_finite channels sample 0 ≡ true → InRange (reading_of r sample)
reading-in r sample b i f = reading-in_in current r sample b i f
