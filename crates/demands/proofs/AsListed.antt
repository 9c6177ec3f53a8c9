-- One frame by its checks, and frames one after the other.
use Prim.Native.Nat.{ℕ, ◌+◌, ◌-◌, ◌*◌}
use mathlib.Core.Path.{◌≡◌, refl, sym, ap, ◌∙◌}
use mathlib.Core.Logic.{◌≢◌}
use mathlib.Core.Bool.{Bool, true, false}
use mathlib.Core.List.{List, [], ◌∷◌, ◌++◌}
use native.Mathlib.Nat.{zero-add}
use native.Mathlib.Omega.{arith}
use lib.ListN.{length, get_or, get_or-eq_default}
use lib.Dec.{ltb, eqb}
use borrow.Author.Tests.{lt-ltb, le-leb, lt-leb, eq-eqb, ne_eqb, eqb-true, ltb-true, ltb-false}
use Rattle.wire.specs.Numbers.{word_at}
use Rattle.wire.specs.Frames.{Whole, Broken}
use Rattle.wire.specs.Serial.{serial, head_of, number_of, params_of}
use Rattle.wire.specs.Replies.{Reply, kind_of, reply_bytes, replies_bytes}
use Rattle.wire.specs.Run.{runs, hunt}
use Rattle.wire.proofs.NumberLaws.{part-all}
use Rattle.wire.proofs.CutLaws.{cut-over, cut-wait, cut-skip, cut-take, cut-tear}
use Rattle.wire.proofs.SerialLaws.{look-lines}
use Rattle.wire.proofs.RunLaws.{runs_append}
use Rattle.wire.proofs.PutLaws.{put-zero}
use Rattle.peak.specs.Pairs.{Pair, no_pair, seen, pair_fits, pair_bytes}
use Rattle.peak.proofs.PairLaws.{both, seen-at, length_seen}
use Rattle.record.specs.Record.{Record, with_flags, with_tries, with_pairs}
use Rattle.record.specs.Layout.{channels, record_of}
use Rattle.record.specs.Births.{factory, powered_on}
use Rattle.record.specs.Reading.{reading_of}
use Rattle.command.specs.declared.Command.{Command}
use Rattle.command.specs.declared.Command.TheVariants.{ReadPair}
use Rattle.command.specs.declared.Refusal.{Refusal}
use Rattle.command.specs.declared.Refusal.TheVariants.{Unknown, Unbuilt, Miscounted, NoAccess, BadCode, TooBig, TooSmall}
use Rattle.command.specs.declared.Verdict.{Verdict}
use Rattle.command.specs.declared.Verdict.TheVariants.{Do, Refuse}
use Rattle.command.specs.Judge.{status_of, by_number, judged}
use Rattle.command.specs.Effects.{effect_of, data_of}
use Rattle.command.specs.Step.{step_of, left_by, settled, on_piece}
use Rattle.command.proofs.Refused.{verdict-is, verdict, step_is, passed, takes-effect, refused-silent}
use Rattle.command.specs.Hunt.{hunt_of, record_after}
use Rattle.demands.specs.AsListed.{number, Legal, FrameAsListed, BeforeReading, announced, SixLines, InTurn, ReadingTaken, OtherCalls, AnswersAsListed}
use Rattle.demands.proofs.FactoryLaws.{factory-done}
use Rattle.demands.proofs.PowerOnLaws.{power-on-done}
use Rattle.demands.proofs.BytesLaws.{bytes-done}
use Rattle.demands.proofs.SamplesLaws.{samples-done}

module _ (r : Record) (f : List ℕ) where
  -- a verdict that stands, and what it makes of the frame
  stands : (v : Verdict) → verdict r f ≡ v → step_of r f ≡ settled r (head_of f) (params_of f) v
  stands v e = step_is r f ∙ ap (settled r (head_of f) (params_of f)) e

  refused : (why : Refusal) → by_number (number r f) (judged r (params_of f)) ≡ Refuse why → step_of r f ≡ settled r (head_of f) (params_of f) (Refuse why)
  refused why e = stands (Refuse why) (verdict-is r (head_of f) (number_of f) (params_of f) ∙ e)

  legal-done : (c : Command) → Legal r f c → verdict r f ≡ Do c
  legal-done c h = (takes-effect r (head_of f) (number_of f) (params_of f) c).1 h

  no_zero : (why : Refusal) → status_of why ≢ 0x00
  no_zero Unknown e = omega arith
  no_zero Unbuilt e = omega arith
  no_zero Miscounted e = omega arith
  no_zero NoAccess e = omega arith
  no_zero BadCode e = omega arith
  no_zero TooBig e = omega arith
  no_zero TooSmall e = omega arith

  tries-back : (why : Refusal) → with_tries (left_by why r) r.tries ≡ r
  unfolding left_by with_tries
  tries-back Unknown = refl
  tries-back Unbuilt = refl
  tries-back Miscounted = refl
  tries-back NoAccess = refl
  tries-back BadCode = refl
  tries-back TooBig = refl
  tries-back TooSmall = refl

  zero-legal : (v : Verdict) → verdict r f ≡ v → (step_of r f).reply.status ≡ 0x00 → (c : Command) × Legal r f c
  zero-legal (Do c) e z = (c, passed r (head_of f) (number_of f) (params_of f) c e)
  zero-legal (Refuse why) e z = absurd (no_zero why (sym (refused-silent r f why e).0 ∙ z))

  kept_by : (v : Verdict) → verdict r f ≡ v → (step_of r f).reply.status ≢ 0x00 → with_tries (step_of r f).after r.tries ≡ r
  kept_by (Do c) e z = absurd (z (ap (λ q. q.reply.status) (stands (Do c) e)))
  kept_by (Refuse why) e z = rw (refused-silent r f why e).2 (tries-back why)

  each_frame : FrameAsListed r f
  unfolding left_by
  each_frame = record {
    exactly = (zero-legal (verdict r f) refl, λ h. rw (stands (Do h.0) (legal-done h.0 h.1)) refl);
    effect = λ c h. stands (Do c) (legal-done c h);
    unknown = λ n. refused Unknown (rw n refl);
    unbuilt = λ n. refused Unbuilt (rw n refl);
    miscounted = λ c n p. refused Miscounted (rw (n, p) refl);
    no_access = λ c n p a. refused NoAccess (rw (n, p, a) refl);
    wrong_code = λ c n p a. refused BadCode (rw (n, p, a) refl);
    too_big = λ c n p a g. refused TooBig (rw (n, p, a, g) refl);
    too_small = λ c n p a g. refused TooSmall (rw (n, p, a, g) refl);
    unchanged = kept_by (verdict r f) refl;
  }

-- without a reading a pair that fits is zero, and so is one that is not there
zero-pair : (p : Pair) → pair_fits false p ≡ true → p ≡ no_pair
zero-pair p e =
    let w = both (eqb p.greatest 0) (eqb p.smallest 0) e in
    λ i. record { greatest = eqb-true p.greatest 0 w.0 i; smallest = eqb-true p.smallest 0 w.1 i }

before_reading : BeforeReading
unfolding effect_of data_of
before_reading r f range none legal = (each_frame r f).effect ReadPair legal ∙ ap (λ (p : Pair). record { after = r; reply = record { kind = kind_of (head_of f); status = 0x00; body = 0x00 ∷ pair_bytes p } }) (go (ltb k channels) refl)
  where
    k : ℕ
    k = get_or (params_of f) 0 0 - 1

    go : (t : Bool) → ltb k channels ≡ t → get_or r.pairs k no_pair ≡ no_pair
    go true e = zero-pair (get_or r.pairs k no_pair) (ap (λ (b : Bool). pair_fits b (get_or r.pairs k no_pair)) (sym none) ∙ range.pairs k (ltb-true k channels e))
    go false e = get_or-eq_default r.pairs no_pair (omega (arith, range.six, ltb-false k channels e))

-- ---- the hunt

module _ (l : List ℕ) where
  hunted : SixLines l
  hunted = record {
    other = λ n a. cut-skip serial l n (look-lines l ∙ rw (ne_eqb (get_or l 0 0) 0xAA a) refl);
    alone = λ a n. cut-wait serial l (look-lines l ∙ rw (eq-eqb (get_or l 0 0) 0xAA a, n) refl);
    headless = λ a n h. cut-skip serial l (omega arith) (look-lines l ∙ rw (eq-eqb (get_or l 0 0) 0xAA a, lt-ltb 1 (length l) n, h) refl);
    unfinished = λ h n. cut-wait serial l (look-lines l ∙ rw (eq-eqb (get_or l 0 0) 0xAA h.0, lt-ltb 1 (length l) h.1, h.2, lt-leb (4 + announced l) (length l) n) refl);
    frame = λ h n e.
        cut-take serial (announced l) l
        (look-lines l ∙ rw (eq-eqb (get_or l 0 0) 0xAA h.0, lt-ltb 1 (length l) h.1, h.2, le-leb (4 + announced l) (length l) n, eq-eqb (get_or l (3 + announced l) 0) 0x85 e) refl);
    broken = λ h n e.
        cut-tear serial l
        (look-lines l ∙ rw (eq-eqb (get_or l 0 0) 0xAA h.0, lt-ltb 1 (length l) h.1, h.2, le-leb (4 + announced l) (length l) n, ne_eqb (get_or l (3 + announced l) 0) 0x85 e) refl);
    over = cut-over serial l;
  }

-- ---- its pieces

in_turn : InTurn
unfolding runs hunt_of hunt record_after replies_bytes reply_bytes
in_turn = record {
  frame = λ r ps qs f. runs_append Record Reply serial on_piece r ps (Whole f ∷ qs);
  broken = λ r ps qs head. runs_append Record Reply serial on_piece r ps (Broken head ∷ qs) ∙ sym (runs_append Record Reply serial on_piece r ps qs);
  reply = λ a said. refl;
  left = λ r out skipped o. rw (put-zero o out) refl;
  call = bytes-done;
}

-- ---- a reading

taken : (r : Record) (sample : List ℕ) → ReadingTaken r sample
unfolding reading_of with_flags with_pairs
taken r sample = record {
  flagged = refl;
  taken = λ k h. seen-at r.flags.reading r.pairs sample 0 k h ∙ ap (λ (at : ℕ). seen r.flags.reading (get_or r.pairs k no_pair) (word_at sample at)) (zero-add (4 * k));
  many = length_seen r.flags.reading r.pairs sample 0;
}

six : (s : List ℕ) → length (record_of s).pairs ≡ 6
unfolding record_of
six s = refl

-- ---- the other calls

others : OtherCalls
unfolding factory powered_on
others = record {
  new_record = factory-done;
  powered-on = power-on-done;
  reading = samples-done;
  pairs = taken;
  six = six;
  first = λ p x. refl;
  later = λ p x. refl;
  measuring = λ sample n. ap (λ (l : List ℕ). 0xAA ∷ 0x15 ∷ 0xB0 ∷ l ++ 0x85 ∷ []) (part-all 24 sample n);
}

pub answers-as-listed : AnswersAsListed
answers-as-listed = record {
  each_frame = each_frame;
  before_reading = before_reading;
  looked = look-lines;
  hunted = hunted;
  in_turn = in_turn;
  others = others;
}
