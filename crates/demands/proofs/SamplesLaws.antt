-- What the samples call brings for the demands.
use Prim.Native.Nat.{ℕ, ◌≤◌}
use mathlib.Core.Path.{◌≡◌, refl, sym}
use mathlib.Core.Bool.{Bool, true, false, cond, true≢false}
use mathlib.Core.List.{List, []}
use native.Mathlib.Omega.{arith}
use lib.ListN.{length}
use borrow.Author.Tests.{ltb-false, not-false}
use Rattle.peak.specs.Pairs.{all_finite}
use Rattle.record.specs.Record.{Record, with_code, with_flags, with_pairs}
use Rattle.record.specs.Layout.{channels, record_of}
use Rattle.record.specs.Reading.{reading_of}
use Rattle.record.proofs.RoundTrip.{in-range}
use Rattle.record.proofs.Reading.{reading-in}
use Rattle.call.specs.declared.CallRefusal.TheVariants.{BadLength, NoRoom, NotFinite}
use Rattle.call.specs.Reasons.{NoReason}
use Rattle.call.specs.Calls.{sample_size, measuring_size, measuring_frame, after_sample, samples_causes, samples_call}
use Rattle.call.proofs.Unfolded.{samples-by}
use Rattle.demands.specs.Premise.{Alike}
use Rattle.demands.specs.CallList.{samples_reasons, samples_entry}
use Rattle.demands.proofs.Tests.{formed, malformed, below, other, stray}
use Rattle.demands.proofs.OtherCode.{code_of, other-record, well-size, same-record, done-alike}
use Rattle.demands.proofs.Laws.{Laws, left_by_lem}

-- what is sent
abbrev sent : Record → List ℕ → List ℕ
sent r sample = cond r.flags.sending (measuring_frame channels sample) []

short : (t : Bool) (sample o : List ℕ) → measuring_size ≤ length o → length (cond t (measuring_frame channels sample) []) ≤ length o
short true sample o h = h
short false sample o h = omega arith

read_alike : (r : Record) (k : ℕ) (sample o : List ℕ) → Alike (after_sample r sample o) (after_sample (with_code r k) sample o)
unfolding reading_of with_flags with_pairs with_code
read_alike r k sample o = done-alike (reading_of r sample) k (sent r sample) 0 o

reading-tries : (r : Record) (sample : List ℕ) → (reading_of r sample).tries ≡ r.tries
unfolding reading_of with_flags with_pairs
reading-tries r sample = refl

pub samples-laws : Laws samples_entry
samples-laws = record {
  causes = λ l s. samples_causes s l.input l.output;
  after = λ l s. reading_of (record_of s) l.input;
  out = λ l s. sent (record_of s) l.input;
  skips = λ l s. 0;
  chain = λ l s. samples-by s l.input l.output;
  decides = λ l s. (
    malformed s,
    (other BadLength (λ e. omega arith) (length l.input) sample_size, (below NoRoom (λ e. omega arith) (length l.output) measuring_size, (stray NotFinite (λ e. omega arith) l.input, tt))),
  );
  placed = λ l s. ((λ a. refl), ((λ a. tt), ((λ a. tt), ((λ a. tt), tt))));
  size = λ l s n. well-size s (formed s n.0);
  keeps = λ l s b g n. reading-in (record_of s) l.input g (in-range s b (formed s n.0)) (not-false (all_finite channels l.input 0) n.1.1.1.0);
  room = λ l s b g n. short (record_of s).flags.sending l.input l.output (ltb-false (length l.output) measuring_size n.1.1.0);
  same = λ l s t bs bt same. (same-record s t same, λ h. (refl, λ i. (refl, λ j. (refl, λ k. tt))));
  alike = λ l s t bs bt same n h. rw (other-record s t bs bt same (formed s n.0)) (read_alike (record_of s) (code_of s t bs bt same (formed s n.0)) l.input l.output);
  quiet = λ l s t h. tt;
  tries = λ e l s h. rw (reading-tries (record_of s) l.input) h;
  gives = λ e. absurd (true≢false (sym e));
}

pub samples-done : (s sample o : List ℕ) → NoReason (samples_reasons s sample o) → samples_call s sample o ≡ after_sample (record_of s) sample o
unfolding samples-laws
samples-done s sample o n = left_by_lem samples_entry samples-laws (record { input = sample; output = o }) s n
