-- What the bytes call brings for the demands.
use Prim.Native.Nat.{ℕ, ◌+◌, ◌≤◌}
use mathlib.Core.Path.{◌≡◌, refl, sym, ap, ◌∙◌}
use mathlib.Core.Bool.{true, true≢false}
use mathlib.Core.List.{List, ◌++◌}
use native.Mathlib.Omega.{arith}
use lib.ListN.{length}
use lib.Dec.{ltb}
use borrow.Author.Tests.{ltb-false}
use Rattle.wire.specs.Sizes.{input_most}
use Rattle.wire.specs.Numbers.{Bytes}
use Rattle.wire.specs.Frames.{cut}
use Rattle.wire.specs.Serial.{serial}
use Rattle.wire.specs.Replies.{Reply, replies_bytes}
use Rattle.wire.specs.Run.{runs, hunt}
use Rattle.record.specs.Record.{Record, with_code, with_pending}
use Rattle.record.specs.Layout.{record_of}
use Rattle.record.specs.Form.{well_formed}
use Rattle.record.proofs.RoundTrip.{in-range}
use Rattle.command.specs.Step.{on_piece}
use Rattle.command.specs.Hunt.{hunt_from, hunt_of, record_after, room_for}
use Rattle.command.proofs.Kept.{hunt-in}
use Rattle.command.proofs.Room.{room-enough}
use Rattle.call.specs.declared.CallRefusal.TheVariants.{BadLength, NoRoom}
use Rattle.call.specs.Outcome.{Outcome, refused, cause, done}
use Rattle.call.specs.Reasons.{NoReason}
use Rattle.call.proofs.InOrder.{None, SameCauses, none_left}
use Rattle.call.specs.Calls.{bytes_causes, after_bytes, bytes_call}
use Rattle.call.proofs.Unfolded.{bytes-by}
use Rattle.demands.specs.Premise.{SameButCode, QuietRun, Alike}
use Rattle.demands.specs.CallList.{bytes_reasons, bytes_entry}
use Rattle.demands.proofs.Tests.{formed, malformed, below}
use Rattle.demands.proofs.OtherCode.{other-record, own_code, well-size, same-record, done-alike}
use Rattle.demands.proofs.QuietRun.{Agree, run-same, quiet-used, run-tries}
use Rattle.demands.proofs.Laws.{Laws, left_by_lem}

-- what waits is kept, and the code plays no part in it
after-alike : (b q : Record) (said more : List Reply) (n : ℕ) (l o : List ℕ) → said ≡ more → Agree b q → Alike (done (with_pending b l) (replies_bytes said) n o) (done (with_pending q l) (replies_bytes more) n o)
unfolding with_pending with_code
after-alike b q said more n l o e f = rw (← e, f) (done-alike (with_pending b l) q.code (replies_bytes said) n o)

stream-alike : (r q : Record) (l o : List ℕ) → Agree r q → QuietRun r q (cut serial l).pieces → Alike (after_bytes (hunt_from r l) o) (after_bytes (hunt_from q l) o)
unfolding hunt record_after
stream-alike r q l o e h =
    let c = cut serial l in
    let a = runs on_piece r c.pieces in
    let b = runs on_piece q c.pieces in
    let x = run-same r q c.pieces e h in
    after-alike a.state b.state a.said b.said c.skipped c.waiting o x.0 x.1

-- the hunt through what waits on the first board, and the input
hunt-from : (r q : Record) (input : List ℕ) → q.pending ≡ r.pending → hunt_of q input ≡ hunt_from q (r.pending ++ input)
unfolding hunt_of
hunt-from r q input p = ap (λ (l : List ℕ). hunt_from q (l ++ input)) p

pending-same : (r q : Record) → Agree r q → q.pending ≡ r.pending
unfolding with_code
pending-same r q e = ap (λ (z : Record). z.pending) e

served-alike : (r q : Record) (input o : List ℕ) → Agree r q → QuietRun r q (cut serial (r.pending ++ input)).pieces → Alike (after_bytes (hunt_of r input) o) (after_bytes (hunt_of q input) o)
served-alike r q input o e h = rw (hunt-from r r input refl, hunt-from r q input (pending-same r q e)) (stream-alike r q (r.pending ++ input) o e h)

hunt-tries : (r : Record) (input : List ℕ) → 3 ≤ r.tries → 3 ≤ (record_after (hunt_of r input)).tries
unfolding hunt_of hunt record_after with_pending
hunt-tries r input h = run-tries r (cut serial (r.pending ++ input)).pieces h

module _ (s t input o : List ℕ) (bs : Bytes s) (bt : Bytes t) (same : SameButCode s t) where
  agrees : well_formed s ≡ true → Agree (record_of s) (record_of t)
  agrees w = own_code s t bs bt same w

  room-same : well_formed s ≡ true → cause (ltb (length o) (room_for (length (record_of s).pending + length input))) NoRoom ≡ cause (ltb (length o) (room_for (length (record_of t).pending + length input))) NoRoom
  unfolding with_code
  room-same w = rw (other-record s t bs bt same w) refl

  bytes_same : SameCauses (bytes_causes s input o) (bytes_causes t input o)
  bytes_same = (same-record s t same, λ h. (refl, λ i. (room-same (formed s h), λ j. tt)))

  bytes-alike : None (bytes_causes s input o) → ((bytes_call s input o).answer.result ≡ 0 → QuietRun (record_of s) (record_of t) (cut serial ((record_of s).pending ++ input)).pieces)
      → Alike (after_bytes (hunt_of (record_of s) input) o) (after_bytes (hunt_of (record_of t) input) o)
  bytes-alike n h =
      served-alike (record_of s) (record_of t) input o (agrees (formed s n.0))
      (h (ap (λ (z : Outcome). z.answer.result) (bytes-by s input o ∙ none_left Outcome (λ why. refused why s o) (after_bytes (hunt_of (record_of s) input) o) (bytes_causes s input o) n)))

pub bytes_laws : Laws bytes_entry
bytes_laws = record {
  causes = λ l s. bytes_causes s l.input l.output;
  after = λ l s. record_after (hunt_of (record_of s) l.input);
  out = λ l s. replies_bytes (hunt_of (record_of s) l.input).said;
  skips = λ l s. (hunt_of (record_of s) l.input).skipped;
  chain = λ l s. bytes-by s l.input l.output;
  decides = λ l s. (
    malformed s,
    (below BadLength (λ e. omega arith) input_most (length l.input), (below NoRoom (λ e. omega arith) (length l.output) (room_for (length (record_of s).pending + length l.input)), tt)),
  );
  placed = λ l s. ((λ a. refl), ((λ a. tt), ((λ a. tt), tt)));
  size = λ l s n. well-size s (formed s n.0);
  keeps = λ l s b g n. hunt-in (record_of s) l.input g (in-range s b (formed s n.0));
  room = λ l s b g n.
      omega (arith, room-enough (record_of s) l.input g (in-range s b (formed s n.0)), ltb-false (length l.output) (room_for (length (record_of s).pending + length l.input)) n.1.1.0);
  same = λ l s t bs bt same. bytes_same s t l.input l.output bs bt same;
  alike = λ l s t bs bt same n h. bytes-alike s t l.input l.output bs bt same n h;
  quiet = λ l s t h z. quiet-used (record_of s) (record_of t) (cut serial ((record_of s).pending ++ l.input)).pieces h;
  tries = λ e l s h. hunt-tries (record_of s) l.input h;
  gives = λ e. absurd (true≢false (sym e));
}

pub bytes-done : (s input o : List ℕ) → NoReason (bytes_reasons s input o) → bytes_call s input o ≡ after_bytes (hunt_of (record_of s) input) o
unfolding bytes_laws
bytes-done s input o n = left_by_lem bytes_entry bytes_laws (record { input = input; output = o }) s n
