-- `see_all`: channel after channel, each by the pair that stood there.
use Rattle.std.proofs.Common.{◌≡◌, ℕ, ◌≤◌, get_or}
use Rattle.reading.specs.Decoded.{no_peak, seen_up_to}
use Rattle.reading.proofs.peaks.see_all.Given as goal

abbrev pub invariant-loop-k : goal.invariant-loop-k
invariant-loop-k l = record {
  stored : l.rec ≡ seen_up_to l.k l.seen l.fn.was.peaks l.x l.sample l.fn.rec l.at;
  left : (j : ℕ) → l.k ≤ j → get_or l.p j no_peak ≡ get_or l.fn.was.peaks j no_peak;
}
