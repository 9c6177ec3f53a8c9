-- What the power-on call brings for the demands.
use Prim.Native.Nat.{ℕ}
use mathlib.Core.Path.{◌≡◌, refl}
use mathlib.Core.Bool.{true≢false}
use mathlib.Core.List.{List, []}
use native.Mathlib.Omega.{arith}
use Rattle.record.specs.Record.{Record, with_code}
use Rattle.record.specs.Layout.{record_of}
use Rattle.record.specs.Births.{powered_on}
use Rattle.record.proofs.RoundTrip.{in-range}
use Rattle.record.proofs.Births.{power-on-in}
use Rattle.call.specs.Outcome.{done}
use Rattle.call.specs.Calls.{power_on_causes, power_on_call}
use Rattle.call.proofs.Unfolded.{power-on-by}
use Rattle.demands.specs.Premise.{Alike}
use Rattle.demands.specs.CallList.{Malformed, power_on_entry}
use Rattle.demands.proofs.Tests.{formed, malformed}
use Rattle.demands.proofs.OtherCode.{code_of, other-record, well-size, same-record, done-alike}
use Rattle.demands.proofs.Laws.{Laws, left_by_lem}

on_alike : (r : Record) (k : ℕ) → Alike (done (powered_on r) [] 0 []) (done (powered_on (with_code r k)) [] 0 [])
unfolding powered_on with_code
on_alike r k = done-alike (powered_on r) k [] 0 []

new-tries : (r : Record) → (powered_on r).tries ≡ 0
unfolding powered_on
new-tries r = refl

pub power-on-laws : Laws power_on_entry
power-on-laws = record {
  causes = λ l s. power_on_causes s;
  after = λ l s. powered_on (record_of s);
  out = λ l s. [];
  skips = λ l s. 0;
  chain = λ l s. power-on-by s;
  decides = λ l s. (malformed s, tt);
  placed = λ l s. ((λ a. refl), tt);
  size = λ l s n. well-size s (formed s n.0);
  keeps = λ l s b g n. power-on-in (record_of s) (in-range s b (formed s n.0));
  room = λ l s b g n. omega arith;
  same = λ l s t bs bt same. (same-record s t same, λ h. tt);
  alike = λ l s t bs bt same n h. rw (other-record s t bs bt same (formed s n.0)) (on_alike (record_of s) (code_of s t bs bt same (formed s n.0)));
  quiet = λ l s t h. tt;
  tries = λ e. absurd (true≢false e);
  gives = λ e l s. new-tries (record_of s);
}

pub power-on-done : (s : List ℕ) → ¬ Malformed s → power_on_call s ≡ done (powered_on (record_of s)) [] 0 []
unfolding power-on-laws
power-on-done s h = left_by_lem power_on_entry power-on-laws tt s (h, tt)
