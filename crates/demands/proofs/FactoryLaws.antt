-- What the factory call brings for the demands.
use Prim.Native.Nat.{ℕ}
use mathlib.Core.Path.{◌≡◌, refl, sym, ap}
use mathlib.Core.Bool.{not, true≢false}
use mathlib.Core.List.{List, []}
use native.Mathlib.Omega.{arith}
use lib.ListN.{length}
use lib.Dec.{eqb}
use borrow.Author.Tests.{eqb-true, not-true, not-false}
use Rattle.record.specs.Layout.{record_size, bytes_of}
use Rattle.record.specs.Births as births
use Rattle.record.proofs.Births.{factory-in}
use Rattle.call.specs.declared.CallRefusal.TheVariants.{BadRecord}
use Rattle.call.specs.Outcome.{done, cause}
use Rattle.call.specs.Calls.{factory_causes, factory_call}
use Rattle.call.proofs.Unfolded.{factory-by}
use Rattle.demands.specs.CallList.{factory_entry}
use Rattle.demands.proofs.Tests.{other}
use Rattle.demands.proofs.OtherCode.{same-own, cut_short}
use Rattle.demands.proofs.Laws.{Laws, left_by_lem}

no-tries : (births.factory).tries ≡ 0
unfolding births.factory
no-tries = refl

pub factory-laws : Laws factory_entry
factory-laws = record {
  causes = λ l s. factory_causes s;
  after = λ l s. births.factory;
  out = λ l s. [];
  skips = λ l s. 0;
  chain = λ l s. factory-by s;
  decides = λ l s. (other (BadRecord 0) (λ e. omega arith) (length s) record_size, tt);
  placed = λ l s. ((λ a. sym (cut_short s (not-true (eqb (length s) record_size) a))), tt);
  size = λ l s n. eqb-true (length s) record_size (not-false (eqb (length s) record_size) n.0);
  keeps = λ l s b g n. factory-in;
  room = λ l s b g n. omega arith;
  same = λ l s t bs bt same. (ap (λ (n : ℕ). cause (not (eqb n record_size)) (BadRecord 0)) same.long, λ h. tt);
  alike = λ l s t bs bt same n h. (refl, refl, same-own (bytes_of births.factory));
  quiet = λ l s t h. tt;
  tries = λ e. absurd (true≢false e);
  gives = λ e l s. no-tries;
}

pub factory-done : (s : List ℕ) → length s ≡ record_size → factory_call s ≡ done births.factory [] 0 []
unfolding factory-laws
factory-done s h = left_by_lem factory_entry factory-laws tt s ((λ n. n h), tt)
