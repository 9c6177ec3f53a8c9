-- Two boards that differ in nothing but perhaps the code: one call, then any list of calls.
use Prim.Native.Nat.{ℕ, zero, suc, ◌≤◌}
use mathlib.Core.Path.{◌≡◌, refl, ap}
use mathlib.Core.List.{List, [], ◌∷◌}
use native.Mathlib.Omega.{arith}
use lib.ListN.{get_or, replicate}
use Rattle.wire.specs.Numbers.{Bytes}
use Rattle.wire.specs.Frames.{cut_from}
use Rattle.wire.specs.Serial.{serial}
use Rattle.record.specs.Record.{with_tries, with_code}
use Rattle.record.specs.Layout.{at_tries, at_code, bytes_of, record_of}
use Rattle.record.specs.Births.{factory}
use Rattle.command.specs.Compare.{compares}
use Rattle.command.proofs.Compare.{compares-exactly}
use Rattle.call.specs.Calls.{bytes_call, samples_call}
use Rattle.demands.specs.Premise.{ComparedExactly}
use Rattle.demands.specs.CallList.{Made, call_of, outcome_of}
use Rattle.demands.specs.Secrecy.{third_code, AllQuiet, OneCall, NothingTold, NoReset, NothingToldUsedUp, PremiseMet, PremiseNeeded}
use Rattle.demands.proofs.OtherCode.{code-only}
use Rattle.demands.proofs.Laws.{bytes-by, alike-by, quiet_by, used-by}
use Rattle.demands.proofs.AllLaws.{laws-of}

pub one_call : OneCall
one_call m s t bs bt same h = alike-by (call_of m.name) (laws-of m.name) m.lent s t bs bt same h

pub nothing_told : NothingTold
nothing_told [] s t bs bt g same h = tt
nothing_told (m ∷ calls) s t bs bt g same h =
    let c = call_of m.name in
    let w = laws-of m.name in
    let x = one_call m s t bs bt same h.0 in
    (x, nothing_told calls (outcome_of m s).kept (outcome_of m t).kept (bytes-by c w m.lent s bs g.0) (bytes-by c w m.lent t bt g.0) g.1 x.2 h.1)

-- ---- three wrong tries used

all_quiet : (calls : List Made) (s t : List ℕ) → NoReset calls → 3 ≤ get_or s at_tries 0 → AllQuiet s t calls
all_quiet [] s t n h = tt
all_quiet (m ∷ calls) s t n h =
    let c = call_of m.name in
    let w = laws-of m.name in
    (quiet_by c w m.lent s n.0 h t, all_quiet calls (outcome_of m s).kept (outcome_of m t).kept n.1 (used-by c w m.lent s n.0 h))

pub nothing-told-used-up : NothingToldUsedUp
nothing-told-used-up calls s t bs bt g n same h = nothing_told calls s t bs bt g same (all_quiet calls s t n (omega arith))

-- ---- what "compared" means, and that the premise can be met and is needed

pub compared : ComparedExactly
unfolding compares with_code
compared = record { exactly = compares-exactly; any_code = λ r k f. refl }

third-bytes : Bytes third_code
third-bytes zero = omega arith
third-bytes (suc zero) = omega arith
third-bytes (suc (suc zero)) = omega arith
third-bytes (suc (suc (suc zero))) = omega arith
third-bytes (suc (suc (suc (suc zero)))) = omega arith
third-bytes (suc (suc (suc (suc (suc zero))))) = omega arith
third-bytes (suc (suc (suc (suc (suc (suc zero)))))) = omega arith
third-bytes (suc (suc (suc (suc (suc (suc (suc zero))))))) = omega arith
third-bytes (suc (suc (suc (suc (suc (suc (suc (suc i)))))))) = omega arith

zeros-bytes : (n : ℕ) → Bytes (replicate n 0x00)
zeros-bytes zero i = omega arith
zeros-bytes (suc n) zero = omega arith
zeros-bytes (suc n) (suc i) = zeros-bytes n i

pub premise_met : PremiseMet
unfolding bytes_call samples_call bytes_of record_of factory with_tries with_code cut_from serial compares
premise_met = record {
  pair = code-only factory 0x01020304;
  differ = λ e. let z : ◌≡◌ {A = ℕ} 0x55 0x01 = ap (λ (s : List ℕ). get_or s at_code 0) e in omega arith;
  done = refl;
  read = refl;
  compared = refl;
  of_bytes = (third-bytes, (zeros-bytes 24, tt));
  quiet = (λ e. ((λ c. ((λ z. omega arith), λ z. omega arith)), tt), (tt, tt));
  no_reset = (refl, (refl, tt));
  used_up = refl;
  refused = (refl, refl, refl);
}

pub premise_needed : PremiseNeeded
unfolding bytes_call bytes_of record_of factory with_code
premise_needed e = let z : ◌≡◌ {A = ℕ} 0x00 0x62 = ap (λ (o : List ℕ). get_or o 2 0) e in omega arith
