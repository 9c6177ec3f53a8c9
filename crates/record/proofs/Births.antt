-- The factory record and every powered-on record are in range.
use Prim.Native.Nat.{ℕ, zero, suc, ◌<◌}
use mathlib.Core.Path.{◌≡◌, refl, ap}
use mathlib.Core.Bool.{true, false, or-true}
use mathlib.Core.List.{[]}
use native.Mathlib.Omega.{arith}
use lib.ListN.{get_or, replicate, length-replicate}
use Rattle.wire.specs.Zeros.{before_zero}
use Rattle.wire.specs.Frames.{Heads, waits}
use Rattle.peak.specs.Pairs.{no_pair, pair_fits}
use Rattle.record.specs.Record.{Record}
use Rattle.record.specs.Limits.{input_range, name_range}
use Rattle.record.specs.Layout.{PowerHalf, CounterHalf, has, Plan, current, bytes_of}
use Rattle.record.specs.Form.{well_formed, InRangeIn, InRange}
use Rattle.record.specs.Births.{no_pairs, factory, powered_on_in, powered_on}
use Rattle.record.proofs.Parts.{Words}
use Rattle.record.proofs.Pieces.{unless-by, unless-map}
use Rattle.record.proofs.RoundTrip.{well-formed}

-- so many times the default
default-at : {A : Type 0} (n : ℕ) (d : A) (i : ℕ) → get_or (replicate n d) i d ≡ d
default-at zero d i = refl
default-at (suc n) d zero = refl
default-at (suc n) d (suc i) = default-at n d i

none-waits : (h : Heads) → waits h [] ≡ true
unfolding waits
none-waits h = refl

module _ (p : Plan) where
  no_words : Words (no_pairs p)
  no_words i = rw (default-at p.channels no_pair i) (omega arith, omega arith)

  no-pairs-fit : (i : ℕ) → i < p.channels → pair_fits false (get_or (no_pairs p) i no_pair) ≡ true
  no-pairs-fit i h = ap (pair_fits false) (default-at p.channels no_pair i)

pub factory-in : InRange factory
unfolding factory name_range before_zero
factory-in = record {
  opened = refl;
  tries = omega arith;
  code = omega arith;
  power = refl;
  power_half = omega arith;
  step = refl;
  mode = refl;
  on-off = refl;
  five = refl;
  inputs = λ i. ap input_range (default-at 5 0 i);
  interval = refl;
  filter = refl;
  name_length = omega arith;
  name = refl;
  model_length = omega arith;
  model = refl;
  model_bytes = λ i. omega arith;
  pending = none-waits current.heads;
  pending_bytes = λ i. omega arith;
  six = refl;
  words = no_words current;
  pairs = no-pairs-fit current;
  counter = omega arith;
  silent = tt;
  uncounted = refl;
}

pub factory-well : well_formed (bytes_of factory) ≡ true
factory-well = well-formed factory factory-in

pub power-on-in_in : (p : Plan) (r : Record) → InRangeIn p r → InRangeIn p (powered_on_in p r)
unfolding powered_on_in
power-on-in_in p r h = record {
  opened = or-true p.opens;
  tries = omega arith;
  code = h.code;
  power = h.power;
  power_half = h.power_half;
  step = h.step;
  mode = h.mode;
  on-off = h.on-off;
  five = h.five;
  inputs = h.inputs;
  interval = h.interval;
  filter = h.filter;
  name_length = h.name_length;
  name = h.name;
  model_length = h.model_length;
  model = h.model;
  model_bytes = h.model_bytes;
  pending = none-waits p.heads;
  pending_bytes = λ i. omega arith;
  six = length-replicate p.channels no_pair;
  words = no_words p;
  pairs = no-pairs-fit p;
  counter = omega arith;
  silent = unless-map (has p.parts PowerHalf) (λ s. record { power = s.power; step = s.step; mode = s.mode; on-off = s.on-off; inputs = s.inputs; interval = s.interval; name = s.name; outputs = refl }) h.silent;
  uncounted = unless-by (has p.parts CounterHalf) (λ e. refl);
}

pub power-on-in : (r : Record) → InRange r → InRange (powered_on r)
unfolding powered_on
power-on-in r h = power-on-in_in current r h
