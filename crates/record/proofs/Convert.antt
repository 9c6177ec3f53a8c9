-- A record of one layout turned into a wider one: its bytes there are well formed and mean the same.
use Prim.Native.Nat.{ℕ}
use mathlib.Core.Path.{◌≡◌, refl, ◌∙◌}
use mathlib.Core.Bool.{Bool, true, false, not, ◌||◌, false≢true}
use mathlib.Core.List.{List}
use Rattle.wire.specs.Numbers.{Bytes}
use Rattle.record.specs.Record.{Record}
use Rattle.record.specs.Layout.{CounterHalf, has, Plan, plan1, plan2, plan3, bytes_in, record_in}
use Rattle.record.specs.Laid.{Laid, Wider}
use Rattle.record.specs.Form.{Unless, well_in, InRangeIn}
use Rattle.record.proofs.RoundTrip.{in-range_in, read-back_in, well-formed_in}

uncounted : (A : Type 0) (a b : Bool) → (b || not a) ≡ true → Unless a A → Unless b A
uncounted A true true e u = tt
uncounted A true false e u = absurd (false≢true e)
uncounted A false true e u = tt
uncounted A false false e u = u

module _ (p q : Plan) (l : Laid p) (m : Laid q) (w : Wider p q) where
  pub wider-in : (r : Record) → InRangeIn p r → InRangeIn q r
  wider-in r h = record {
    opened = rw (← w.opens) h.opened;
    tries = h.tries;
    code = h.code;
    power = h.power;
    power_half = h.power_half;
    step = h.step;
    mode = h.mode;
    on-off = h.on-off;
    five = h.five;
    inputs = h.inputs;
    interval = h.interval;
    filter = rw (← w.filters) h.filter;
    name_length = h.name_length;
    name = h.name;
    model_length = h.model_length;
    model = h.model;
    model_bytes = h.model_bytes;
    pending = w.waiting r.pending h.pending;
    pending_bytes = h.pending_bytes;
    six = h.six ∙ w.channels;
    words = h.words;
    pairs = λ i t. h.pairs i (rw w.channels t);
    counter = h.counter;
    silent = rw (← w.radio) h.silent;
    uncounted = uncounted (r.counter ≡ 0) (has p.parts CounterHalf) (has q.parts CounterHalf) w.counter h.uncounted;
  }

  module _ (s : List ℕ) (b : Bytes s) (e : well_in p s ≡ true) where
    pub turned-well : well_in q (bytes_in q (record_in p s)) ≡ true
    turned-well = well-formed_in q m (record_in p s) (wider-in (record_in p s) (in-range_in p l s b e))

    pub turned-means : record_in q (bytes_in q (record_in p s)) ≡ record_in p s
    turned-means = read-back_in q m (record_in p s) (wider-in (record_in p s) (in-range_in p l s b e))

pub wider12 : Wider plan1 plan2
wider12 = record { waiting = λ l t. t; channels = refl; filters = refl; opens = refl; radio = refl; counter = refl }

pub wider23 : Wider plan2 plan3
wider23 = record { waiting = λ l t. t; channels = refl; filters = refl; opens = refl; radio = refl; counter = refl }
