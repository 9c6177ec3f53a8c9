-- What a board record says, as a value without floats.
use Rattle.std.specs.Prelude.{ℕ, Bool, cond, List, eqb}
use Rattle.peak.specs.Pairs.{Pair}

-- configuration mode open, unlocked, sending, reading seen
pub record Flags : Type 0 where
  pub opened : Bool
  pub unlocked : Bool
  pub sending : Bool
  pub reading : Bool

-- outputs 1 to 4
pub record Outputs : Type 0 where
  pub first : Bool
  pub second : Bool
  pub third : Bool
  pub fourth : Bool

-- what a fitter sets: power as its 16 bits, input types of channels 2 to 6
pub record Settings : Type 0 where
  pub power : ℕ
  pub step : ℕ
  pub mode : ℕ
  pub on_off : ℕ
  pub inputs : List ℕ
  pub interval : ℕ
  pub filter : ℕ
  pub name : List ℕ

-- the whole of a record; the counter is of a layout that no call takes yet, and 0 in the others
pub record Record : Type 0 where
  pub flags : Flags
  pub tries : ℕ
  pub code : ℕ
  pub settings : Settings
  pub outputs : Outputs
  pub model : List ℕ
  pub pending : List ℕ
  pub pairs : List Pair
  pub counter : ℕ

-- ---- one field set

abbrev pub with_opened : Flags → Bool → Flags
with_opened f v = record { opened = v; unlocked = f.unlocked; sending = f.sending; reading = f.reading }

abbrev pub with_unlocked : Flags → Bool → Flags
with_unlocked f v = record { opened = f.opened; unlocked = v; sending = f.sending; reading = f.reading }

abbrev pub with_sending : Flags → Bool → Flags
with_sending f v = record { opened = f.opened; unlocked = f.unlocked; sending = v; reading = f.reading }

abbrev pub with_reading : Flags → Bool → Flags
with_reading f v = record { opened = f.opened; unlocked = f.unlocked; sending = f.sending; reading = v }

-- output k, 1 to 4
abbrev pub with_output : Outputs → ℕ → Bool → Outputs
with_output o k v = record { first = cond (eqb k 1) v o.first; second = cond (eqb k 2) v o.second; third = cond (eqb k 3) v o.third; fourth = cond (eqb k 4) v o.fourth }

abbrev pub with_power : Settings → ℕ → Settings
with_power g v = record { power = v; step = g.step; mode = g.mode; on_off = g.on_off; inputs = g.inputs; interval = g.interval; filter = g.filter; name = g.name }

abbrev pub with_step : Settings → ℕ → Settings
with_step g v = record { power = g.power; step = v; mode = g.mode; on_off = g.on_off; inputs = g.inputs; interval = g.interval; filter = g.filter; name = g.name }

abbrev pub with_mode : Settings → ℕ → Settings
with_mode g v = record { power = g.power; step = g.step; mode = v; on_off = g.on_off; inputs = g.inputs; interval = g.interval; filter = g.filter; name = g.name }

abbrev pub with_on_off : Settings → ℕ → Settings
with_on_off g v = record { power = g.power; step = g.step; mode = g.mode; on_off = v; inputs = g.inputs; interval = g.interval; filter = g.filter; name = g.name }

abbrev pub with_inputs : Settings → List ℕ → Settings
with_inputs g v = record { power = g.power; step = g.step; mode = g.mode; on_off = g.on_off; inputs = v; interval = g.interval; filter = g.filter; name = g.name }

abbrev pub with_interval : Settings → ℕ → Settings
with_interval g v = record { power = g.power; step = g.step; mode = g.mode; on_off = g.on_off; inputs = g.inputs; interval = v; filter = g.filter; name = g.name }

abbrev pub with_filter : Settings → ℕ → Settings
with_filter g v = record { power = g.power; step = g.step; mode = g.mode; on_off = g.on_off; inputs = g.inputs; interval = g.interval; filter = v; name = g.name }

abbrev pub with_name : Settings → List ℕ → Settings
with_name g v = record { power = g.power; step = g.step; mode = g.mode; on_off = g.on_off; inputs = g.inputs; interval = g.interval; filter = g.filter; name = v }

unfoldable pub with_flags : Record → Flags → Record
with_flags r v = record { flags = v; tries = r.tries; code = r.code; settings = r.settings; outputs = r.outputs; model = r.model; pending = r.pending; pairs = r.pairs; counter = r.counter }

unfoldable pub with_tries : Record → ℕ → Record
with_tries r v = record { flags = r.flags; tries = v; code = r.code; settings = r.settings; outputs = r.outputs; model = r.model; pending = r.pending; pairs = r.pairs; counter = r.counter }

unfoldable pub with_code : Record → ℕ → Record
with_code r v = record { flags = r.flags; tries = r.tries; code = v; settings = r.settings; outputs = r.outputs; model = r.model; pending = r.pending; pairs = r.pairs; counter = r.counter }

unfoldable pub with_settings : Record → Settings → Record
with_settings r v = record { flags = r.flags; tries = r.tries; code = r.code; settings = v; outputs = r.outputs; model = r.model; pending = r.pending; pairs = r.pairs; counter = r.counter }

unfoldable pub with_outputs : Record → Outputs → Record
with_outputs r v = record { flags = r.flags; tries = r.tries; code = r.code; settings = r.settings; outputs = v; model = r.model; pending = r.pending; pairs = r.pairs; counter = r.counter }

unfoldable pub with_model : Record → List ℕ → Record
with_model r v = record { flags = r.flags; tries = r.tries; code = r.code; settings = r.settings; outputs = r.outputs; model = v; pending = r.pending; pairs = r.pairs; counter = r.counter }

unfoldable pub with_pending : Record → List ℕ → Record
with_pending r v = record { flags = r.flags; tries = r.tries; code = r.code; settings = r.settings; outputs = r.outputs; model = r.model; pending = v; pairs = r.pairs; counter = r.counter }

unfoldable pub with_pairs : Record → List Pair → Record
with_pairs r v = record { flags = r.flags; tries = r.tries; code = r.code; settings = r.settings; outputs = r.outputs; model = r.model; pending = r.pending; pairs = v; counter = r.counter }

unfoldable pub with_counter : Record → ℕ → Record
with_counter r v = record { flags = r.flags; tries = r.tries; code = r.code; settings = r.settings; outputs = r.outputs; model = r.model; pending = r.pending; pairs = r.pairs; counter = v }
