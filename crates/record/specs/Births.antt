-- The two records that no command makes: factory and power-on.
use Rattle.std.specs.Prelude.{ℕ, true, false, List, [], ◌∷◌, replicate}
use Rattle.peak.specs.Pairs.{Pair, no_pair}
use Rattle.record.specs.Record.{Flags, Outputs, Record}
use Rattle.record.specs.Layout.{Plan, current}

-- `GSV-6BT_dev`
abbrev pub factory_name : List ℕ
factory_name = 0x47 ∷ 0x53 ∷ 0x56 ∷ 0x2D ∷ 0x36 ∷ 0x42 ∷ 0x54 ∷ 0x5F ∷ 0x64 ∷ 0x65 ∷ 0x76 ∷ []

-- sending on, all else off
abbrev pub fresh_flags : Flags
fresh_flags = record { opened = false; unlocked = false; sending = true; reading = false }

abbrev pub all_off : Outputs
all_off = record { first = false; second = false; third = false; fourth = false }

abbrev pub no_pairs : Plan → List Pair
no_pairs p = replicate p.channels no_pair

-- "Factory: sending on; code 55 53 43 31 (000's GSV-6 default); power 12; mode 1; on/off 1; name `GSV-6BT_dev`; all else zero or empty."
unfoldable pub factory : Record
factory = record {
  flags = fresh_flags;
  tries = 0;
  code = 0x55534331;
  settings = record { power = 12; step = 0; mode = 1; on_off = 1; inputs = replicate 5 0; interval = 0; filter = 0; name = factory_name };
  outputs = all_off;
  model = [];
  pending = [];
  pairs = no_pairs current;
  counter = 0;
}

-- "Power-on closes configuration mode, locks, sets tries and outputs to 0 and sending on, and drops pending bytes, pairs and the reading flag, all to zero; the rest stays."; a counter, in a layout that has one, goes to 0 too
unfoldable pub powered_on_in : Plan → Record → Record
powered_on_in p r = record { flags = fresh_flags; tries = 0; code = r.code; settings = r.settings; outputs = all_off; model = r.model; pending = []; pairs = no_pairs p; counter = 0 }

-- the same for the board's layout
unfoldable pub powered_on : Record → Record
unfolding powered_on_in
powered_on r = powered_on_in current r
