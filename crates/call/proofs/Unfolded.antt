-- Each call as its causes in their order, everything else shut.
use Prim.Native.Nat.{ℕ}
use mathlib.Core.Path.{◌≡◌, refl}
use mathlib.Core.List.{List, []}
use Rattle.record.specs.Layout.{record_of}
use Rattle.record.specs.Births.{factory, powered_on}
use Rattle.command.specs.Hunt.{hunt_of}
use Rattle.call.specs.Outcome.{done, first_of, in_order}
use Rattle.call.specs.Read.{read_refused, read_causes, after_read, read_call}
use Rattle.call.specs.Calls.{factory_causes, factory_call, power_on_causes, power_on_call, bytes_causes, after_bytes, bytes_call, samples_causes, after_sample, samples_call}

pub factory-by : (s : List ℕ) → factory_call s ≡ in_order (factory_causes s) s [] (done factory [] 0 [])
unfolding factory_call
factory-by s = refl

pub power-on-by : (s : List ℕ) → power_on_call s ≡ in_order (power_on_causes s) s [] (done (powered_on (record_of s)) [] 0 [])
unfolding power_on_call
power-on-by s = refl

pub bytes-by : (s input o : List ℕ) → bytes_call s input o ≡ in_order (bytes_causes s input o) s o (after_bytes (hunt_of (record_of s) input) o)
unfolding bytes_call
bytes-by s input o = refl

pub samples-by : (s sample o : List ℕ) → samples_call s sample o ≡ in_order (samples_causes s sample o) s o (after_sample (record_of s) sample o)
unfolding samples_call
samples-by s sample o = refl

pub read_by : (capture list : List ℕ) → read_call capture list ≡ first_of (read_causes capture list) (read_refused list) (after_read capture list)
unfolding read_call
read_by capture list = refl
