-- Reading and storing each field in the layout in use, in the words of the code: what is at a literal place holds by computing, the rest is the general law.
use Prim.Native.Nat.{ℕ, ◌+◌, ◌*◌, ◌<◌}
use mathlib.Core.Path.{◌≡◌, refl}
use lib.ListN.{length, get_or, set}
use Rattle.wire.specs.Numbers.{word_at, bytes2, bytes4, bytes_at}
use Rattle.wire.proofs.NumberLaws.{word_back}
use Rattle.peak.specs.Pairs.{no_pair, pair_bytes}
use Rattle.record.specs.Record.{Flags, Record, with_flags}
use Rattle.record.specs.Layout.{current, record_size, channels, at_flags, at_tries, at_code, at_power, at_filter, at_name_length, at_pending_length, at_pairs, flags_byte, bytes_of}
use Rattle.record.proofs.Plans.{laid}
use Rattle.record.proofs.Stores.{get-pair_in}

pub long : (r : Record) → length (bytes_of r) ≡ record_size
unfolding bytes_of
long r = refl

pub get_flags : (r : Record) → get_or (bytes_of r) at_flags 0 ≡ flags_byte r.flags
unfolding bytes_of
get_flags r = refl

pub set-flags : (r : Record) (v : Flags) → set (bytes_of r) at_flags (flags_byte v) ≡ bytes_of (with_flags r v)
unfolding bytes_of with_flags
set-flags r v = refl

pub get-tries : (r : Record) → get_or (bytes_of r) at_tries 0 ≡ r.tries
unfolding bytes_of
get-tries r = refl

pub get-code : (r : Record) → r.code < 0x100000000 → word_at (bytes_of r) at_code ≡ r.code
unfolding bytes_of
get-code r h = word_back r.code h

pub get-power-bytes : (r : Record) → bytes_at 2 (bytes_of r) at_power ≡ bytes2 r.settings.power
unfolding bytes_of
get-power-bytes r = refl

pub get-filter-bytes : (r : Record) → bytes_at 4 (bytes_of r) at_filter ≡ bytes4 r.settings.filter
unfolding bytes_of
get-filter-bytes r = refl

pub get-name-length : (r : Record) → get_or (bytes_of r) at_name_length 0 ≡ length r.settings.name
unfolding bytes_of
get-name-length r = refl

pub get-pending-length : (r : Record) → get_or (bytes_of r) at_pending_length 0 ≡ length r.pending
unfolding bytes_of
get-pending-length r = refl

pub get-pair-bytes : (r : Record) (k : ℕ) → k < channels → bytes_at 8 (bytes_of r) (at_pairs + 8 * k) ≡ pair_bytes (get_or r.pairs k no_pair)
unfolding bytes_of
get-pair-bytes r k h = get-pair_in current laid r k h
