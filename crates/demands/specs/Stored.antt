-- Demand 2: what a call stores is what the next one reads, at the places of the table.
use Rattle.std.specs.Prelude.{ℕ, ◌≡◌, ◌↔◌, true, List, [], ◌∷◌, ◌++◌, replicate}
use Rattle.wire.specs.Numbers.{Bytes, bytes_at}
use Rattle.record.specs.Record.{Record}
use Rattle.record.specs.Layout.{Part, has, current, width, place, record_size, part_bytes, bytes_of, record_of}
use Rattle.record.specs.Form.{well_formed, InRange}
use Rattle.record.specs.Births.{factory_name, factory}
use Rattle.record.specs.Places.{rows_of, table1}

pub record Stored : Type 0 where
  -- A record in range is stored and read without loss.
  pub read_back : (r : Record) → InRange r → record_of (bytes_of r) ≡ r
  -- Its bytes are bytes.
  pub bytes : (r : Record) → InRange r → Bytes (bytes_of r)
  -- "It is well formed when each field is in its range": exactly then, and what the bytes stand for is all that they hold
  pub well-formed : (s : List ℕ) → Bytes s → (well_formed s ≡ true) ↔ (InRange (record_of s) × (bytes_of (record_of s) ≡ s))
  -- "123 bytes (*house*)"
  pub size : record_size ≡ 123
  -- Places and sizes are those of the table,
  pub places : rows_of current ≡ table1
  -- and there stand the bytes of the part.
  pub stands : (r : Record) (q : Part) → has current.parts q ≡ true → bytes_at (width current q) (bytes_of r) (place current q) ≡ part_bytes current r q
  -- "Factory: sending on; code 55 53 43 31 (000's GSV-6 default); power 12; mode 1; on/off 1; name `GSV-6BT_dev`; all else zero or empty."
  pub fresh : bytes_of factory
      ≡ (0x00 ∷ 0x7B ∷ 0x01 ∷ 0x04 ∷ 0x00 ∷ 0x55 ∷ 0x53 ∷ 0x43 ∷ 0x31 ∷ 0x00 ∷ 0x0C ∷ 0x00 ∷ 0x01 ∷ 0x01 ∷ []) ++ (replicate 11 0 ++ (0x0B ∷ factory_name ++ replicate 86 0))
