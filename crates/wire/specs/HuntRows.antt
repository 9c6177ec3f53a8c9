-- Examples of the cut: streams of document 01 whose cut is told there, as one table.
use Rattle.std.specs.Prelude.{ℕ, ◌≡◌, List, [], ◌∷◌}
use Rattle.wire.specs.Frames.{Whole, Broken, Cut, cut}
use Rattle.wire.specs.Serial.{serial}

pub record CutRow : Type 0 where
  pub stream : List ℕ
  pub becomes : Cut

-- Wrong is "Throwing away a whole failed frame instead of one byte.": a frame inside a broken one. "AA AA is a good head with n = 10.": a second AA that is a head. The SetName line of source 003: "16 bytes skipped".
abbrev pub rows : List CutRow
rows =
    record {
      stream = 0xAA ∷ 0xA4 ∷ 0xAA ∷ 0x90 ∷ 0x23 ∷ 0x85 ∷ 0x00 ∷ 0x00 ∷ [];
      becomes = record { pieces = Broken 0xA4 ∷ Whole (0xAA ∷ 0x90 ∷ 0x23 ∷ 0x85 ∷ []) ∷ []; skipped = 4; waiting = [] };
    }
    ∷ record {
      stream = 0xAA ∷ 0xAA ∷ 0x90 ∷ 0x23 ∷ 0x85 ∷ [];
      becomes = record { pieces = []; skipped = 0; waiting = 0xAA ∷ 0xAA ∷ 0x90 ∷ 0x23 ∷ 0x85 ∷ [] };
    }
    ∷ record {
      stream = 0xAA ∷ 0xAB ∷ 0xE8 ∷ 0x22 ∷ 0x47 ∷ 0x53 ∷ 0x56 ∷ 0x2D ∷ 0x36 ∷ 0x42 ∷ 0x54 ∷ 0x5F ∷ 0x64 ∷ 0x65 ∷ 0x76 ∷ 0x85 ∷ [];
      becomes = record { pieces = Broken 0xAB ∷ []; skipped = 16; waiting = [] };
    }
    ∷ []

-- each stream is cut as its row says
abbrev pub CutsHold : List CutRow → Type 0
CutsHold [] = Unit {0}
CutsHold (r ∷ rs) = (cut serial r.stream ≡ r.becomes) × CutsHold rs
