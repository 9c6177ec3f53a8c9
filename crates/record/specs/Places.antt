-- Each layout as a table: place, size, field. `proofs/Tables` holds the tables to the layouts.
use Rattle.std.specs.Prelude.{ℕ, List, [], ◌∷◌}
use Rattle.record.specs.Layout.{Part, SizeBytes, VersionByte, FlagByte, TriesByte, CodeWord, PowerHalf, StepByte, ModeByte, OnOffByte, InputBytes, OutputByte, IntervalByte, FilterWord, NamePart, ModelPart, PendingPart, PairsPart, CounterHalf, each, Plan, width, place}

pub record PlaceRow : Type 0 where
  pub place : ℕ
  pub size : ℕ
  pub field : Part

abbrev pub row : ℕ → ℕ → Part → PlaceRow
row place size field = record { place = place; size = size; field = field }

-- the table of a layout
abbrev pub rows_of : Plan → List PlaceRow
rows_of p = each (λ q. row (place p q) (width p q) q) p.parts

-- the board: 123 bytes
abbrev pub table1 : List PlaceRow
table1 =
    row 0 2 SizeBytes
    ∷ row 2 1 VersionByte
    ∷ row 3 1 FlagByte
    ∷ row 4 1 TriesByte
    ∷ row 5 4 CodeWord
    ∷ row 9 2 PowerHalf
    ∷ row 11 1 StepByte
    ∷ row 12 1 ModeByte
    ∷ row 13 1 OnOffByte
    ∷ row 14 5 InputBytes
    ∷ row 19 1 OutputByte
    ∷ row 20 1 IntervalByte
    ∷ row 21 4 FilterWord
    ∷ row 25 16 NamePart
    ∷ row 41 15 ModelPart
    ∷ row 56 19 PendingPart
    ∷ row 75 48 PairsPart
    ∷ []

-- the same with one waiting byte more: 124 bytes
abbrev pub table2 : List PlaceRow
table2 =
    row 0 2 SizeBytes
    ∷ row 2 1 VersionByte
    ∷ row 3 1 FlagByte
    ∷ row 4 1 TriesByte
    ∷ row 5 4 CodeWord
    ∷ row 9 2 PowerHalf
    ∷ row 11 1 StepByte
    ∷ row 12 1 ModeByte
    ∷ row 13 1 OnOffByte
    ∷ row 14 5 InputBytes
    ∷ row 19 1 OutputByte
    ∷ row 20 1 IntervalByte
    ∷ row 21 4 FilterWord
    ∷ row 25 16 NamePart
    ∷ row 41 15 ModelPart
    ∷ row 56 20 PendingPart
    ∷ row 76 48 PairsPart
    ∷ []

-- and with a counter: 126 bytes
abbrev pub table3 : List PlaceRow
table3 =
    row 0 2 SizeBytes
    ∷ row 2 1 VersionByte
    ∷ row 3 1 FlagByte
    ∷ row 4 1 TriesByte
    ∷ row 5 4 CodeWord
    ∷ row 9 2 PowerHalf
    ∷ row 11 1 StepByte
    ∷ row 12 1 ModeByte
    ∷ row 13 1 OnOffByte
    ∷ row 14 5 InputBytes
    ∷ row 19 1 OutputByte
    ∷ row 20 1 IntervalByte
    ∷ row 21 4 FilterWord
    ∷ row 25 16 NamePart
    ∷ row 41 15 ModelPart
    ∷ row 56 20 PendingPart
    ∷ row 76 48 PairsPart
    ∷ row 124 2 CounterHalf
    ∷ []

-- the board without radio: 112 bytes
abbrev pub seat_rows : List PlaceRow
seat_rows =
    row 0 2 SizeBytes
    ∷ row 2 1 VersionByte
    ∷ row 3 1 FlagByte
    ∷ row 4 1 TriesByte
    ∷ row 5 4 CodeWord
    ∷ row 9 4 FilterWord
    ∷ row 13 15 ModelPart
    ∷ row 28 20 PendingPart
    ∷ row 48 64 PairsPart
    ∷ []
