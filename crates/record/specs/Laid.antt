-- What is asked of a layout, so that its bytes and its value are the same, and of two, so that one can hold what the other holds. Each layout meets it by computing.
use Rattle.std.specs.Prelude.{ℕ, ◌≤◌, ◌<◌, ◌≡◌, true, not, ◌||◌, List, [], ◌∷◌, length}
use Rattle.wire.specs.Frames.{waits}
use Rattle.record.specs.Layout.{Part, SizeBytes, VersionByte, FlagByte, TriesByte, CodeWord, PowerHalf, StepByte, ModeByte, OnOffByte, InputBytes, OutputByte, IntervalByte, FilterWord, NamePart, ModelPart, PendingPart, PairsPart, CounterHalf, has, distinct, each, Plan, plan_size}

-- the parts that every layout has
abbrev pub core_parts : List Part
core_parts = SizeBytes ∷ VersionByte ∷ FlagByte ∷ TriesByte ∷ CodeWord ∷ FilterWord ∷ ModelPart ∷ PendingPart ∷ PairsPart ∷ []

-- those that are there or missing together with the power
abbrev pub radio_parts : List Part
radio_parts = StepByte ∷ ModeByte ∷ OnOffByte ∷ InputBytes ∷ OutputByte ∷ IntervalByte ∷ NamePart ∷ []

-- no part twice, the parts above, numbers that fit their bytes, and room for every list of bytes that can wait
pub record Laid (p : Plan) : Type 0 where
  pub apart : distinct p.parts ≡ true
  pub core : each (has p.parts) core_parts ≡ each (λ q. true) core_parts
  pub radio : each (has p.parts) radio_parts ≡ each (λ q. has p.parts PowerHalf) radio_parts
  pub size : plan_size p < 0x10000
  pub version : p.version < 256
  pub room : p.room < 256
  pub filters : p.filters ≤ 0x100000000
  pub short : (l : List ℕ) → waits p.heads l ≡ true → length l ≤ p.room

-- a record of layout p can be held in layout q
pub record Wider (p q : Plan) : Type 0 where
  pub waiting : (l : List ℕ) → waits p.heads l ≡ true → waits q.heads l ≡ true
  pub channels : p.channels ≡ q.channels
  pub filters : p.filters ≡ q.filters
  pub opens : p.opens ≡ q.opens
  pub radio : has p.parts PowerHalf ≡ has q.parts PowerHalf
  pub counter : (has q.parts CounterHalf || not (has p.parts CounterHalf)) ≡ true
