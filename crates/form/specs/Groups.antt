-- Inner contract: the groups of fields that the check of the current layout goes by; their tests are those of `tests_of`.
use Rattle.std.specs.Prelude.{ℕ, List, [], ◌∷◌, ◌++◌}
use Rattle.record.specs.Layout.{SizeBytes, VersionByte, FlagByte, TriesByte, CodeWord, PowerHalf, StepByte, ModeByte, OnOffByte, InputBytes, OutputByte, IntervalByte, FilterWord, NamePart, ModelPart, PendingPart, PairsPart, current}
use Rattle.record.specs.Form.{Field, fields_at}

abbrev pub head_fields : List ℕ → List Field
head_fields s = fields_at current s (SizeBytes ∷ VersionByte ∷ FlagByte ∷ TriesByte ∷ CodeWord ∷ [])

abbrev pub radio_fields : List ℕ → List Field
radio_fields s = fields_at current s (PowerHalf ∷ StepByte ∷ ModeByte ∷ OnOffByte ∷ [])

abbrev pub input_fields : List ℕ → List Field
input_fields s = fields_at current s (InputBytes ∷ [])

abbrev pub switch_fields : List ℕ → List Field
switch_fields s = fields_at current s (OutputByte ∷ IntervalByte ∷ FilterWord ∷ [])

abbrev pub name_fields : List ℕ → List Field
name_fields s = fields_at current s (NamePart ∷ [])

abbrev pub model_fields : List ℕ → List Field
model_fields s = fields_at current s (ModelPart ∷ [])

abbrev pub pending_fields : List ℕ → List Field
pending_fields s = fields_at current s (PendingPart ∷ [])

abbrev pub pair_fields : List ℕ → List Field
pair_fields s = fields_at current s (PairsPart ∷ [])

abbrev pub groups_of : List ℕ → List (List Field)
groups_of s = head_fields s ∷ radio_fields s ∷ input_fields s ∷ switch_fields s ∷ name_fields s ∷ model_fields s ∷ pending_fields s ∷ pair_fields s ∷ []

abbrev pub join : List (List Field) → List Field
join [] = []
join (g ∷ gs) = g ++ join gs
