-- Inner contract: what the tests of some fields answer, in record order; the fields are those of `tests_of`.
use Rattle.std.specs.Prelude.{ℕ, Bool, cond, List, [], ◌∷◌, ⊤, Result, Ok, Err}
use Rattle.record.specs.Form.{Field}
use Rattle.form.specs.Groups.{head_fields, radio_fields, input_fields, switch_fields, name_fields, model_fields, pending_fields, pair_fields}

-- the place of a field that is not as it has to be
abbrev pub held : Bool → ℕ → Result ⊤ ℕ
held fine place = cond fine (Ok tt) (Err place)

-- the place of the first such field
unfoldable pub held_all : List Field → Result ⊤ ℕ
held_all [] = Ok tt
held_all (f ∷ fs) = cond f.fine (held_all fs) (Err f.place)

-- the first place that some answers name
abbrev pub in_turn : List (Result ⊤ ℕ) → Result ⊤ ℕ
in_turn [] = Ok tt
in_turn (Ok u ∷ rs) = in_turn rs
in_turn (Err place ∷ rs) = Err place

-- the answers of all groups
abbrev pub answers_of : List ℕ → List (Result ⊤ ℕ)
answers_of s = held_all (head_fields s) ∷ held_all (radio_fields s) ∷ held_all (input_fields s) ∷ held_all (switch_fields s) ∷ held_all (name_fields s) ∷ held_all (model_fields s) ∷ held_all (pending_fields s) ∷ held_all (pair_fields s) ∷ []
