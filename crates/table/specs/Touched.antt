-- Inner contract: which setting a number reads or sets, as a match on numbers tells it.
use Rattle.std.specs.Prelude.{ℕ, ◌+◌, ◌≤◌, ◌≡◌, Bool, cond, ◌||◌, List, [], ◌∷◌, eqb}
use Rattle.record.specs.declared.Setting.{Setting}
use Rattle.record.specs.Settings.{settings, setting_place}
use Rattle.command.specs.Rows.{numbers_of}

-- n is one of two neighbouring numbers: not further than 1 from either
abbrev pub OneOfTwo : ℕ → ℕ → ℕ → Type 0
OneOfTwo n a b = (n ≤ a + 1) × (a ≤ n + 1) × (n ≤ b + 1) × (b ≤ n + 1)

-- the list without its last, and the last of k and the list
abbrev pub all_but : Setting → List Setting → List Setting
all_but k [] = []
all_but k (j ∷ ks) = k ∷ all_but j ks

abbrev pub last_of : Setting → List Setting → Setting
last_of k [] = k
last_of k (j ∷ ks) = last_of j ks

-- the first of them, and those behind it
abbrev pub firsts : List Setting → List Setting
firsts [] = []
firsts (k ∷ ks) = all_but k ks

-- the place of the last in the record, by which it is known
abbrev pub final_place : List Setting → ℕ
final_place [] = 0
final_place (k ∷ ks) = setting_place (last_of k ks)

abbrev pub is_last : Setting → List Setting → Bool
is_last i ks = eqb (setting_place i) (final_place ks)

-- n is no number of these settings, and P holds
abbrev pub NoneOf : ℕ → Type 0 → List Setting → Type 0
NoneOf n P [] = P
NoneOf n P (k ∷ ks) = NoneOf n ((P × (n ≡ (numbers_of k).reader → ⊥)) × (n ≡ (numbers_of k).setter → ⊥)) ks

-- a number of the setting; of the last, that it is none of the others'
abbrev pub Touched : ℕ → Setting → Type 0
Touched n k = cond (is_last k settings) (NoneOf n (Unit {0}) (firsts settings)) (OneOfTwo n (numbers_of k).reader (numbers_of k).setter)

-- whether it is a number of the setting
abbrev pub touches : ℕ → Setting → Bool
touches n k = eqb n (numbers_of k).reader || eqb n (numbers_of k).setter
