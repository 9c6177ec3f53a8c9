-- The table in code is that of the definitions, by a test entry by entry.
use Prim.Native.Nat.{ℕ, ◌<◌}
use mathlib.Core.Path.{◌≡◌, refl, ap₂}
use mathlib.Core.Bool.{Bool, true, false, ◌&&◌}
use mathlib.Core.List.{List, [], ◌∷◌}
use mir.Facts.{and_yes}
use lib.Dec.{T, eqb, eqb→eq}
use lib.ListN.{get_or}
use Rattle.command.specs.Entries.{rows_say, unpacked, is_tidy, kind_size, place_of, entries}
use Rattle.command.proofs.EntryLaws.{entry-says, entry-tidy}
use Rattle.table.specs.declared.entries.TheConstants.{ENTRIES}

-- two lists of numbers are the same
abbrev pub agree : List ℕ → List ℕ → Bool
agree [] [] = true
agree [] (y ∷ ys) = false
agree (x ∷ xs) [] = false
agree (x ∷ xs) (y ∷ ys) = eqb x y && agree xs ys

pub agree-is : (xs ys : List ℕ) → T (agree xs ys) → xs ≡ ys
agree-is [] [] h = refl
agree-is [] (y ∷ ys) h = absurd h
agree-is (x ∷ xs) [] h = absurd h
agree-is (x ∷ xs) (y ∷ ys) h = let w = and_yes (eqb x y) (agree xs ys) h in ap₂ ◌∷◌ (eqb→eq x y w.0) (agree-is xs ys w.1)

-- the table in code is that which the rows give: one test, computed over all of its entries
pub table-is : ENTRIES ≡ entries
unfolding entries
table-is = agree-is ENTRIES entries tt

-- what stands in it at a number's place is what the rows say
pub code_says : (head number i : ℕ) → number < kind_size → i ≡ place_of head number → (unpacked (get_or ENTRIES i 0) ≡ rows_say head number) × (is_tidy (get_or ENTRIES i 0) ≡ true)
code_says head number i few at = by ENTRIES table-is
  where
    by : (es : List ℕ) → es ≡ entries → (unpacked (get_or es i 0) ≡ rows_say head number) × (is_tidy (get_or es i 0) ≡ true)
    by es is = rw (is, at) (entry-says head number few, entry-tidy head number few)
