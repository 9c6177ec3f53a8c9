-- The number alone names a built command, since no number stands in both tables.
use Prim.Native.Nat.{ℕ, ◌/◌}
use mathlib.Core.Path.{◌≡◌, refl, sym, subst, ◌∙◌}
use mathlib.Core.Bool.{Bool, true, false, cond, not, ◌&&◌, and-eq-true_iff}
use mathlib.Core.List.{List, [], ◌∷◌, ◌++◌}
use borrow.Author.Tests.{eqb-true}
use lib.Dec.{eqb}
use Rattle.command.specs.declared.Command.{Command}
use Rattle.command.specs.declared.Listed.TheVariants.{Built, NotBuilt}
use Rattle.command.specs.Rows.{row_of, radio_commands, amplifier_commands}
use Rattle.command.specs.Tables.{CommandRow, built, unbuilt, bt121, amplifier, look_up, listed_of, named_by}
use Rattle.command.proofs.EntryLaws.{apart}

-- ---- a number in one of two lists

in-front : (n : ℕ) (xs ys : List CommandRow) (c : Command) → look_up n xs ≡ Built c → look_up n (xs ++ ys) ≡ Built c
in-front n [] ys c h = apart cc
in-front n (x ∷ xs) ys c h = go (eqb n x.number) h (in-front n xs ys c)
  where
    go : (b : Bool) → cond b x.listed (look_up n xs) ≡ Built c → (look_up n xs ≡ Built c → look_up n (xs ++ ys) ≡ Built c) → cond b x.listed (look_up n (xs ++ ys)) ≡ Built c
    go true e ih = e
    go false e ih = ih e

-- a number that no row has
abbrev misses : ℕ → List CommandRow → Bool
misses n [] = true
misses n (x ∷ xs) = not (eqb n x.number) && misses n xs

behind : (n : ℕ) (xs ys : List CommandRow) → misses n xs ≡ true → look_up n (xs ++ ys) ≡ look_up n ys
behind n [] ys h = refl
behind n (x ∷ xs) ys h = go (eqb n x.number) h (behind n xs ys)
  where
    go : (b : Bool) → (not b && misses n xs) ≡ true → (misses n xs ≡ true → look_up n (xs ++ ys) ≡ look_up n ys) → cond b x.listed (look_up n (xs ++ ys)) ≡ look_up n ys
    go true e ih = apart (sym e)
    go false e ih = ih e

-- no number of the second list stands in the first
abbrev free : List CommandRow → List CommandRow → Bool
free xs [] = true
free xs (y ∷ ys) = misses y.number xs && free xs ys

found-free : (n : ℕ) (xs ys : List CommandRow) (c : Command) → free xs ys ≡ true → look_up n ys ≡ Built c → misses n xs ≡ true
found-free n xs [] c f h = apart cc
found-free n xs (y ∷ ys) c f h = let w = (and-eq-true_iff (misses y.number xs) (free xs ys)).0 f in go w.0 (eqb n y.number) refl h (found-free n xs ys c w.1)
  where
    go : misses y.number xs ≡ true → (b : Bool) → eqb n y.number ≡ b → cond b y.listed (look_up n ys) ≡ Built c → (look_up n ys ≡ Built c → misses n xs ≡ true) → misses n xs ≡ true
    go m true e g ih = subst (λ (k : ℕ). misses k xs ≡ true) (sym (eqb-true n y.number e)) m
    go m false e g ih = ih g

pub named-is : (head number : ℕ) (c : Command) → listed_of head number ≡ Built c → named_by number ≡ Built c
unfolding listed_of named_by
named-is head number c h = go (eqb (head / 16) 0xA) h
  where
    go : (b : Bool) → cond b (look_up number bt121) (look_up number amplifier) ≡ Built c → look_up number (bt121 ++ amplifier) ≡ Built c
    go true e = in-front number bt121 amplifier c e
    go false e = behind number bt121 amplifier (found-free number bt121 amplifier c refl e) ∙ e

-- ---- the number of a named command is that of its row

in-built : (n : ℕ) (cs : List Command) (rest : List CommandRow) (c : Command) → (look_up n rest ≡ Built c → (row_of c).number ≡ n) → look_up n (built cs ++ rest) ≡ Built c → (row_of c).number ≡ n
in-built n [] rest c k h = k h
in-built n (d ∷ cs) rest c k h = go (eqb n (row_of d).number) refl h (in-built n cs rest c k)
  where
    go : (b : Bool) → eqb n (row_of d).number ≡ b → cond b (Built d) (look_up n (built cs ++ rest)) ≡ Built c → (look_up n (built cs ++ rest) ≡ Built c → (row_of c).number ≡ n) → (row_of c).number ≡ n
    go true e g ih = let same : d ≡ c = cc in subst (λ (x : Command). (row_of x).number ≡ n) same (sym (eqb-true n (row_of d).number e))
    go false e g ih = ih g

in-unbuilt : (n : ℕ) (ns : List ℕ) (rest : List CommandRow) (c : Command) → look_up n (unbuilt ns ++ rest) ≡ Built c → look_up n rest ≡ Built c
in-unbuilt n [] rest c h = h
in-unbuilt n (m ∷ ns) rest c h = go (eqb n m) h (in-unbuilt n ns rest c)
  where
    go : (b : Bool) → cond b NotBuilt (look_up n (unbuilt ns ++ rest)) ≡ Built c → (look_up n (unbuilt ns ++ rest) ≡ Built c → look_up n rest ≡ Built c) → look_up n rest ≡ Built c
    go true e ih = apart cc
    go false e ih = ih e

-- the rows of a table, built ones and others, and what follows them
in_table : (n : ℕ) (cs : List Command) (ns : List ℕ) (rest : List CommandRow) (c : Command) → (look_up n rest ≡ Built c → (row_of c).number ≡ n) → look_up n (built cs ++ (unbuilt ns ++ rest)) ≡ Built c → (row_of c).number ≡ n
in_table n cs ns rest c k h = in-built n cs (unbuilt ns ++ rest) c (λ g. k (in-unbuilt n ns rest c g)) h

pub row_number : (n : ℕ) (c : Command) → named_by n ≡ Built c → (row_of c).number ≡ n
unfolding named_by
row_number n c h =
    in_table n radio_commands (0xEA ∷ 0xEC ∷ 0xEF ∷ []) amplifier c
    (in_table n amplifier_commands (0x17 ∷ 0x18 ∷ 0x50 ∷ 0x54 ∷ 0x55 ∷ []) [] c (λ g. apart cc)) h
