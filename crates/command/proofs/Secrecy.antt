-- Two boards that differ in the code alone answer a frame alike, unless it has them compare the code of either.
use Prim.Native.Nat.{ℕ, ◌≤◌}
use mathlib.Core.Path.{◌≡◌, refl, ap}
use mathlib.Core.Bool.{Bool, true, false, not, ◌&&◌, and-false}
use mathlib.Core.List.{List}
use lib.ListN.{length}
use lib.Dec.{ltb}
use borrow.Author.Tests.{le-ltb, le-leb, ltb-false, ne_eqb}
use Rattle.wire.specs.Numbers.{word_at}
use Rattle.wire.specs.Serial.{head_of, number_of, params_of}
use Rattle.record.specs.Record.{Record, with_code}
use Rattle.command.specs.declared.Command.{Command}
use Rattle.command.specs.declared.Listed.{Listed}
use Rattle.command.specs.declared.Listed.TheVariants.{Built, NotBuilt, Unlisted}
use Rattle.command.specs.declared.Counted.{Counted}
use Rattle.command.specs.declared.Counted.TheVariants.{Right, Wrong}
use Rattle.command.specs.declared.Need.{Need}
use Rattle.command.specs.declared.Need.TheVariants.{Nothing, Opened, Closed, Unlocked, Code}
use Rattle.command.specs.declared.Access.{Access}
use Rattle.command.specs.declared.Verdict.TheVariants.{Do}
use Rattle.command.specs.Tables.{listed_of, counted_of, need_of, range_of}
use Rattle.command.specs.Judge.{access_of, by_range, by_access, by_count, by_number, judged, verdict_of}
use Rattle.command.specs.Step.{step_of}
use Rattle.command.specs.Compare.{is_right, is_code, unlocking, compares, code_in}
use Rattle.command.proofs.Refused.{verdict-is, verdict, step_is}
use Rattle.command.proofs.Blind.{blind}

module _ (r : Record) (k : ℕ) (p : List ℕ) where
  -- a code that is compared is neither board's
  abbrev Apart : Bool → Type 0
  Apart asked = (asked && not r.flags.opened && ltb r.tries 3) ≡ true → (word_at p 0 ≡ r.code → ⊥) × (word_at p 0 ≡ k → ⊥)

  access-same : (n : Need) → Apart (is_code n) → access_of n (with_code r k) p ≡ access_of n r p
  unfolding access_of with_code
  access-same Nothing h = refl
  access-same Opened h = refl
  access-same Closed h = refl
  access-same Unlocked h = refl
  access-same Code h = go r.flags.opened (ltb r.tries 3) refl refl
    where
      go : (opened left : Bool) → r.flags.opened ≡ opened → ltb r.tries 3 ≡ left → access_of Code (with_code r k) p ≡ access_of Code r p
      go true left e t = cc
      go false false e t = cc (le-leb 3 r.tries (ltb-false r.tries 3 t))
      go false true e t =
          let apart = h (rw (e, t) refl) in
          cc (ne_eqb (word_at p 0) r.code apart.0, ne_eqb (word_at p 0) k apart.1)

  count_same : (c : Command) (x : Counted) → Apart (is_right x && is_code (need_of c))
      → by_count x (by_access (access_of (need_of c) (with_code r k) p) (by_range (range_of c p) (Do c))) ≡ by_count x (by_access (access_of (need_of c) r p) (by_range (range_of c p) (Do c)))
  count_same c Right h = ap (λ (a : Access). by_access a (by_range (range_of c p) (Do c))) (access-same (need_of c) h)
  count_same c Wrong h = refl

  number_same : (x : Listed) → Apart (unlocking p x) → by_number x (judged (with_code r k) p) ≡ by_number x (judged r p)
  number_same (Built c) h = count_same c (counted_of c (length p)) h
  number_same NotBuilt h = refl
  number_same Unlisted h = refl

  verdict-same : (head number : ℕ) → Apart (unlocking p (listed_of head number)) → verdict_of (with_code r k) head number p ≡ verdict_of r head number p
  verdict-same head number h = rw (verdict-is r head number p, verdict-is (with_code r k) head number p) (number_same (listed_of head number) h)

pub step_same : (r : Record) (k : ℕ) (f : List ℕ) → (compares r f ≡ true → (code_in f ≡ r.code → ⊥) × (code_in f ≡ k → ⊥))
    → ((step_of (with_code r k) f).reply ≡ (step_of r f).reply) × ((step_of (with_code r k) f).after ≡ with_code (step_of r f).after k)
unfolding compares
step_same r k f h =
    let b = blind r k (head_of f) (params_of f) (verdict r f) in
    rw (step_is (with_code r k) f, step_is r f, verdict-same r k (params_of f) (head_of f) (number_of f) h) (b.0, b.1)

-- no command changes the code
pub step-code : (r : Record) (f : List ℕ) → (step_of r f).after.code ≡ r.code
unfolding with_code
step-code r f = rw (step_is r f) (ap (λ (q : Record). q.code) (blind r r.code (head_of f) (params_of f) (verdict r f)).1)

-- with three wrong tries used no frame has a code compared
pub used_up : (r : Record) (f : List ℕ) → 3 ≤ r.tries → compares r f ≡ false
unfolding compares
used_up r f h = simp (le-ltb r.tries 3 h, and-false)

pub tries-stay : (r : Record) (f : List ℕ) → r.tries ≤ (step_of r f).after.tries
tries-stay r f = rw (step_is r f) (blind r r.code (head_of f) (params_of f) (verdict r f)).3
