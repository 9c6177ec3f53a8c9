-- The first cause that applies decides: what follows from it for any list of causes.
use Prim.Native.Nat.{ℕ}
use mathlib.Core.Path.{◌≡◌, refl, sym, ap, ◌∙◌}
use mathlib.Core.Logic.{◌≢◌}
use mathlib.Core.Bool.{Bool, true, false, cond}
use mathlib.Core.List.{List, [], ◌∷◌}
use Rattle.call.specs.declared.CallRefusal.{CallRefusal}
use Rattle.call.specs.declared.Answer.{Answer}
use Rattle.call.specs.Outcome.{result_of, Outcome, refused, Cause, first_of, in_order, Leaves, Allows}
use Rattle.call.specs.Reasons.{Reason, NoReason, Refuses, EndsBy}

-- ---- an outcome left

pub left : {z : Outcome} {a : Answer} {kept output : List ℕ} → z ≡ record { answer = a; kept = kept; output = output } → Leaves z a kept output
left e = record { answered = sym (ap (λ (x : Outcome). x.answer) e); keeps = sym (ap (λ (x : Outcome). x.kept) e); puts = sym (ap (λ (x : Outcome). x.output) e) }

-- what a contract allows is the outcome that it names
pub allowed-is : (z x : Outcome) → Allows z x → x ≡ z
allowed-is z x h = λ i. record { answer = h.answered i; kept = h.keeps i; output = h.puts i }

-- ---- no cause applies

abbrev pub None : List Cause → Type 0
None [] = Unit {0}
None (c ∷ causes) = (c.applies ≡ false) × None causes

module _ (Z : Type 0) (refuse : CallRefusal → Z) (z : Z) where
  pub none_left : (causes : List Cause) → None causes → first_of causes refuse z ≡ z
  none_left [] n = refl
  none_left (c ∷ causes) n = rw n.0 (none_left causes n.1)

  module _ (P : Z → Type 0) where
    -- of the refusal by each cause that applies
    abbrev pub Each : List Cause → Type 0
    Each [] = Unit {0}
    Each (c ∷ causes) = (c.applies ≡ true → P (refuse c.why)) × Each causes

    -- what holds of these, and of what is left when no cause applies, holds of what is left
    pub in-order-each : (causes : List Cause) → Each causes → (None causes → P z) → P (first_of causes refuse z)
    in-order-each [] refuses next = next tt
    in-order-each (c ∷ causes) refuses next = pick c.applies refl (λ more. in-order-each causes refuses.1 more)
      where
        pick : (t : Bool) → c.applies ≡ t → ((None causes → P z) → P (first_of causes refuse z)) → P (cond t (refuse c.why) (first_of causes refuse z))
        pick true e rest = refuses.0 e
        pick false e rest = rest (λ n. next (e, n))

    every : ((why : CallRefusal) → P (refuse why)) → (causes : List Cause) → Each causes
    every refuses [] = tt
    every refuses (c ∷ causes) = ((λ e. refuses c.why), every refuses causes)

    pub in_order_lem : (causes : List Cause) → ((why : CallRefusal) → P (refuse why)) → (None causes → P z) → P (first_of causes refuse z)
    in_order_lem causes refuses next = in-order-each causes (every refuses causes) next

-- the same causes, as far as they are looked at
abbrev pub SameCauses : List Cause → List Cause → Type 0
SameCauses [] [] = Unit {0}
SameCauses [] (d ∷ others) = ⊥
SameCauses (c ∷ causes) [] = ⊥
SameCauses (c ∷ causes) (d ∷ others) = (c ≡ d) × (c.applies ≡ false → SameCauses causes others)

-- the same of two boards
module _ (R : Outcome → Outcome → Type 0) (s t o : List ℕ) (z w : Outcome) (refuses : (why : CallRefusal) → R (refused why s o) (refused why t o)) where
  pub in-order-both : (causes others : List Cause) → SameCauses causes others → (None causes → R z w) → R (in_order causes s o z) (in_order others t o w)
  in-order-both [] [] same next = next tt
  in-order-both [] (d ∷ others) same next = absurd same
  in-order-both (c ∷ causes) [] same next = absurd same
  in-order-both (c ∷ causes) (d ∷ others) same next = rw (← same.0) (pick c.applies refl (λ h more. in-order-both causes others (same.1 h) more))
    where
      pick : (b : Bool) → c.applies ≡ b → (c.applies ≡ false → (None causes → R z w) → R (in_order causes s o z) (in_order others t o w))
          → R (cond b (refused c.why s o) (in_order causes s o z)) (cond b (refused c.why t o) (in_order others t o w))
      pick true e rest = refuses c.why
      pick false e rest = rest e (λ n. next (e, n))

-- ---- reasons, each decided by the test of its cause

pub record Decides (c : Cause) (r : Reason) : Type 0 where
  pub same : c.why ≡ r.why
  pub number : result_of r.why ≢ 0
  pub yes : c.applies ≡ true → r.wrong
  pub no : c.applies ≡ false → ¬ r.wrong

abbrev pub DecidesAll : List Cause → List Reason → Type 0
DecidesAll [] [] = Unit {0}
DecidesAll [] (r ∷ reasons) = ⊥
DecidesAll (c ∷ causes) [] = ⊥
DecidesAll (c ∷ causes) (r ∷ reasons) = Decides c r × DecidesAll causes reasons

applies : (c : Cause) (r : Reason) → Decides c r → r.wrong → c.applies ≡ true
applies c r d w = by c.applies refl
  where
    by : (t : Bool) → c.applies ≡ t → t ≡ true
    by true e = refl
    by false e = absurd (d.no e w)

spared : (c : Cause) (r : Reason) → Decides c r → ¬ r.wrong → c.applies ≡ false
spared c r d n = by c.applies refl
  where
    by : (t : Bool) → c.applies ≡ t → t ≡ false
    by true e = absurd (n (d.yes e))
    by false e = refl

pub no-reason : (causes : List Cause) (reasons : List Reason) → DecidesAll causes reasons → NoReason reasons → None causes
no-reason [] [] d n = tt
no-reason [] (r ∷ reasons) d n = absurd d
no-reason (c ∷ causes) [] d n = absurd d
no-reason (c ∷ causes) (r ∷ reasons) d n = (spared c r d.0 n.0, no-reason causes reasons d.1 n.1)

pub none-wrong : (causes : List Cause) (reasons : List Reason) → DecidesAll causes reasons → None causes → NoReason reasons
none-wrong [] [] d n = tt
none-wrong [] (r ∷ reasons) d n = absurd d
none-wrong (c ∷ causes) [] d n = absurd d
none-wrong (c ∷ causes) (r ∷ reasons) d n = (d.0.no n.0, none-wrong causes reasons d.1 n.1)

module _ (Z : Type 0) (refuse : CallRefusal → Z) (z : Z) where
  refuses : (causes : List Cause) (reasons : List Reason) → DecidesAll causes reasons → Refuses reasons refuse (first_of causes refuse z)
  refuses [] [] d = tt
  refuses [] (r ∷ reasons) d = absurd d
  refuses (c ∷ causes) [] d = absurd d
  refuses (c ∷ causes) (r ∷ reasons) d = (
    (λ w. rw (applies c r d.0 w) (ap refuse d.0.same)),
    λ n. rw (spared c r d.0 n) (refuses causes reasons d.1),
  )

  -- a refusal has the number of its ending
  module _ (result : Z → ℕ) (numbered : (why : CallRefusal) → result (refuse why) ≡ result_of why) where
    ended-none : (causes : List Cause) (reasons : List Reason) → DecidesAll causes reasons → result (first_of causes refuse z) ≡ 0 → None causes
    ended-none [] [] d e = tt
    ended-none [] (r ∷ reasons) d e = absurd d
    ended-none (c ∷ causes) [] d e = absurd d
    ended-none (c ∷ causes) (r ∷ reasons) d e = by c.applies refl (λ f. ended-none causes reasons d.1 f)
      where
        by : (t : Bool) → c.applies ≡ t → (result (first_of causes refuse z) ≡ 0 → None causes) → (c.applies ≡ false) × None causes
        by true t rest = absurd (d.0.number (ap result_of (sym d.0.same) ∙ sym (numbered c.why) ∙ rw t at e))
        by false t rest = (t, rest (rw t at e))

    pub ends : (causes : List Cause) (reasons : List Reason) → DecidesAll causes reasons → result z ≡ 0 → EndsBy reasons refuse result (first_of causes refuse z)
    ends causes reasons d e = record {
      refuses = refuses causes reasons d;
      done_exactly = (
        (λ f. none-wrong causes reasons d (ended-none causes reasons d f)),
        λ n. ap result (none_left Z refuse z causes (no-reason causes reasons d n)) ∙ e,
      );
    }
