-- How a call ends, in words: its reasons for a refusal in their order, and the first of them decides. A reason is a statement; a cause of `Outcome` is the test of it.
use Rattle.std.specs.Prelude.{ℕ, ◌≡◌, ◌↔◌, List, [], ◌∷◌}
use Rattle.call.specs.declared.CallRefusal.{CallRefusal}
use Rattle.call.specs.Outcome.{Outcome, refused}

-- what is wrong, and how the call then ends
pub record Reason : Type 1 where
  pub wrong : Type 0
  pub why : CallRefusal

abbrev pub reason : Type 0 → CallRefusal → Reason
reason wrong why = record { wrong = wrong; why = why }

-- nothing is wrong
abbrev pub NoReason : List Reason → Type 0
NoReason [] = Unit {0}
NoReason (r ∷ reasons) = (¬ r.wrong) × NoReason reasons

-- each is refused, if nothing before it is wrong
abbrev pub Refuses : {Z : Type 0} → List Reason → (CallRefusal → Z) → Z → Type 0
Refuses [] refuse z = Unit {0}
Refuses (r ∷ reasons) refuse z = (r.wrong → z ≡ refuse r.why) × (¬ r.wrong → Refuses reasons refuse z)

-- and the result is 0 exactly when nothing is wrong
pub record EndsBy {Z : Type 0} (reasons : List Reason) (refuse : CallRefusal → Z) (result : Z → ℕ) (z : Z) : Type 0 where
  pub refuses : Refuses reasons refuse z
  pub done_exactly : (result z ≡ 0) ↔ NoReason reasons

-- a call over a record is refused by its number and its place, with zero counts and record and output as they were
abbrev pub Ends : List Reason → List ℕ → List ℕ → Outcome → Type 0
Ends reasons s o z = EndsBy reasons (λ why. refused why s o) (λ (x : Outcome). x.answer.result) z
