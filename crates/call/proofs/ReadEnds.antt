-- Each way that the reader ends, as its outcome.
use Prim.Native.Nat.{ℕ, ◌/◌, ◌≤◌, ◌<◌}
use mathlib.Core.Path.{◌≡◌, refl, sym, ap, ◌∙◌}
use mathlib.Core.List.{List}
use lib.ListN.{length}
use borrow.Author.Tests.{lt-ltb, le-ltb}
use Rattle.wire.specs.Sizes.{capture_most}
use Rattle.call.specs.declared.ReadAnswer.{ReadAnswer}
use Rattle.call.specs.declared.CallRefusal.TheVariants.{BadLength, NoRoom}
use Rattle.call.specs.Read.{ReadOutcome, no_entries, after_read, read_call, ReadLeaves, ReadAllows}
use Rattle.call.proofs.Unfolded.{read_by}

read_left : {z : ReadOutcome} {a : ReadAnswer} {list : List ℕ} → z ≡ record { answer = a; list = list } → ReadLeaves z a list
read_left e = record { answered = sym (ap (λ (x : ReadOutcome). x.answer) e); puts = sym (ap (λ (x : ReadOutcome). x.list) e) }

-- what a contract allows is the outcome that it names
pub read-allowed-is : (z x : ReadOutcome) → ReadAllows z x → x ≡ z
read-allowed-is z x h = λ i. record { answer = h.answered i; list = h.puts i }

module _ (capture list : List ℕ) where
  pub too_long : capture_most < length capture → ReadLeaves (read_call capture list) (no_entries BadLength) list
  too_long h = read_left (read_by capture list ∙ rw (lt-ltb capture_most (length capture) h) refl)

  module _ (short : length capture ≤ capture_most) where
    pub no-entries : length list / 4 < length capture / 4 → ReadLeaves (read_call capture list) (no_entries NoRoom) list
    no-entries h = read_left (read_by capture list ∙ rw (le-ltb capture_most (length capture) short, lt-ltb (length list / 4) (length capture / 4) h) refl)

    pub reads : length capture / 4 ≤ length list / 4 → (a : ReadAnswer) (after : List ℕ) → a ≡ (after_read capture list).answer → after ≡ (after_read capture list).list → ReadLeaves (read_call capture list) a after
    reads h a after e q = read_left (read_by capture list ∙ rw (le-ltb capture_most (length capture) short, le-ltb (length list / 4) (length capture / 4) h, e, q) refl)
