-- What a call has to bring so that the demands hold for it, and the demands from that.
use Prim.Native.Nat.{ℕ, ◌≤◌}
use mathlib.Core.Path.{◌≡◌, refl, sym, ◌∙◌}
use mathlib.Core.Logic.{◌≢◌}
use mathlib.Core.Bool.{true, false}
use mathlib.Core.List.{List, [], ◌∷◌}
use native.Mathlib.Omega.{arith}
use lib.ListN.{length, get_or}
use Rattle.wire.specs.Numbers.{Bytes}
use Rattle.wire.proofs.PutLaws.{length-put}
use Rattle.record.specs.Record.{Record}
use Rattle.record.specs.Layout.{record_size, at_tries, bytes_of, record_of}
use Rattle.record.specs.Form.{InRange, fault_of}
use Rattle.record.proofs.Lens.{long, get-tries}
use Rattle.record.proofs.RoundTrip.{well-formed}
use Rattle.record.proofs.Whole.{bytes-bytes}
use Rattle.call.specs.declared.CallRefusal.{CallRefusal}
use Rattle.call.specs.declared.CallRefusal.TheVariants.{BadRecord, BadLength, NoRoom, NotFinite}
use Rattle.call.specs.Outcome.{result_of, faulty_place, Outcome, refused, done, Cause, in_order}
use Rattle.call.specs.Reasons.{NoReason, Ends}
use Rattle.call.proofs.InOrder.{None, Each, SameCauses, DecidesAll, in_order_lem, in-order-each, in-order-both, ends, none_left, no-reason}
use Rattle.demands.specs.Premise.{SameButCode, Alike}
use Rattle.demands.specs.CallList.{Malformed, Call}
use Rattle.demands.specs.EndsProperly.{Unharmed}
use Rattle.demands.proofs.Tests.{not-bad}

-- a bad record is told with its place, by each cause that applies
abbrev pub PlacedBy : List ℕ → CallRefusal → Type 0
PlacedBy s (BadRecord place) = place ≡ fault_of s
PlacedBy s BadLength = Unit {0}
PlacedBy s NoRoom = Unit {0}
PlacedBy s NotFinite = Unit {0}

abbrev pub Placed : List ℕ → List Cause → Type 0
Placed s [] = Unit {0}
Placed s (c ∷ causes) = (c.applies ≡ true → PlacedBy s c.why) × Placed s causes

pub record Laws (c : Call) : Type 1 where
  -- its causes in their order, and what is left when none applies: a record, bytes written, bytes skipped
  pub causes : c.Lent → List ℕ → List Cause
  pub after : c.Lent → List ℕ → Record
  pub out : c.Lent → List ℕ → List ℕ
  pub skips : c.Lent → List ℕ → ℕ
  pub chain : (l : c.Lent) (s : List ℕ) → c.outcome l s ≡ in_order (causes l s) s (c.output l) (done (after l s) (out l s) (skips l s) (c.output l))
  -- each cause decides its reason
  pub decides : (l : c.Lent) (s : List ℕ) → DecidesAll (causes l s) (c.reasons l s)
  -- and one that tells of a bad record has its place
  pub placed : (l : c.Lent) (s : List ℕ) → Placed s (causes l s)
  -- if none applies, the record has its size, is left in range, and the output has room
  pub size : (l : c.Lent) (s : List ℕ) → None (causes l s) → length s ≡ record_size
  pub keeps : (l : c.Lent) (s : List ℕ) → Bytes s → c.OfBytes l → None (causes l s) → InRange (after l s)
  pub room : (l : c.Lent) (s : List ℕ) → Bytes s → c.OfBytes l → None (causes l s) → length (out l s) ≤ length (c.output l)
  -- another code makes no difference to the causes, nor, where no command carries either, to what is left
  pub same : (l : c.Lent) (s t : List ℕ) → Bytes s → Bytes t → SameButCode s t → SameCauses (causes l s) (causes l t)
  pub alike : (l : c.Lent) (s t : List ℕ) → Bytes s → Bytes t → SameButCode s t → None (causes l s) → c.Quiet l s t
      → Alike (done (after l s) (out l s) (skips l s) (c.output l)) (done (after l t) (out l t) (skips l t) (c.output l))
  -- with three wrong tries used nothing is compared, and they stay used, but for a call that gives new ones
  pub quiet : (l : c.Lent) (s t : List ℕ) → 3 ≤ (record_of s).tries → c.Quiet l s t
  pub tries : c.resets ≡ false → (l : c.Lent) (s : List ℕ) → 3 ≤ (record_of s).tries → 3 ≤ (after l s).tries
  pub gives : c.resets ≡ true → (l : c.Lent) (s : List ℕ) → (after l s).tries ≡ 0

-- the tries of a record, in its bytes
tries-at : (s : List ℕ) → (record_of s).tries ≡ get_or s at_tries 0
unfolding record_of
tries-at s = refl

module _ (c : Call) (w : Laws c) (l : c.Lent) (s : List ℕ) where
  abbrev o : List ℕ
  o = c.output l

  abbrev finished : Outcome
  finished = done (w.after l s) (w.out l s) (w.skips l s) o

  abbrev refuse : CallRefusal → Outcome
  refuse why = refused why s o

  pub ends_by : Ends (c.reasons l s) s o (c.outcome l s)
  ends_by = rw (w.chain l s) (ends Outcome refuse finished (λ (x : Outcome). x.answer.result) (λ why. refl) (w.causes l s) (c.reasons l s) (w.decides l s) refl)

  -- a call that is refused has written nothing
  pub unspoken : ((c.outcome l s).answer.result ≡ 0 → ⊥) → (c.outcome l s).answer.written ≡ 0
  unspoken =
      rw (w.chain l s)
      (in_order_lem Outcome refuse finished (λ z. (z.answer.result ≡ 0 → ⊥) → z.answer.written ≡ 0) (w.causes l s) (λ why h. refl) (λ n h. absurd (h refl)))

  -- and has a place only where the record is bad
  pub placeless : (c.outcome l s).answer.result ≢ 1 → (c.outcome l s).answer.place ≡ 0
  placeless = rw (w.chain l s) (in_order_lem Outcome refuse finished (λ z. z.answer.result ≢ 1 → z.answer.place ≡ 0) (w.causes l s) only-bad (λ n h. refl))
    where
      only-bad : (why : CallRefusal) → result_of why ≢ 1 → faulty_place why ≡ 0
      only-bad (BadRecord place) h = absurd (h refl)
      only-bad BadLength h = refl
      only-bad NoRoom h = refl
      only-bad NotFinite h = refl

  -- which is that of its first fault
  pub placed_by : (c.outcome l s).answer.result ≡ 1 → (c.outcome l s).answer.place ≡ fault_of s
  placed_by = rw (w.chain l s) (in-order-each Outcome refuse finished Told (w.causes l s) (each (w.causes l s) (w.placed l s)) (λ n h. absurd (omega arith)))
    where
      Told : Outcome → Type 0
      Told z = z.answer.result ≡ 1 → z.answer.place ≡ fault_of s

      by : (why : CallRefusal) → PlacedBy s why → result_of why ≡ 1 → faulty_place why ≡ fault_of s
      by (BadRecord place) p h = p
      by BadLength p h = absurd (omega arith)
      by NoRoom p h = absurd (omega arith)
      by NotFinite p h = absurd (omega arith)

      each : (causes : List Cause) → Placed s causes → Each Outcome refuse finished Told causes
      each [] p = tt
      each (c ∷ causes) p = ((λ e. by c.why (p.0 e)), each causes p.1)

  none : NoReason (c.reasons l s) → None (w.causes l s)
  none n = no-reason (w.causes l s) (c.reasons l s) (w.decides l s) n

  -- what is left when nothing is wrong
  pub left_by_lem : NoReason (c.reasons l s) → c.outcome l s ≡ finished
  left_by_lem n = w.chain l s ∙ none_left Outcome refuse finished (w.causes l s) (none n)

  -- the record of a call that is done, and the lengths of any
  well-by : Bytes s → c.OfBytes l → NoReason (c.reasons l s) → ¬ Malformed (c.outcome l s).kept
  well-by b g n = rw (left_by_lem n) (not-bad (bytes_of (w.after l s)) (well-formed (w.after l s) (w.keeps l s b g (none n))))

  abbrev Lengths : Outcome → Type 0
  Lengths z = (length z.kept ≡ length s) × (length z.output ≡ length o)

  lengths-by : Bytes s → c.OfBytes l → Lengths (c.outcome l s)
  lengths-by b g =
      rw (w.chain l s)
      (in_order_lem Outcome refuse finished Lengths (w.causes l s) (λ why. (refl, refl))
      (λ n. (long (w.after l s) ∙ sym (w.size l s n), length-put o 0 (w.out l s) (omega (arith, w.room l s b g n)))))

  pub unharmed-by : Bytes s → c.OfBytes l → Unharmed s o (c.outcome l s)
  unharmed-by b g = record { record_length = (lengths-by b g).0; output_length = (lengths-by b g).1; well-formed = λ e. well-by b g (ends_by.done_exactly.0 e) }

  pub bytes-by : Bytes s → c.OfBytes l → Bytes (c.outcome l s).kept
  bytes-by b g = rw (w.chain l s) (in_order_lem Outcome refuse finished (λ z. Bytes z.kept) (w.causes l s) (λ why. b) (λ n. bytes-bytes (w.after l s) (w.keeps l s b g n)))

  pub alike-by : (t : List ℕ) → Bytes s → Bytes t → SameButCode s t → c.Quiet l s t → Alike (c.outcome l s) (c.outcome l t)
  alike-by t bs bt same h =
      rw (w.chain l s, w.chain l t)
      (in-order-both Alike s t o finished (done (w.after l t) (w.out l t) (w.skips l t) o) (λ why. (refl, refl, same)) (w.causes l s) (w.causes l t) (w.same l s t bs bt same)
      (λ n. w.alike l s t bs bt same n h))

  module _ (keeps-tries : c.resets ≡ false) (used : 3 ≤ get_or s at_tries 0) where
    three : 3 ≤ (record_of s).tries
    three = rw (tries-at s) used

    pub quiet_by : (t : List ℕ) → c.Quiet l s t
    quiet_by t = w.quiet l s t three

    pub used-by : 3 ≤ get_or (c.outcome l s).kept at_tries 0
    used-by =
        rw (w.chain l s)
        (in_order_lem Outcome refuse finished (λ z. 3 ≤ get_or z.kept at_tries 0) (w.causes l s) (λ why. used) (λ n. rw (get-tries (w.after l s)) (w.tries keeps-tries l s three)))
