-- What the verdict on a frame tells of the checks, and what the frame then does.
use Prim.Native.Nat.{ℕ, ◌+◌}
use mathlib.Core.Path.{◌≡◌, refl}
use mathlib.Core.Logic.{◌↔◌}
use mathlib.Core.List.{List, []}
use lib.ListN.{length}
use Rattle.wire.specs.Serial.{head_of, number_of, params_of}
use Rattle.wire.specs.declared.Range.{Range}
use Rattle.wire.specs.declared.Range.TheVariants.{Fits, Big, Small}
use Rattle.record.specs.Record.{Record, with_tries}
use Rattle.command.specs.declared.Command.{Command}
use Rattle.command.specs.declared.Listed.{Listed}
use Rattle.command.specs.declared.Listed.TheVariants.{Built, NotBuilt, Unlisted}
use Rattle.command.specs.declared.Counted.{Counted}
use Rattle.command.specs.declared.Counted.TheVariants.{Right, Wrong}
use Rattle.command.specs.declared.Access.{Access}
use Rattle.command.specs.declared.Access.TheVariants.{Given, Missing, WrongCode}
use Rattle.command.specs.declared.Refusal.{Refusal}
use Rattle.command.specs.declared.Refusal.TheVariants.{Unknown, Unbuilt, Miscounted, NoAccess, BadCode, TooBig, TooSmall}
use Rattle.command.specs.declared.Verdict.{Verdict}
use Rattle.command.specs.declared.Verdict.TheVariants.{Do, Refuse}
use Rattle.command.specs.Tables.{listed_of, counted_of, need_of, range_of}
use Rattle.command.specs.Judge.{status_of, access_of, by_range, by_access, by_count, by_number, judged, verdict_of}
use Rattle.command.specs.Effects.{effect_of, data_of}
use Rattle.command.specs.Step.{left_by, settled, step_by, step_of}

pub verdict-is : (r : Record) (head number : ℕ) (p : List ℕ) → verdict_of r head number p ≡ by_number (listed_of head number) (judged r p)
unfolding verdict_of
verdict-is r head number p = refl

-- the verdict on a whole frame
abbrev pub verdict : Record → List ℕ → Verdict
verdict r f = verdict_of r (head_of f) (number_of f) (params_of f)

pub by-is : (r : Record) (head number : ℕ) (p : List ℕ) → step_by r head number p ≡ settled r head p (verdict_of r head number p)
unfolding step_by
by-is r head number p = refl

pub step_by_lem : (r : Record) (f : List ℕ) → step_of r f ≡ step_by r (head_of f) (number_of f) (params_of f)
unfolding step_of
step_by_lem r f = refl

pub step_is : (r : Record) (f : List ℕ) → step_of r f ≡ settled r (head_of f) (params_of f) (verdict r f)
unfolding step_of
step_is r f = refl

module _ (r : Record) (head number : ℕ) (p : List ℕ) where
  -- the checks up to the one that decided, and how each came out
  abbrev pub Checks : Verdict → Type 0
  Checks (Do c) = (listed_of head number ≡ Built c) × (counted_of c (length p) ≡ Right) × (access_of (need_of c) r p ≡ Given) × (range_of c p ≡ Fits)
  Checks (Refuse Unknown) = listed_of head number ≡ Unlisted
  Checks (Refuse Unbuilt) = listed_of head number ≡ NotBuilt
  Checks (Refuse Miscounted) = (c : Command) × (listed_of head number ≡ Built c) × (counted_of c (length p) ≡ Wrong)
  Checks (Refuse NoAccess) = (c : Command) × (listed_of head number ≡ Built c) × (counted_of c (length p) ≡ Right) × (access_of (need_of c) r p ≡ Missing)
  Checks (Refuse BadCode) = (c : Command) × (listed_of head number ≡ Built c) × (counted_of c (length p) ≡ Right) × (access_of (need_of c) r p ≡ WrongCode)
  Checks (Refuse TooBig) = (c : Command) × (listed_of head number ≡ Built c) × (counted_of c (length p) ≡ Right) × (access_of (need_of c) r p ≡ Given) × (range_of c p ≡ Big)
  Checks (Refuse TooSmall) = (c : Command) × (listed_of head number ≡ Built c) × (counted_of c (length p) ≡ Right) × (access_of (need_of c) r p ≡ Given) × (range_of c p ≡ Small)

  pub checks : Checks (verdict_of r head number p)
  checks = rw (verdict-is r head number p) (by_number_lem (listed_of head number) refl)
    where
      by-range : (c : Command) → listed_of head number ≡ Built c → counted_of c (length p) ≡ Right → access_of (need_of c) r p ≡ Given → (x : Range) → range_of c p ≡ x → Checks (by_range x (Do c))
      by-range c l n a Fits e = (l, n, a, e)
      by-range c l n a Big e = (c, l, n, a, e)
      by-range c l n a Small e = (c, l, n, a, e)

      by-access : (c : Command) → listed_of head number ≡ Built c → counted_of c (length p) ≡ Right → (x : Access) → access_of (need_of c) r p ≡ x → Checks (by_access x (by_range (range_of c p) (Do c)))
      by-access c l n Given e = by-range c l n e (range_of c p) refl
      by-access c l n Missing e = (c, l, n, e)
      by-access c l n WrongCode e = (c, l, n, e)

      by_count_lem : (c : Command) → listed_of head number ≡ Built c → (x : Counted) → counted_of c (length p) ≡ x → Checks (by_count x (by_access (access_of (need_of c) r p) (by_range (range_of c p) (Do c))))
      by_count_lem c l Right e = by-access c l e (access_of (need_of c) r p) refl
      by_count_lem c l Wrong e = (c, l, e)

      by_number_lem : (x : Listed) → listed_of head number ≡ x → Checks (by_number x (judged r p))
      by_number_lem (Built c) e = by_count_lem c e (counted_of c (length p)) refl
      by_number_lem NotBuilt e = e
      by_number_lem Unlisted e = e

  pub passed : (c : Command) → verdict_of r head number p ≡ Do c → Checks (Do c)
  passed c h = rw h at checks

  -- a command takes effect exactly when it passes each check
  pub takes-effect : (c : Command) → (verdict_of r head number p ≡ Do c) ↔ Checks (Do c)
  takes-effect c = (passed c, λ h. rw (verdict-is r head number p, h.0, h.1, h.2, h.3) refl)

pub refused-silent : (r : Record) (f : List ℕ) (why : Refusal) → verdict r f ≡ Refuse why
    → ((step_of r f).reply.status ≡ status_of why) × ((step_of r f).reply.body ≡ []) × ((step_of r f).after ≡ left_by why r)
refused-silent r f why h = rw (step_is r f, h) (refl, refl, refl)

pub done-effect : (r : Record) (f : List ℕ) (c : Command) → verdict r f ≡ Do c
    → ((step_of r f).reply.status ≡ 0) × ((step_of r f).reply.body ≡ data_of c r (params_of f)) × ((step_of r f).after ≡ effect_of c r (params_of f))
done-effect r f c h = rw (step_is r f, h) (refl, refl, refl)

-- a wrong code costs one try
pub wrong-counted : (r : Record) (f : List ℕ) → verdict r f ≡ Refuse BadCode → (step_of r f).after ≡ with_tries r (r.tries + 1)
unfolding left_by
wrong-counted r f h = (refused-silent r f BadCode h).2
