-- The refusals, in their order: the first that applies is the reply.
use Rattle.std.specs.Prelude.{ℕ, cond, List, length, leb, eqb}
use Rattle.wire.specs.Numbers.{word_at}
use Rattle.wire.specs.declared.Range.{Range}
use Rattle.wire.specs.declared.Range.TheVariants.{Fits, Big, Small}
use Rattle.record.specs.Record.{Record}
use Rattle.command.specs.declared.Command.{Command}
use Rattle.command.specs.declared.Listed.{Listed}
use Rattle.command.specs.declared.Listed.TheVariants.{Built, NotBuilt, Unlisted}
use Rattle.command.specs.declared.Counted.{Counted}
use Rattle.command.specs.declared.Counted.TheVariants.{Right, Wrong}
use Rattle.command.specs.declared.Need.{Need}
use Rattle.command.specs.declared.Need.TheVariants.{Nothing, Opened, Closed, Unlocked, Code}
use Rattle.command.specs.declared.Access.{Access}
use Rattle.command.specs.declared.Access.TheVariants.{Given, Missing, WrongCode}
use Rattle.command.specs.declared.Refusal.{Refusal}
use Rattle.command.specs.declared.Refusal.TheVariants.{Unknown, Unbuilt, Miscounted, NoAccess, BadCode, TooBig, TooSmall}
use Rattle.command.specs.declared.Verdict.{Verdict}
use Rattle.command.specs.declared.Verdict.TheVariants.{Do, Refuse}
use Rattle.command.specs.Tables.{listed_of, span_of, counted_of, need_of, range_of}

-- the status of each refusal: "40 number not listed for this head", "41 listed as known but not built", "5B wrong number of parameters", "62 access", "54 / 55 parameter too big / too small"; "One 62 for all of these is *house*."
abbrev pub status_of : Refusal → ℕ
status_of Unknown = 0x40
status_of Unbuilt = 0x41
status_of Miscounted = 0x5B
status_of NoAccess = 0x62
status_of BadCode = 0x62
status_of TooBig = 0x54
status_of TooSmall = 0x55

-- "the first cause of this list that applies and no later one looked at":
-- 1. a BT121 command other than E0 with configuration mode closed
-- 2. any amplifier command with it open
-- 3. 1C while locked
-- 4. 19 with three wrong tries used
-- 5. 19 with a wrong code (this adds one to the tries: `left_by` of `Step`)
unfoldable pub access_of : Need → Record → List ℕ → Access
access_of Nothing r p = Given
-- 1
access_of Opened r p = cond r.flags.opened Given Missing
-- 2
access_of Closed r p = cond r.flags.opened Missing Given
-- 2, 3
access_of Unlocked r p = cond r.flags.opened Missing (cond r.flags.unlocked Given Missing)
-- 2, 4, 5; 19: "compare with the code"
access_of Code r p = cond r.flags.opened Missing (cond (leb 3 r.tries) Missing (cond (eqb (word_at p 0) r.code) Given WrongCode))

-- ---- a check refuses, or the next one is asked

-- "40 number not listed for this head", "41 listed as known but not built"
abbrev pub by_number : Listed → (Command → Verdict) → Verdict
by_number Unlisted next = Refuse Unknown
by_number NotBuilt next = Refuse Unbuilt
by_number (Built c) next = next c

-- "5B wrong number of parameters"
abbrev pub by_count : Counted → Verdict → Verdict
by_count Wrong next = Refuse Miscounted
by_count Right next = next

-- "62 access"
abbrev pub by_access : Access → Verdict → Verdict
by_access Missing next = Refuse NoAccess
by_access WrongCode next = Refuse BadCode
by_access Given next = next

-- "54 / 55 parameter too big / too small"
abbrev pub by_range : Range → Verdict → Verdict
by_range Big next = Refuse TooBig
by_range Small next = Refuse TooSmall
by_range Fits next = next

-- a built command with the parameters p
abbrev pub judged : Record → List ℕ → Command → Verdict
judged r p c = by_count (counted_of c (length p)) (by_access (access_of (need_of c) r p) (by_range (range_of c p) (Do c)))

-- "In this order; the first that applies is the reply": a number under a head with the parameters p
unfoldable pub verdict_of : Record → ℕ → ℕ → List ℕ → Verdict
unfolding listed_of span_of counted_of need_of access_of range_of
verdict_of r head number p = by_number (listed_of head number) (judged r p)
