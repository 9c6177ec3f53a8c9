-- A run of pieces on two boards of which no compared command carries either code.
use Prim.Native.Nat.{ℕ, ◌≤◌}
use mathlib.Core.Path.{◌≡◌, refl, sym, ap, ◌∙◌}
use mathlib.Core.Bool.{true≢false}
use mathlib.Core.List.{List, [], ◌∷◌}
use native.Mathlib.Nat.{le_trans}
use Rattle.wire.specs.Frames.{Piece, Whole, Broken}
use Rattle.wire.specs.Serial.{serial}
use Rattle.wire.specs.Replies.{Reply}
use Rattle.wire.specs.Run.{runs}
use Rattle.wire.proofs.RunLaws as wire
use Rattle.record.specs.Record.{Record, with_code}
use Rattle.command.specs.Step.{step_of, on_piece}
use Rattle.command.proofs.Secrecy.{step_same, used_up, tries-stay}
use Rattle.demands.specs.Premise.{QuietPiece, QuietRun}

-- the second board is the first but for the code
abbrev pub Agree : Record → Record → Type 0
Agree r q = q ≡ with_code r q.code

agree : (r q : Record) (k : ℕ) → q ≡ with_code r k → Agree r q
unfolding with_code
agree r q k e = e ∙ ap (with_code r) (sym (ap (λ (x : Record). x.code) e))

piece-same : (r q : Record) (p : Piece) → Agree r q → QuietPiece r q p → ((on_piece r p).said ≡ (on_piece q p).said) × Agree (on_piece r p).state (on_piece q p).state
piece-same r q (Whole f) e h =
    let x = step_same r q.code f h in
    let y : (step_of q f).reply ≡ (step_of r f).reply = ap (λ (b : Record). (step_of b f).reply) e ∙ x.0 in
    let z : (step_of q f).after ≡ with_code (step_of r f).after q.code = ap (λ (b : Record). (step_of b f).after) e ∙ x.1 in
    (ap (λ (a : Reply). a ∷ []) (sym y), agree (step_of r f).after (step_of q f).after q.code z)
piece-same r q (Broken head) e h = (refl, e)

quiet-pieces : (r q : Record) (ps : List Piece) → QuietRun r q ps → wire.AllQuiet Record Reply serial on_piece Agree QuietPiece piece-same r q ps
unfolding wire.AllQuiet
quiet-pieces r q [] h = tt
quiet-pieces r q (p ∷ ps) h = (h.0, quiet-pieces (on_piece r p).state (on_piece q p).state ps h.1)

pub run-same : (r q : Record) (ps : List Piece) → Agree r q → QuietRun r q ps → ((runs on_piece r ps).said ≡ (runs on_piece q ps).said) × Agree (runs on_piece r ps).state (runs on_piece q ps).state
run-same r q ps e h = wire.runs-agree Record Reply serial on_piece Agree QuietPiece piece-same r q ps e (quiet-pieces r q ps h)

-- ---- three wrong tries used

pub quiet-used : (r q : Record) (ps : List Piece) → 3 ≤ r.tries → QuietRun r q ps
quiet-used r q [] h = tt
quiet-used r q (Whole f ∷ ps) h = ((λ e. absurd (true≢false (sym e ∙ used_up r f h))), quiet-used (step_of r f).after (step_of q f).after ps (le_trans h (tries-stay r f)))
quiet-used r q (Broken head ∷ ps) h = (tt, quiet-used r q ps h)

pub run-tries : (r : Record) (ps : List Piece) → 3 ≤ r.tries → 3 ≤ (runs on_piece r ps).state.tries
unfolding runs
run-tries r [] h = h
run-tries r (Whole f ∷ ps) h = run-tries (step_of r f).after ps (le_trans h (tries-stay r f))
run-tries r (Broken head ∷ ps) h = run-tries r ps h
