-- `hunt_in`: each turn of the loop goes on with what the hunt has done so far, up to its end.
use Prim.Native.Nat.{ℕ, ◌-◌, ◌≤◌}
use mathlib.Core.Path.{sym, ◌∙◌, subst}
use mathlib.Core.Logic.{inl}
use native.Mathlib.Omega.{arith}
use Rattle.wire.specs.Serial.{heads_of}
use Rattle.wire.proofs.SerialLaws.{huntable}
use Rattle.record.specs.Layout.{record_of}
use Rattle.record.proofs.InPlaceLaws.{holds-long}
use Rattle.finder.proofs.FinderLaws.{shown-frame, shown-torn, shown-nothing}
use Rattle.hunt.specs.Progress.{Hunts}
use Rattle.hunt.proofs.GoingLaws.{frame_whole, going_start, going-sound, going-kept, going-long, going-room, going-frame, framed-pass, framed-tear, framed-carried}
use Rattle.hunt.proofs.hunt_in.Goals as goal
use Rattle.hunt.proofs.hunt_in.Goals.{else-hunt-test, then-hunt-test+in-NoMore}

pub hunt-init : goal.hunt-init
hunt-init c = (omega arith, going_start c.requires.sound)

-- what the finder showed at a frame: it is there whole
pub overflow_add-at-in-Frame : goal.overflow_add-at-in-Frame
overflow_add-at-in-Frame c = omega (arith, frame_whole c.find-found.ensures c.in-Frame.is)

pub slice_bounds-carry-end : goal.slice_bounds-carry-end
slice_bounds-carry-end c = omega (arith, frame_whole c.find-found.ensures c.in-Frame.is)

pub carry-wrote-requires : goal.carry-wrote-requires
carry-wrote-requires c =
    let on = framed-pass c.hunt.invariant.0 c.hunt.invariant.1 c.find-found.ensures.passed in
    let e = shown-frame _ _ _ _ _ c.find-found.ensures _ c.in-Frame.is in
    record {
      sound = going-sound on;
      in_bounds = going-frame on c.requires.s_in_bounds e (huntable c.args.line) (λ i. omega (arith, c.type_inv.s i));
      frame_most_in_bounds = going-room on c.requires.s_in_bounds e;
    }

-- a frame is carried out
pub hunt-preserved-in-Frame : goal.hunt-preserved-in-Frame
hunt-preserved-in-Frame c =
    let few : c.hunt.framed ≤ c.find-found.result.at = omega (arith, c.hunt.invariant.0, c.find-found.ensures.passed.after) in
    let on = framed-pass c.hunt.invariant.0 c.hunt.invariant.1 c.find-found.ensures.passed in
    (omega arith, framed-carried few on c.requires.s_in_bounds (shown-frame _ _ _ _ _ c.find-found.ensures _ c.in-Frame.is) c.carry-wrote.ensures)

-- a torn one is passed by a byte
pub hunt-smaller : goal.hunt-smaller
hunt-smaller c =
    let few : c.hunt.framed ≤ c.find-found.result.at = omega (arith, c.hunt.invariant.0, c.find-found.ensures.passed.after) in
    let on = framed-pass c.hunt.invariant.0 c.hunt.invariant.1 c.find-found.ensures.passed in
    let torn = framed-tear few on (shown-torn _ _ _ _ _ c.find-found.ensures c.in-Torn.is) in
    omega (arith, c.find-found.ensures.passed.after, torn.sofar.along.within)

pub hunt-preserved : goal.hunt-preserved
hunt-preserved c =
    let few : c.hunt.framed ≤ c.find-found.result.at = omega (arith, c.hunt.invariant.0, c.find-found.ensures.passed.after) in
    let on = framed-pass c.hunt.invariant.0 c.hunt.invariant.1 c.find-found.ensures.passed in
    (omega arith, framed-tear few on (shown-torn _ _ _ _ _ c.find-found.ensures c.in-Torn.is))

pub shape_of-rec : goal.shape_of-rec
shape_of-rec c = going-kept c.hunt.invariant.1 ∙ sym (holds-long _ _ c.requires.sound)

pub shape_of-out : goal.shape_of-out
shape_of-out c = going-long c.hunt.invariant.1 c.requires.s_in_bounds

-- behind the loop: the search came to its end, or to a candidate that waits
pub overflow_sub-result : goal.overflow_sub-result
overflow_sub-result c =
    elim c.hunt-test.branch [
      | else-hunt-test w ↦ omega (arith, w.at-is, c.hunt.invariant.0)
      | then-hunt-test+in-NoMore w ↦ omega (arith, w.at-is, c.hunt.invariant.0, w.find-found.ensures.passed.after)
    ]

pub returns : goal.returns
returns c =
    let l = c.hunt in
    let Left : ℕ → Type 0 = λ at. Hunts (heads_of c.args.line) (record_of c.args.rec.now) c.args.s.now c.args.out.now c.args.until c.args.start (record { at = at; counts = record { written = l.wrote; skipped = at - l.framed } }) l.rec l.out in
    elim c.hunt-test.branch [
      | else-hunt-test w ↦ subst Left (sym w.at-is) (record { going = l.invariant.1; stops = inl w.hunt-test.false })
      | then-hunt-test+in-NoMore w ↦ subst Left (sym w.at-is) (record {
        going = framed-pass l.invariant.0 l.invariant.1 w.find-found.ensures.passed;
        stops = shown-nothing _ _ _ _ _ w.find-found.ensures w.in-NoMore.is;
      })
    ]
