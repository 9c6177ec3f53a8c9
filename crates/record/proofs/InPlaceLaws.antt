-- Bytes that are those of a record in range.
use Prim.Native.Nat.{ℕ, suc, ◌+◌, ◌≤◌, ◌<◌}
use mathlib.Core.Path.{◌≡◌, refl, sym, ap, subst, ◌∙◌}
use mathlib.Core.Bool.{true}
use mathlib.Core.List.{List}
use lib.ListN.{length}
use Rattle.record.specs.Record.{Record}
use Rattle.record.specs.Layout.{Part, PendingPart, has, Plan, width, place, current, record_size, pending_room, at_pending_length, bytes_in, bytes_of, record_of}
use Rattle.record.specs.Laid.{Laid}
use Rattle.record.specs.Form.{InRangeIn, InRange}
use Rattle.record.specs.InPlace.{Holds, Sound, Turns, Shows, TurnsIn, ShowsIn, Has, SoundBy, SoundAt, SoundPending, TurnsAt, TurnsPending, ShowsAt}
use Rattle.record.proofs.Plans.{laid}
use Rattle.record.proofs.RoundTrip.{long_in, read_back}
use Rattle.record.proofs.Layouts.{place_in}
use Rattle.record.proofs.Lens.{long}

module _ (r : Record) (s : List ℕ) (h : Holds r s) where
  pub holds-is : record_of s ≡ r
  holds-is = ap record_of h.same ∙ read_back r h.fit

  pub holds-sound : Sound s
  holds-sound = rw holds-is h

  pub holds-long : length s ≡ record_size
  holds-long = ap length h.same ∙ long r

  -- what was done to the bytes, as what was done to the record
  pub turn_holds : (t : List ℕ) (f : Record → Record) → Turns s t f → InRange (f r) → Holds (f r) t
  turn_holds t f g i = record { fit = i; same = g r h.fit h.same }

pub sound-long : (s : List ℕ) → Sound s → length s ≡ record_size
sound-long s h = ap length h.same ∙ long (record_of s)

-- ---- in any layout that has a part at a place

-- a store at the place of a part, as what it promises in every such layout
pub turns_at : (q : Part) (at : ℕ) (s : List ℕ) (g : ℕ → List ℕ → List ℕ) (f : Record → Record)
    → ((p : Plan) → Laid p → (r : Record) → InRangeIn p r → has p.parts q ≡ true → g (place p q) (bytes_in p r) ≡ bytes_in p (f r)) → TurnsAt q at s (g at s) f
turns_at q at s g f law p w r i e = rw e (subst (λ (k : ℕ). g k (bytes_in p r) ≡ bytes_in p (f r)) w.stands (law p w.laid r i w.there))

-- the part is there whole
pub reaches : (q : Part) (at : ℕ) (s : List ℕ) (h : SoundAt q at s) → at + width h.plan q ≤ length s
reaches q at s h =
    let p = h.plan in
    let w = h.taken in
    rw (h.same, long_in p w.laid h.board, ← w.stands) (place_in (width p) q p.parts w.there)

pub reaches-pending : (at room : ℕ) (s : List ℕ) → SoundPending at room s → (at + suc room ≤ length s) × (room < 256)
reaches-pending at room s h =
    let w = h.taken in
    let k : SoundAt PendingPart at s = record { plan = h.plan; board = h.board; taken = w.0; fit = h.fit; same = h.same } in
    (rw (← w.1) (reaches PendingPart at s k), rw (← w.1) w.0.laid.room)

-- ---- and in the current one

module _ (q : Part) (at : ℕ) (there : has current.parts q ≡ true) (stands : place current q ≡ at) where
  has_here : Has q at current
  has_here = record { laid = laid; there = there; stands = stands }

  pub sound-at : (s : List ℕ) → Sound s → SoundAt q at s
  unfolding bytes_of
  sound-at s h = record { plan = current; board = record_of s; taken = has_here; fit = h.fit; same = h.same }

  pub here : (s t : List ℕ) (f : Record → Record) → TurnsAt q at s t f → Turns s t f
  unfolding bytes_of
  here s t f g = g current has_here

  pub here-shows : {A : Type 0} (s : List ℕ) (v : A) (f : Record → A) → ShowsAt q at s v f → Shows s v f
  unfolding bytes_of
  here-shows s v f g = g current has_here

pub sound-pending : (s : List ℕ) → Sound s → SoundPending at_pending_length pending_room s
unfolding bytes_of
sound-pending s h = record { plan = current; board = record_of s; taken = (has_here PendingPart at_pending_length refl refl, refl); fit = h.fit; same = h.same }

pub here-pending : (at room : ℕ) (s t : List ℕ) (f : Record → Record) → place current PendingPart ≡ at → current.room ≡ room → TurnsPending at room s t f → Turns s t f
unfolding bytes_of
here-pending at room s t f stands e g = g current (has_here PendingPart at refl stands, e)

-- ---- what is asked leaves what is promised one answer

module _ (such : Plan → Type 0) (s : List ℕ) (h : SoundBy such s) where
  pub turned-once : (t u : List ℕ) (f : Record → Record) → ((p : Plan) → such p → TurnsIn p s t f) → ((p : Plan) → such p → TurnsIn p s u f) → t ≡ u
  turned-once t u f a b = a h.plan h.taken h.board h.fit h.same ∙ sym (b h.plan h.taken h.board h.fit h.same)

  pub shown-once : {A : Type 0} (v w : A) (f : Record → A) → ((p : Plan) → such p → ShowsIn p s v f) → ((p : Plan) → such p → ShowsIn p s w f) → v ≡ w
  shown-once v w f a b = a h.plan h.taken h.board h.fit h.same ∙ sym (b h.plan h.taken h.board h.fit h.same)

module _ (s : List ℕ) (h : Sound s) where
  pub turns-once : (t u : List ℕ) (f : Record → Record) → Turns s t f → Turns s u f → t ≡ u
  turns-once t u f a b = a (record_of s) h.fit h.same ∙ sym (b (record_of s) h.fit h.same)

  pub shows-once : {A : Type 0} (v w : A) (f : Record → A) → Shows s v f → Shows s w f → v ≡ w
  shows-once v w f a b = a (record_of s) h.fit h.same ∙ sym (b (record_of s) h.fit h.same)
