-- Inner contract: what code does to a record in place; its bytes are those of a value, before and after.
use Rattle.std.specs.Prelude.{ℕ, ◌≡◌, true, List}
use Rattle.record.specs.Record.{Record}
use Rattle.record.specs.Layout.{Part, PendingPart, Plan, has, place, bytes_in, bytes_of, record_of}
use Rattle.record.specs.Laid.{Laid}
use Rattle.record.specs.Form.{InRangeIn, InRange}

-- the bytes are those of r, which is in range
pub record Holds (r : Record) (s : List ℕ) : Type 0 where
  pub fit : InRange r
  pub same : s ≡ bytes_of r

-- the bytes are those of the record that they stand for, which is in range
abbrev pub Sound : List ℕ → Type 0
Sound s = Holds (record_of s) s

-- whatever record in range the bytes s are, the bytes t are that record after f
abbrev pub Turns : List ℕ → List ℕ → (Record → Record) → Type 0
Turns s t f = (r : Record) → InRange r → s ≡ bytes_of r → t ≡ bytes_of (f r)

-- whatever record in range the bytes s are, v is what f says of it
abbrev pub Shows : {A : Type 0} → List ℕ → A → (Record → A) → Type 0
Shows s v f = (r : Record) → InRange r → s ≡ bytes_of r → v ≡ f r

-- the same in a layout
abbrev pub TurnsIn : Plan → List ℕ → List ℕ → (Record → Record) → Type 0
TurnsIn p s t f = (r : Record) → InRangeIn p r → s ≡ bytes_in p r → t ≡ bytes_in p (f r)

abbrev pub ShowsIn : {A : Type 0} → Plan → List ℕ → A → (Record → A) → Type 0
ShowsIn p s v f = (r : Record) → InRangeIn p r → s ≡ bytes_in p r → v ≡ f r

-- a layout that has a part at a place
pub record Has (q : Part) (at : ℕ) (p : Plan) : Type 0 where
  pub laid : Laid p
  pub there : has p.parts q ≡ true
  pub stands : place p q ≡ at

-- the pending bytes also by their room
abbrev pub HasPending : ℕ → ℕ → Plan → Type 0
HasPending at room p = Has PendingPart at p × (p.room ≡ room)

-- the bytes are those of a record in range of some such layout: what a function asks for that stores or reads one field
pub record SoundBy (such : Plan → Type 0) (s : List ℕ) : Type 0 where
  pub plan : Plan
  pub board : Record
  pub taken : such plan
  pub fit : InRangeIn plan board
  pub same : s ≡ bytes_in plan board

abbrev pub SoundAt : Part → ℕ → List ℕ → Type 0
SoundAt q at s = SoundBy (Has q at) s

abbrev pub SoundPending : ℕ → ℕ → List ℕ → Type 0
SoundPending at room s = SoundBy (HasPending at room) s

-- what it promises is for every such layout
abbrev pub TurnsAt : Part → ℕ → List ℕ → List ℕ → (Record → Record) → Type 0
TurnsAt q at s t f = (p : Plan) → Has q at p → TurnsIn p s t f

abbrev pub TurnsPending : ℕ → ℕ → List ℕ → List ℕ → (Record → Record) → Type 0
TurnsPending at room s t f = (p : Plan) → HasPending at room p → TurnsIn p s t f

abbrev pub ShowsAt : {A : Type 0} → Part → ℕ → List ℕ → A → (Record → A) → Type 0
ShowsAt q at s v f = (p : Plan) → Has q at p → ShowsIn p s v f
