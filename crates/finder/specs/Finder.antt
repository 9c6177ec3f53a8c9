-- Inner contract: what the finder promises, for any set of heads: the bytes that it passed are skipped, and what stands where it stopped.
use Rattle.std.specs.Prelude.{ℕ, ◌≤◌, ◌<◌, ◌≡◌, ◌⊎◌, List, get_or, drop}
use Rattle.wire.specs.Frames.{Heads, look, Wait, Take, Tear, Passed}
use Rattle.wire.specs.Serial.{Noise}
use Rattle.finder.specs.declared.Seen.{Seen}
use Rattle.finder.specs.declared.Seen.TheVariants.{Frame, Torn, NoMore}
use Rattle.finder.specs.declared.Found.{Found}

-- the next AA, or the end of the search
pub record Reaches (l : List ℕ) (from until at : ℕ) : Type 0 where
  pub noise : Noise l from at
  pub up_to : at ≤ until
  pub stops : (at ≡ until) ⊎ (get_or l at 0 ≡ 0xAA)

-- what stands at the place: a frame, a broken head, or nothing, which is the end of the search or a candidate that waits
abbrev pub StandsAt : Heads → Seen → List ℕ → ℕ → ℕ → Type 0
StandsAt h (Frame n) l at until = (at < until) × (look h (drop at l) ≡ Take n)
StandsAt h Torn l at until = (at < until) × (look h (drop at l) ≡ Tear)
StandsAt h NoMore l at until = (at ≡ until) ⊎ ((at < until) × (look h (drop at l) ≡ Wait))

pub record Finds (h : Heads) (l : List ℕ) (from until : ℕ) (r : Found) : Type 0 where
  pub passed : Passed h l from r.at
  pub stands : StandsAt h r.seen l r.at until
