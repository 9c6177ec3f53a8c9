-- Inner contract: the data of a reply at the front of a buffer.
use Rattle.std.specs.Prelude.{ℕ, ◌≤◌, ◌≡◌, List, length}
use Rattle.wire.specs.Sizes.{data_most}
use Rattle.wire.specs.Numbers.{put}

-- n bytes of data d are written at the front of a buffer, as many as a reply holds at most; what stands behind them stays
abbrev pub PutsData : List ℕ → List ℕ → ℕ → List ℕ → Type 0
PutsData before d n after = (n ≡ length d) × (n ≤ data_most) × (after ≡ put before 0 d)
