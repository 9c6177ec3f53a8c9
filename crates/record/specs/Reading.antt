-- A reading taken into a record.
use Rattle.std.specs.Prelude.{ℕ, true, List}
use Rattle.peak.specs.Pairs.{seen_all}
use Rattle.record.specs.Record.{Record, with_flags, with_pairs, with_reading}

-- "The first reading sets both, with the reading flag": every reading leaves the flag set, and the pairs by `seen`
unfoldable pub reading_of : Record → List ℕ → Record
unfolding with_flags with_pairs seen_all
reading_of r sample = with_pairs (with_flags r (with_reading r.flags true)) (seen_all r.flags.reading r.pairs sample 0)
