-- The bytes of a record in range are bytes, and it stays in range with every code of four bytes.
use Prim.Native.Nat.{ℕ, zero, suc, ◌/◌, ◌%◌, ◌<◌}
use mathlib.Core.Path.{◌≡◌, refl, sym, ◌∙◌}
use mathlib.Core.Bool.{Bool, true, false, cond, ◌&&◌}
use mathlib.Core.List.{List, [], ◌∷◌, ◌++◌}
use native.Mathlib.Omega.{arith}
use lib.ListN.{length, get_or}
use lib.Dec.{ltb, leb}
use lib.IntN.{pos}
use borrow.Author.Tests.{ltb-true, leb-true}
use Rattle.wire.specs.Numbers.{Bytes, signed8, bytes2, bytes4, bytes_at}
use Rattle.wire.specs.Ranges.{within, unsigned, also}
use Rattle.wire.specs.declared.Range.{Range}
use Rattle.wire.specs.declared.Range.TheVariants.{Fits, Big, Small}
use Rattle.wire.proofs.NumberLaws.{bytes-part, bytes-append}
use Rattle.peak.specs.Pairs.{Pair, no_pair, pair_bytes, pairs_bytes}
use Rattle.record.specs.Record.{Record, with_code}
use Rattle.record.specs.Limits.{name_range, interval_range}
use Rattle.record.specs.Layout.{Part, SizeBytes, VersionByte, FlagByte, TriesByte, CodeWord, PowerHalf, StepByte, ModeByte, OnOffByte, InputBytes, OutputByte, IntervalByte, FilterWord, NamePart, ModelPart, PendingPart, PairsPart, CounterHalf, Plan, current, plan_size, lay, flags_byte, outputs_byte, part_bytes, bytes_in, bytes_of}
use Rattle.record.specs.Form.{InRangeIn, InRange}
use Rattle.record.proofs.Choices.{nibble-below}
use Rattle.record.specs.Laid.{Laid}
use Rattle.record.proofs.Plans.{laid}
use Rattle.record.proofs.Bounds.{signed_range, interval-range}

pub code_in : (r : Record) (k : ℕ) → k < 0x100000000 → InRange r → InRange (with_code r k)
unfolding with_code
code_in r k h i = search

-- ---- fields of one byte

fit-byte : (b : ℕ) (x : Range) → cond (ltb b 128) x Small ≡ Fits → b < 256
fit-byte b x e = by (ltb b 128) refl e
  where
    by : (t : Bool) → ltb b 128 ≡ t → cond t x Small ≡ Fits → b < 256
    by true t e = omega (arith, ltb-true b 128 t)
    by false t e = let z : ◌≡◌ {A = ℕ} 0 1 = cc in absurd (omega arith)

small-byte : (low high b : ℕ) → within (pos low) (pos high) (signed8 b) ≡ Fits → b < 256
small-byte low high b e = fit-byte b (unsigned low high b) (sym (signed_range low high b) ∙ e)

interval-byte : (b : ℕ) → interval_range b ≡ Fits → b < 256
interval-byte b e = fit-byte b (cond (ltb 59 b) Big (cond (ltb 0 b && ltb b 4) Small Fits)) (sym (interval-range b) ∙ e)

-- ---- lists of bytes, under a name that does not compute

record Each (l : List ℕ) : Type 0 where
  bytes : Bytes l

none : Each []
none = record { bytes = λ i. omega arith }

cons : (x : ℕ) (l : List ℕ) → x < 256 → Each l → Each (x ∷ l)
cons x l h b = record { bytes = at }
  where
    at : Bytes (x ∷ l)
    at zero = h
    at (suc i) = b.bytes i

append : (l more : List ℕ) → Bytes l → Each more → Each (l ++ more)
append l more a b = record { bytes = bytes-append l more a b.bytes }

half-all : (w : ℕ) → Each (bytes2 w)
half-all w = cons (w / 256 % 256) _ (omega arith) (cons (w % 256) _ (omega arith) none)

word-all : (w : ℕ) → Each (bytes4 w)
word-all w = cons (w / 16777216 % 256) _ (omega arith) (cons (w / 65536 % 256) _ (omega arith) (half-all w))

name-all : (l : List ℕ) → name_range l ≡ Fits → Each l
unfolding name_range
name-all [] e = none
name-all (b ∷ l) e = by (leb b 0x7F) refl (λ f. name-all l f) e
  where
    by : (t : Bool) → leb b 0x7F ≡ t → (name_range l ≡ Fits → Each l) → also (cond t Fits Big) (name_range l) ≡ Fits → Each (b ∷ l)
    by true t more e = cons b l (omega (arith, leb-true b 0x7F t)) (more e)
    by false t more e = let z : ◌≡◌ {A = ℕ} 0 1 = cc in absurd (omega arith)

pairs-all : (n : ℕ) (ps : List Pair) (i : ℕ) → Each (pairs_bytes n ps i)
pairs-all zero ps i = none
pairs-all (suc n) ps i =
    let p = get_or ps i no_pair in
    append (pair_bytes p) _ (append (bytes4 p.greatest) _ (word-all p.greatest).bytes (word-all p.smallest)).bytes (pairs-all n ps (suc i))

module _ (p : Plan) (l : Laid p) (r : Record) (h : InRangeIn p r) where
  part_bytes_lem : (q : Part) → Each (part_bytes p r q)
  part_bytes_lem SizeBytes = half-all (plan_size p)
  part_bytes_lem VersionByte = cons p.version [] l.version none
  part_bytes_lem FlagByte = let f = r.flags in cons (flags_byte f) [] (omega (arith, nibble-below f.opened f.unlocked f.sending f.reading)) none
  part_bytes_lem TriesByte = cons r.tries [] (omega (arith, h.tries)) none
  part_bytes_lem CodeWord = word-all r.code
  part_bytes_lem PowerHalf = half-all r.settings.power
  part_bytes_lem StepByte = cons r.settings.step [] (small-byte 0 5 r.settings.step h.step) none
  part_bytes_lem ModeByte = cons r.settings.mode [] (small-byte 0 1 r.settings.mode h.mode) none
  part_bytes_lem OnOffByte = cons r.settings.on_off [] (small-byte 0 2 r.settings.on_off h.on-off) none
  part_bytes_lem InputBytes = record { bytes = bytes-part 5 r.settings.inputs 0 (λ i. small-byte 0 1 (get_or r.settings.inputs i 0) (h.inputs i)) }
  part_bytes_lem OutputByte = let o = r.outputs in cons (outputs_byte o) [] (omega (arith, nibble-below o.first o.second o.third o.fourth)) none
  part_bytes_lem IntervalByte = cons r.settings.interval [] (interval-byte r.settings.interval h.interval) none
  part_bytes_lem FilterWord = word-all r.settings.filter
  part_bytes_lem NamePart = let g = r.settings in cons (length g.name) (bytes_at 15 g.name 0) (omega (arith, h.name_length)) (record { bytes = bytes-part 15 g.name 0 (name-all g.name h.name).bytes })
  part_bytes_lem ModelPart = record { bytes = bytes-part 15 r.model 0 h.model_bytes }
  part_bytes_lem PendingPart =
      cons (length r.pending) (bytes_at p.room r.pending 0) (omega (arith, l.short r.pending h.pending, l.room)) (record { bytes = bytes-part p.room r.pending 0 h.pending_bytes })
  part_bytes_lem PairsPart = pairs-all p.channels r.pairs 0
  part_bytes_lem CounterHalf = half-all r.counter

  whole : (ps : List Part) → Each (lay (part_bytes p r) ps)
  whole [] = none
  whole (q ∷ ps) = append (part_bytes p r q) (lay (part_bytes p r) ps) (part_bytes_lem q).bytes (whole ps)

  pub bytes-bytes_in : Bytes (bytes_in p r)
  unfolding bytes_in
  bytes-bytes_in = (whole p.parts).bytes

pub bytes-bytes : (r : Record) → InRange r → Bytes (bytes_of r)
unfolding bytes_of
bytes-bytes r h = bytes-bytes_in current laid r h
