-- Every command leaves a record in range and the pending bytes alone, and its reply fits a frame.
use Prim.Native.Nat.{ℕ, zero, suc, ◌+◌, ◌-◌, ◌≤◌, ◌<◌, zero-le}
use mathlib.Core.Path.{◌≡◌, refl, ◌∙◌}
use mathlib.Core.Bool.{Bool, true, false, cond, ◌&&◌}
use mathlib.Core.List.{List, [], ◌∷◌, ◌++◌}
use native.Mathlib.Nat.{le_trans}
use native.Mathlib.Omega.{arith}
use borrow.Author.Tests.{leb-true, leb-false, ltb-true}
use lib.ListN.{length, get_or, drop, set, length-set, length-append}
use Rattle.wire.specs.Sizes.{data_most}
use Rattle.wire.proofs.NumberLaws.{bytes_take, bytes_drop}
use Rattle.wire.proofs.ZeroLaws.{cut-le, cut-cut, cut-bytes}
use lib.Dec.{ltb, leb}
use Rattle.wire.specs.Numbers.{Bytes}
use Rattle.wire.proofs.PutLaws.{narrow}
use Rattle.wire.specs.Ranges.{also}
use Rattle.wire.specs.Zeros.{before_zero}
use Rattle.wire.specs.Serial.{head_of, number_of, params_of}
use Rattle.wire.specs.declared.Range.{Range}
use Rattle.wire.specs.declared.Range.TheVariants.{Fits, Big, Small}
use Rattle.record.specs.Record.{Record}
use Rattle.record.specs.Limits.{input_range}
use Rattle.record.specs.Form.{InRange}
use Rattle.record.specs.Settings.{setting_width}
use Rattle.record.proofs.SettingLaws.{widths, shown-length, setting-in}
use Rattle.command.specs.declared.Command.{Command}
use Rattle.command.specs.declared.Command.TheVariants.{Open, Close, Read, Set, ReadName, SetName, SetInput, ReadInput, SwitchOutput, Unlock, ReadLock, ReadModel, SetModel, StopSending, StartSending, ReadPair}
use Rattle.command.specs.declared.Counted.TheVariants.{Right}
use Rattle.command.specs.declared.Need.{Need}
use Rattle.command.specs.declared.Need.TheVariants.{Nothing, Opened, Closed, Unlocked, Code}
use Rattle.command.specs.declared.Access.TheVariants.{WrongCode}
use Rattle.command.specs.declared.Refusal.{Refusal}
use Rattle.command.specs.declared.Refusal.TheVariants.{Unknown, Unbuilt, Miscounted, NoAccess, BadCode, TooBig, TooSmall}
use Rattle.command.specs.declared.Verdict.{Verdict}
use Rattle.command.specs.declared.Verdict.TheVariants.{Do, Refuse}
use Rattle.command.specs.Tables.{span_of, counted_of, counted_by, need_of, range_of}
use Rattle.command.specs.Rows.{input_channel, model_data}
use Rattle.command.specs.Effects.{effect_of, data_of}
use Rattle.command.specs.Judge.{access_of, verdict_of}
use Rattle.command.specs.Step.{left_by, settled, step_by, step_of}
use Rattle.command.proofs.Refused.{verdict, by-is, step_by_lem, step_is, Checks, checks}
use Rattle.command.proofs.Blind.{blind}

-- ---- a command carried out

also-right : (x y : Range) → also x y ≡ Fits → y ≡ Fits
also-right Fits y h = h
also-right Big y h = cc
also-right Small y h = cc

pub counted-span : (c : Command) (n : ℕ) → counted_of c n ≡ Right → ((span_of c).least ≤ n) × (n ≤ (span_of c).most)
unfolding counted_of
counted-span c n h =
    let w = both (leb (span_of c).least n) (leb n (span_of c).most) h in
    (leb-true (span_of c).least n w.0, leb-true n (span_of c).most w.1)
  where
    both : (x y : Bool) → counted_by (x && y) ≡ Right → (x ≡ true) × (y ≡ true)
    both true true e = (refl, refl)
    both true false e = (cc, cc)
    both false y e = (cc, cc)

-- what holds at every place still does after a store
set_all : (P : ℕ → Type 0) (l : List ℕ) (k v : ℕ) → P v → ((i : ℕ) → P (get_or l i 0)) → (i : ℕ) → P (get_or (set l k v) i 0)
set_all P [] k v h e i = e i
set_all P (x ∷ l) zero v h e zero = h
set_all P (x ∷ l) zero v h e (suc i) = e (suc i)
set_all P (x ∷ l) (suc k) v h e zero = e zero
set_all P (x ∷ l) (suc k) v h e (suc i) = set_all P l k v h (λ j. e (suc j)) i

-- `search` makes the range record of the fields of i and of what stands beside it
pub effect-in : (c : Command) (r : Record) (p : List ℕ) → counted_of c (length p) ≡ Right → range_of c p ≡ Fits → Bytes p → InRange r → InRange (effect_of c r p)
unfolding effect_of range_of span_of
effect-in Open r p n g b i = search
effect-in Close r p n g b i = search
effect-in (Read k) r p n g b i = i
effect-in (Set k) r p n g b i = setting-in k r p g b i
effect-in ReadName r p n g b i = i
effect-in SetName r p n g b i = let short : length p ≤ 15 = (counted-span SetName (length p) n).1 in search
effect-in SetInput r p n g b i =
    let old = r.settings.inputs in
    let at = get_or p 0 0 - 2 in
    let fit = also-right (input_channel (get_or p 0 0)) (input_range (get_or p 1 0)) g in
    let five : length (set old at (get_or p 1 0)) ≡ 5 = length-set old at (get_or p 1 0) ∙ i.five in
    let each = set_all (λ x. input_range x ≡ Fits) old at (get_or p 1 0) fit i.inputs in
    search
effect-in ReadInput r p n g b i = i
effect-in SwitchOutput r p n g b i = search
effect-in Unlock r p n g b i = search
effect-in ReadLock r p n g b i = i
effect-in ReadModel r p n g b i = i
effect-in SetModel r p n g b i =
    let short : length (before_zero p) ≤ 15 = le_trans (cut-le p) (counted-span SetModel (length p) n).1 in
    let whole = cut-cut p in
    let bytes = cut-bytes p b in
    search
effect-in StopSending r p n g b i = search
effect-in StartSending r p n g b i = search
effect-in ReadPair r p n g b i = i

-- ---- a refusal

-- a code is found wrong only while configuration mode is closed and a try is left
pub wrong_code : (n : Need) (r : Record) (p : List ℕ) → access_of n r p ≡ WrongCode → (r.flags.opened ≡ false) × (r.tries < 3)
unfolding access_of
wrong_code n r p h = let w = go n r.flags.opened r.flags.unlocked (leb 3 r.tries) refl refl refl h in (w.0, leb-false 3 r.tries w.1)
  where
    go : (n : Need) (o u t : Bool) → r.flags.opened ≡ o → r.flags.unlocked ≡ u → leb 3 r.tries ≡ t → access_of n r p ≡ WrongCode
        → (r.flags.opened ≡ false) × (leb 3 r.tries ≡ false)
    go Nothing o u t a b c h = (cc, cc)
    go Opened true u t a b c h = (cc, cc)
    go Opened false u t a b c h = (cc, cc)
    go Closed true u t a b c h = (cc, cc)
    go Closed false u t a b c h = (cc, cc)
    go Unlocked true u t a b c h = (cc, cc)
    go Unlocked false true t a b c h = (cc, cc)
    go Unlocked false false t a b c h = (cc, cc)
    go Code true u t a b c h = (cc, cc)
    go Code false u true a b c h = (cc, cc)
    go Code false u false a b c h = (cc, cc)

pub left_in : (why : Refusal) (r : Record) (head number : ℕ) (p : List ℕ) → Checks r head number p (Refuse why) → InRange r → InRange (left_by why r)
unfolding left_by
left_in Unknown r head number p h i = i
left_in Unbuilt r head number p h i = i
left_in Miscounted r head number p h i = i
left_in NoAccess r head number p h i = i
left_in BadCode r head number p h i =
    let up : r.tries + 1 ≤ 3 = omega (arith, (wrong_code (need_of h.0) r p h.3).1) in
    search
left_in TooBig r head number p h i = i
left_in TooSmall r head number p h i = i

-- ---- one frame

params-bytes : (f : List ℕ) → Bytes f → Bytes (params_of f)
params-bytes f b = bytes_take (length f - 4) (drop 3 f) (bytes_drop 3 f b)

pub by_in : (r : Record) (head number : ℕ) (p : List ℕ) → Bytes p → InRange r → InRange (step_by r head number p).after
by_in r head number p b i = rw (by-is r head number p) (go (verdict_of r head number p) (checks r head number p))
  where
    go : (v : Verdict) → Checks r head number p v → InRange (settled r head p v).after
    go (Do c) h = effect-in c r p h.1 h.3 b i
    go (Refuse why) h = left_in why r head number p h i

pub step_in : (r : Record) (f : List ℕ) → Bytes f → InRange r → InRange (step_of r f).after
step_in r f b i = rw (step_by_lem r f) (by_in r (head_of f) (number_of f) (params_of f) (params-bytes f b) i)

pub step-pending : (r : Record) (f : List ℕ) → (step_of r f).after.pending ≡ r.pending
step-pending r f = rw (step_is r f) (blind r r.code (head_of f) (params_of f) (verdict r f)).2

-- ---- the data of a reply

closed-short : (m : List ℕ) → length m ≤ 15 → length (model_data m) ≤ 15
closed-short m h = go (ltb (length m) 15) refl
  where
    go : (t : Bool) → ltb (length m) 15 ≡ t → length (m ++ cond t (0x00 ∷ []) []) ≤ 15
    go true e = simp length-append (omega (arith, ltb-true (length m) 15 e))
    go false e = simp length-append (omega arith)

pub data-short : (c : Command) (r : Record) (p : List ℕ) → InRange r → length (data_of c r p) ≤ data_most
unfolding data_of
data-short Open r p i = omega arith
data-short Close r p i = omega arith
data-short (Read k) r p i = omega (arith, shown-length k r.settings, narrow (setting_width k) (widths k))
data-short (Set k) r p i = omega arith
data-short ReadName r p i = i.name_length
data-short SetName r p i = omega arith
data-short SetInput r p i = omega arith
data-short ReadInput r p i = omega arith
data-short SwitchOutput r p i = omega arith
data-short Unlock r p i = omega arith
data-short ReadLock r p i = omega arith
data-short ReadModel r p i = closed-short r.model i.model_length
data-short SetModel r p i = omega arith
data-short StopSending r p i = omega arith
data-short StartSending r p i = omega arith
data-short ReadPair r p i = omega arith

pub reply-short : (r : Record) (f : List ℕ) → InRange r → length (step_of r f).reply.body ≤ data_most
reply-short r f i = rw (step_is r f) (go (verdict r f))
  where
    go : (v : Verdict) → length (settled r (head_of f) (params_of f) v).reply.body ≤ data_most
    go (Do c) = data-short c r (params_of f) i
    go (Refuse why) = zero-le
