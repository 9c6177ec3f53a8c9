-- What stands at the place of a part is a field, and a store there is a change of that field, in any layout that has the part.
use Prim.Native.Nat.{ℕ, zero, suc, ◌+◌, ◌-◌, ◌*◌, ◌≤◌, ◌<◌}
use mathlib.Core.Path.{◌≡◌, refl, sym, ap, ap₂, ◌∙◌}
use mathlib.Core.Bool.{Bool, true, cond}
use mathlib.Core.List.{List, [], ◌∷◌}
use native.Mathlib.Nat.{add-zero, zero-add, add-suc}
use native.Mathlib.Numerals.{add-one}
use native.Mathlib.Omega.{arith}
use lib.ListN.{length, get_or, set, length-set}
use lib.Seq.{sets}
use lib.Bits.{bit_and, bit_or}
use Rattle.wire.specs.Numbers.{bytes2, bytes4, bytes_at}
use Rattle.wire.proofs.NumberLaws.{length_part, part-all}
use Rattle.peak.specs.Pairs.{Pair, no_pair, pair_bytes}
use Rattle.record.specs.declared.Flag.{Flag}
use Rattle.record.specs.declared.Flag.TheVariants.{Opened, Unlocked, Sending, Reading}
use Rattle.record.specs.Record.{Flags, Record, with_output, with_power, with_step, with_mode, with_on_off, with_inputs, with_interval, with_filter, with_name, with_flags, with_tries, with_code, with_settings, with_outputs, with_model, with_pending, with_pairs, with_counter}
use Rattle.record.specs.Flags.{worth, flag_of, with_flag}
use Rattle.record.specs.Layout.{Part, FlagByte, TriesByte, CodeWord, PowerHalf, StepByte, ModeByte, OnOffByte, InputBytes, OutputByte, IntervalByte, FilterWord, NamePart, ModelPart, PendingPart, PairsPart, CounterHalf, all_parts, has, each, Plan, name_room, width, place, flags_byte, outputs_byte, bit_of, part_bytes, bytes_in}
use Rattle.record.proofs.Choices.{masked, bits_back, switch}
use Rattle.record.proofs.Parts.{part_at, sets-cons, pairs-part, pairs_set}
use Rattle.record.specs.Laid.{Laid, core_parts}
use Rattle.record.proofs.Layouts.{all_same, upd, lay-same, lay-store}
use Rattle.record.proofs.Pieces.{chunk-long}
use Rattle.record.proofs.RoundTrip.{get-part}

-- a flag set or cleared by its bit
switch-flag : (k : Flag) (v : Bool) (f : Flags) → cond v (bit_or (flags_byte f) (worth k)) (bit_and (flags_byte f) (255 - worth k)) ≡ flags_byte (with_flag f k v)
switch-flag Opened v f = switch 1 (omega arith) (omega arith) v f.opened f.unlocked f.sending f.reading
switch-flag Unlocked v f = switch 2 (omega arith) (omega arith) v f.opened f.unlocked f.sending f.reading
switch-flag Sending v f = switch 3 (omega arith) (omega arith) v f.opened f.unlocked f.sending f.reading
switch-flag Reading v f = switch 4 (omega arith) (omega arith) v f.opened f.unlocked f.sending f.reading

-- and read
flag-back : (k : Flag) (f : Flags) → bit_of (flags_byte f) (worth k) ≡ flag_of f k
flag-back Opened f = (bits_back f.opened f.unlocked f.sending f.reading).0
flag-back Unlocked f = (bits_back f.opened f.unlocked f.sending f.reading).1
flag-back Sending f = (bits_back f.opened f.unlocked f.sending f.reading).2
flag-back Reading f = (bits_back f.opened f.unlocked f.sending f.reading).3

-- a part of a part
part-sub : (n : ℕ) (s : List ℕ) (at j m : ℕ) → j + m ≤ n → bytes_at m s (at + j) ≡ bytes_at m (bytes_at n s at) j
part-sub n s at j zero h = refl
part-sub n s at j (suc m) h = ap₂ (◌∷◌) (sym (part_at n s at j (omega arith))) (ap (bytes_at m s) (sym (add-suc at j)) ∙ part-sub n s at (suc j) m (omega arith))

-- a list stored over one of its length
sets_over : (a v : List ℕ) → length a ≡ length v → sets a 0 v ≡ v
sets_over [] [] e = refl
sets_over [] (x ∷ v) e = absurd (let z : ⊥ = omega arith in z)
sets_over (y ∷ a) [] e = absurd (let z : ⊥ = omega arith in z)
sets_over (y ∷ a) (x ∷ v) e = sets-cons x a 0 v ∙ ap (λ (t : List ℕ). x ∷ t) (sets_over a v (omega arith))

module _ (p : Plan) (l : Laid p) where
  -- a store within a part: the record t is r but for that part, which all parts say by computing
  pub store : (r t : Record) (q : Part) → has p.parts q ≡ true → (j : ℕ) (v : List ℕ) → j + length v ≤ width p q
      → each (upd q (sets (part_bytes p r q) j v) (part_bytes p r)) all_parts ≡ each (part_bytes p t) all_parts → sets (bytes_in p r) (place p q + j) v ≡ bytes_in p t
  unfolding bytes_in
  store r t q e j v h same =
      lay-store (width p) (part_bytes p r) (chunk-long p r) q p.parts l.apart e j v h
      ∙ lay-same (upd q (sets (part_bytes p r q) j v) (part_bytes p r)) (part_bytes p t) p.parts (λ x k. all_same (upd q (sets (part_bytes p r q) j v) (part_bytes p r)) (part_bytes p t) same x)

  -- from the first byte of the part on
  pub store-all : (r t : Record) (q : Part) → has p.parts q ≡ true → (v : List ℕ) → length v ≤ width p q
      → each (upd q (sets (part_bytes p r q) 0 v) (part_bytes p r)) all_parts ≡ each (part_bytes p t) all_parts → sets (bytes_in p r) (place p q) v ≡ bytes_in p t
  store-all r t q e v h same = ap (λ (k : ℕ). sets (bytes_in p r) k v) (sym (add-zero (place p q))) ∙ store r t q e 0 v (omega (arith, h)) same

  core : (k : ℕ) → get_or (each (has p.parts) core_parts) k true ≡ get_or (each (λ q. true) core_parts) k true
  core k = ap (λ (b : List Bool). get_or b k true) l.core

  module _ (r : Record) where
    -- ---- what every layout has

    pub get-flags_in : get_or (bytes_in p r) (place p FlagByte) 0 ≡ flags_byte r.flags
    get-flags_in = ap (λ (s : List ℕ). get_or s 0 0) (get-part p l r FlagByte (core 2))

    pub set-flags_in : (v : Flags) → set (bytes_in p r) (place p FlagByte) (flags_byte v) ≡ bytes_in p (with_flags r v)
    unfolding with_flags
    set-flags_in v = store-all r (with_flags r v) FlagByte (core 2) (flags_byte v ∷ []) (omega arith) refl

    pub get-flag_in : (k : Flag) → bit_of (get_or (bytes_in p r) (place p FlagByte) 0) (worth k) ≡ flag_of r.flags k
    get-flag_in k = ap (λ (b : ℕ). bit_of b (worth k)) get-flags_in ∙ flag-back k r.flags

    pub set-flag_in : (k : Flag) (v : Bool) → let b = get_or (bytes_in p r) (place p FlagByte) 0 in
        set (bytes_in p r) (place p FlagByte) (cond v (bit_or b (worth k)) (bit_and b (255 - worth k))) ≡ bytes_in p (with_flags r (with_flag r.flags k v))
    set-flag_in k v =
        ap (λ (b : ℕ). set (bytes_in p r) (place p FlagByte) (cond v (bit_or b (worth k)) (bit_and b (255 - worth k)))) get-flags_in
        ∙ ap (set (bytes_in p r) (place p FlagByte)) (switch-flag k v r.flags) ∙ set-flags_in (with_flag r.flags k v)

    pub get-tries_in : get_or (bytes_in p r) (place p TriesByte) 0 ≡ r.tries
    get-tries_in = ap (λ (s : List ℕ). get_or s 0 0) (get-part p l r TriesByte (core 3))

    pub set-tries_in : (v : ℕ) → set (bytes_in p r) (place p TriesByte) v ≡ bytes_in p (with_tries r v)
    unfolding with_tries
    set-tries_in v = store-all r (with_tries r v) TriesByte (core 3) (v ∷ []) (omega arith) refl

    pub set-code_in : (v : ℕ) → sets (bytes_in p r) (place p CodeWord) (bytes4 v) ≡ bytes_in p (with_code r v)
    unfolding with_code
    set-code_in v = store-all r (with_code r v) CodeWord (core 4) (bytes4 v) (omega arith) refl

    pub get-filter_in : bytes_at 4 (bytes_in p r) (place p FilterWord) ≡ bytes4 r.settings.filter
    get-filter_in = get-part p l r FilterWord (core 5)

    pub set-filter_in : (v : ℕ) → sets (bytes_in p r) (place p FilterWord) (bytes4 v) ≡ bytes_in p (with_settings r (with_filter r.settings v))
    unfolding with_settings
    set-filter_in v = store-all r (with_settings r (with_filter r.settings v)) FilterWord (core 5) (bytes4 v) (omega arith) refl

    pub get-model_in : bytes_at 15 (bytes_in p r) (place p ModelPart) ≡ bytes_at 15 r.model 0
    get-model_in = get-part p l r ModelPart (core 6)

    pub set-model_in : (v : List ℕ) → sets (bytes_in p r) (place p ModelPart) (bytes_at 15 v 0) ≡ bytes_in p (with_model r v)
    unfolding with_model
    set-model_in v = store-all r (with_model r v) ModelPart (core 6) (bytes_at 15 v 0) (omega arith) refl

    pub get-pending_in : bytes_at (width p PendingPart) (bytes_in p r) (place p PendingPart) ≡ length r.pending ∷ bytes_at p.room r.pending 0
    get-pending_in = get-part p l r PendingPart (core 7)

    pub set-pending_in : (v : List ℕ) → sets (set (bytes_in p r) (place p PendingPart) (length v)) (place p PendingPart + 1) (bytes_at p.room v 0) ≡ bytes_in p (with_pending r v)
    unfolding with_pending
    set-pending_in v =
        let room : length (bytes_at p.room v 0) ≡ p.room = length_part p.room v 0 in
        let part : sets (length r.pending ∷ bytes_at p.room r.pending 0) 0 (length v ∷ bytes_at p.room v 0) ≡ length v ∷ bytes_at p.room v 0 = sets_over (length r.pending ∷ bytes_at p.room r.pending 0) (length v ∷ bytes_at p.room v 0) (ap suc (length_part p.room r.pending 0 ∙ sym room)) in
        ap (λ (k : ℕ). sets (set (bytes_in p r) (place p PendingPart) (length v)) k (bytes_at p.room v 0)) (add-one (place p PendingPart))
        ∙ store-all r (with_pending r v) PendingPart (core 7) (length v ∷ bytes_at p.room v 0) (omega (arith, room))
        (ap (λ (x : List ℕ). each (upd PendingPart x (part_bytes p r)) all_parts) part)

    pub get-pair_in : (k : ℕ) → k < p.channels → bytes_at 8 (bytes_in p r) (place p PairsPart + 8 * k) ≡ pair_bytes (get_or r.pairs k no_pair)
    get-pair_in k h =
        part-sub (p.channels * 8) (bytes_in p r) (place p PairsPart) (8 * k) 8 (omega arith)
        ∙ ap (λ (s : List ℕ). bytes_at 8 s (8 * k)) (get-part p l r PairsPart (core 8)) ∙ pairs-part p.channels r.pairs 0 k h ∙ ap (λ (j : ℕ). pair_bytes (get_or r.pairs j no_pair)) (zero-add k)

    pub set-pair_in : (k : ℕ) (v : Pair) → k < p.channels → length r.pairs ≡ p.channels → sets (bytes_in p r) (place p PairsPart + 8 * k) (pair_bytes v) ≡ bytes_in p (with_pairs r (set r.pairs k v))
    unfolding with_pairs
    set-pair_in k v h e =
        store r (with_pairs r (set r.pairs k v)) PairsPart (core 8) (8 * k) (pair_bytes v) (omega arith)
        (ap (λ (x : List ℕ). each (upd PairsPart x (part_bytes p r)) all_parts) (pairs_set p.channels r.pairs k v e h))

    -- ---- the radio's parts, where they are

    pub set-power_in : has p.parts PowerHalf ≡ true → (v : ℕ) → sets (bytes_in p r) (place p PowerHalf) (bytes2 v) ≡ bytes_in p (with_settings r (with_power r.settings v))
    unfolding with_settings
    set-power_in e v = store-all r (with_settings r (with_power r.settings v)) PowerHalf e (bytes2 v) (omega arith) refl

    pub set-step_in : has p.parts StepByte ≡ true → (v : ℕ) → set (bytes_in p r) (place p StepByte) v ≡ bytes_in p (with_settings r (with_step r.settings v))
    unfolding with_settings
    set-step_in e v = store-all r (with_settings r (with_step r.settings v)) StepByte e (v ∷ []) (omega arith) refl

    pub set-mode_in : has p.parts ModeByte ≡ true → (v : ℕ) → set (bytes_in p r) (place p ModeByte) v ≡ bytes_in p (with_settings r (with_mode r.settings v))
    unfolding with_settings
    set-mode_in e v = store-all r (with_settings r (with_mode r.settings v)) ModeByte e (v ∷ []) (omega arith) refl

    pub set-on-off_in : has p.parts OnOffByte ≡ true → (v : ℕ) → set (bytes_in p r) (place p OnOffByte) v ≡ bytes_in p (with_settings r (with_on_off r.settings v))
    unfolding with_settings
    set-on-off_in e v = store-all r (with_settings r (with_on_off r.settings v)) OnOffByte e (v ∷ []) (omega arith) refl

    pub set-interval_in : has p.parts IntervalByte ≡ true → (v : ℕ) → set (bytes_in p r) (place p IntervalByte) v ≡ bytes_in p (with_settings r (with_interval r.settings v))
    unfolding with_settings
    set-interval_in e v = store-all r (with_settings r (with_interval r.settings v)) IntervalByte e (v ∷ []) (omega arith) refl

    pub set-input_in : has p.parts InputBytes ≡ true → (k v : ℕ) → k < 5 → length r.settings.inputs ≡ 5 → set (bytes_in p r) (place p InputBytes + k) v ≡ bytes_in p (with_settings r (with_inputs r.settings (set r.settings.inputs k v)))
    unfolding with_settings
    set-input_in there k v h five =
        let g = r.settings.inputs in
        let e : set (bytes_at 5 g 0) k v ≡ bytes_at 5 (set g k v) 0 = ap (λ (s : List ℕ). set s k v) (part-all 5 g five) ∙ sym (part-all 5 (set g k v) (length-set g k v ∙ five)) in
        store r (with_settings r (with_inputs r.settings (set g k v))) InputBytes there k (v ∷ []) (omega arith) (ap (λ (x : List ℕ). each (upd InputBytes x (part_bytes p r)) all_parts) e)

    -- output k, 1 to 4, by its mask
    pub set-output_in : has p.parts OutputByte ≡ true → (k : ℕ) (v : Bool) → 1 ≤ k → k ≤ 4
        → set (bytes_in p r) (place p OutputByte) (masked k v (get_or (bytes_in p r) (place p OutputByte) 0)) ≡ bytes_in p (with_outputs r (with_output r.outputs k v))
    unfolding with_outputs
    set-output_in e k v a b =
        let o = with_output r.outputs k v in
        ap (λ (x : ℕ). set (bytes_in p r) (place p OutputByte) (masked k v x)) (ap (λ (s : List ℕ). get_or s 0 0) (get-part p l r OutputByte e))
        ∙ ap (set (bytes_in p r) (place p OutputByte)) (switch k a b v r.outputs.first r.outputs.second r.outputs.third r.outputs.fourth)
        ∙ store-all r (with_outputs r o) OutputByte e (outputs_byte o ∷ []) (omega arith) refl

    pub set-name_in : has p.parts NamePart ≡ true → (v : List ℕ) → sets (set (bytes_in p r) (place p NamePart) (length v)) (place p NamePart + 1) (bytes_at name_room v 0) ≡ bytes_in p (with_settings r (with_name r.settings v))
    unfolding with_settings
    set-name_in e v =
        ap (λ (k : ℕ). sets (set (bytes_in p r) (place p NamePart) (length v)) k (bytes_at name_room v 0)) (add-one (place p NamePart))
        ∙ store-all r (with_settings r (with_name r.settings v)) NamePart e (length v ∷ bytes_at name_room v 0) (omega arith) refl

    -- ---- the counter, where it is

    pub set-counter_in : has p.parts CounterHalf ≡ true → (v : ℕ) → sets (bytes_in p r) (place p CounterHalf) (bytes2 v) ≡ bytes_in p (with_counter r v)
    unfolding with_counter
    set-counter_in e v = store-all r (with_counter r v) CounterHalf e (bytes2 v) (omega arith) refl
