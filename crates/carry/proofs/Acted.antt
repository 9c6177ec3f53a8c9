-- One command judged and carried out, and a whole frame answered, from what their parts promise.
use Rattle.std.specs.Prelude.{Result, Ok, Err, ⊤}
use Prim.Native.Nat.{ℕ, ◌+◌, ◌-◌, ◌≤◌}
use mathlib.Core.Path.{◌≡◌, refl, sym, ap, subst⁻¹, ◌∙◌}
use mathlib.Core.List.{List, [], ◌++◌, append-nil}
use native.Mathlib.Omega.{arith}
use lib.ListN.{length, get_or, take, drop, length-drop, drop_of_length-le}
use lib.Seq.{drop-drop, take_all}
use borrow.Rule.Slice.PartMut.{put_mid}
use Rattle.wire.specs.Sizes.{frame_most}
use Rattle.wire.specs.Numbers.{Bytes, put}
use Rattle.wire.specs.Serial.{head_of, number_of, params_of}
use Rattle.wire.specs.Replies.{Reply, kind_of, reply_bytes, around}
use Rattle.wire.specs.declared.Range.{Range}
use Rattle.wire.specs.declared.Range.TheVariants.{Fits, Big, Small}
use Rattle.wire.proofs.PutLaws.{put-nil, put-zero}
use Rattle.wire.proofs.ReplyLaws.{length-reply, closed-reply}
use Rattle.record.specs.Record.{Record}
use Rattle.record.specs.Layout.{bytes_of, record_of}
use Rattle.record.specs.InPlace.{Holds, Sound, Turns}
use Rattle.record.proofs.InPlaceLaws.{turn_holds}
use Rattle.record.proofs.Lens.{get-tries}
use Rattle.command.specs.Tables.{listed_of, span_of, counted_in, counted_of, need_of, range_of}
use Rattle.command.specs.Entries.{said_by, rows_say, unpacked}
use Rattle.command.specs.Effects.{effect_of, data_of}
use Rattle.command.specs.Judge.{access_of, by_count, by_access, by_range, verdict_of}
use Rattle.command.specs.Step.{left_by, settled, Step, step_by, step_of}
use Rattle.command.specs.declared.Command.{Command}
use Rattle.command.specs.declared.Listed.{Listed}
use Rattle.command.specs.declared.Listed.TheVariants.{Built, NotBuilt, Unlisted}
use Rattle.command.specs.declared.Counted.{Counted}
use Rattle.command.specs.declared.Counted.TheVariants.{Right, Wrong}
use Rattle.command.specs.declared.Access.{Access}
use Rattle.command.specs.declared.Access.TheVariants.{Given, Missing, WrongCode}
use Rattle.command.specs.declared.Refusal.{Refusal}
use Rattle.command.specs.declared.Refusal.TheVariants.{Unknown, Unbuilt, Miscounted, NoAccess, BadCode, TooBig, TooSmall}
use Rattle.command.specs.declared.Verdict.{Verdict}
use Rattle.command.specs.declared.Verdict.TheVariants.{Do, Refuse}
use Rattle.command.proofs.EntryLaws.{apart}
use Rattle.command.proofs.Named.{named-is}
use Rattle.command.proofs.Refused.{verdict-is, Checks, checks, verdict, by-is, step_by_lem, step_is}
use Rattle.command.proofs.Keep.{by_in, wrong_code}
use Rattle.judge.specs.Checks.{judged_count, judged_access, judged_by}
use Rattle.data.specs.PutsData.{PutsData}
use Rattle.effect.specs.Carried.{Calls, Carried}
use Rattle.carry.specs.Carry.{Countable, status_in, count_in, Acts, Carries}

-- a refusal that is no wrong code leaves no trace
pub left-none : (why : Refusal) → (why ≡ BadCode → ⊥) → (r : Record) → left_by why r ≡ r
unfolding left_by
left-none Unknown h r = refl
left-none Unbuilt h r = refl
left-none Miscounted h r = refl
left-none NoAccess h r = refl
left-none BadCode h r = absurd (h refl)
left-none TooBig h r = refl
left-none TooSmall h r = refl

-- nor does one for the range
no-code : (x : Range) (c : Command) (why : Refusal) → by_range x (Do c) ≡ Refuse why → why ≡ BadCode → ⊥
no-code Fits c why h b = cc
no-code Big c why h b = cc
no-code Small c why h b = cc

pub left_as : (why k : Refusal) → why ≡ k → (s t : List ℕ) → Turns s t (λ r. left_by k r) → Turns s t (λ r. left_by why r)
left_as why k told s t g = subst⁻¹ (λ (x : Refusal). Turns s t (λ r. left_by x r)) told g

-- ---- what the checks by an entry mean for the verdict

count-refused : (x : Counted) (y : Access) (v : Verdict) (why : Refusal) → judged_count x (judged_access y) ≡ Err why → by_count x (by_access y v) ≡ Refuse why
count-refused Wrong y v why h = cc
count-refused Right Missing v why h = cc
count-refused Right WrongCode v why h = cc
count-refused Right Given v why h = apart cc

count-passed : (x : Counted) (y : Access) → judged_count x (judged_access y) ≡ Ok tt → (x ≡ Right) × (y ≡ Given)
count-passed Wrong y h = apart cc
count-passed Right Missing h = apart cc
count-passed Right WrongCode h = apart cc
count-passed Right Given h = (refl, refl)

module _ (r : Record) (head number : ℕ) (p : List ℕ) where
  -- a command that passed the checks of its entry
  abbrev pub Passes : Type 0
  Passes = (c : Command) × (listed_of head number ≡ Built c) × (counted_of c (length p) ≡ Right) × (access_of (need_of c) r p ≡ Given)

  passes-by : (x : Listed) → listed_of head number ≡ x → judged_by (said_by x) r p ≡ Ok tt → Passes
  unfolding judged_by counted_of
  passes-by (Built c) e h = let w = count-passed (counted_in (span_of c) (length p)) (access_of (need_of c) r p) h in (c, e, w.0, w.1)
  passes-by NotBuilt e h = apart cc
  passes-by Unlisted e h = apart cc

  refuses-by : (x : Listed) → listed_of head number ≡ x → (why : Refusal) → judged_by (said_by x) r p ≡ Err why → verdict_of r head number p ≡ Refuse why
  unfolding judged_by counted_of
  refuses-by (Built c) e why h = rw (verdict-is r head number p, e) (count-refused (counted_in (span_of c) (length p)) (access_of (need_of c) r p) (by_range (range_of c p) (Do c)) why h)
  refuses-by NotBuilt e why h = rw (verdict-is r head number p, e) (let q : Unbuilt ≡ why = cc in ap Refuse q)
  refuses-by Unlisted e why h = rw (verdict-is r head number p, e) (let q : Unknown ≡ why = cc in ap Refuse q)

  module _ (entry : ℕ) (says : unpacked entry ≡ rows_say head number) {d : Result ⊤ Refusal} (judged : d ≡ judged_by (unpacked entry) r p) where
    pub passes : d ≡ Ok tt → Passes
    passes h = passes-by (listed_of head number) refl (rw says at (sym judged ∙ h))

    pub refuses : (why : Refusal) → d ≡ Err why → verdict_of r head number p ≡ Refuse why
    refuses why h = refuses-by (listed_of head number) refl why (rw says at (sym judged ∙ h))

  -- which number alone calls
  pub calls : Passes → Calls number (length p)
  calls w = (w.0, named-is head number w.0 w.1, w.2)

  pub ranged : (w : Passes) (v : Verdict) → by_range (range_of w.0 p) (Do w.0) ≡ v → verdict_of r head number p ≡ v
  ranged w v e = rw (verdict-is r head number p, w.1, w.2, w.3) e

-- ---- what a command leaves

module _ (s : List ℕ) (sound : Sound s) (head number : ℕ) (p : List ℕ) where
  abbrev r : Record
  r = record_of s

  step-of : (v : Verdict) → verdict_of r head number p ≡ v → step_by r head number p ≡ settled r head p v
  step-of v e = by-is r head number p ∙ ap (settled r head p) e

  -- a wrong code is found only while a try is left
  pub countable : (why : Refusal) → verdict_of r head number p ≡ Refuse why → Countable why s
  countable why v told =
      let h : Checks r head number p (Refuse BadCode) = rw (v, told) at (checks r head number p) in
      rw (sound.same, get-tries r) (wrong_code (need_of h.0) r p h.3).1

  module _ (b : Bytes p) (before : List ℕ) where
    -- the record after f, which is what the step leaves
    held_by : (f : Record → Record) → (step_by r head number p).after ≡ f r → (t : List ℕ) → Turns s t f → Holds (step_by r head number p).after t
    held_by f a t g = rw a (turn_holds r s sound t f g (rw (← a) (by_in r head number p b sound.fit)))

    pub acts-denied : (why : Refusal) → verdict_of r head number p ≡ Refuse why → (t : List ℕ) → Turns s t (λ x. left_by why x) → Acts r head number p before (Err why) t before
    acts-denied why e t g =
        let q = step-of (Refuse why) e in
        let body : (step_by r head number p).reply.body ≡ [] = ap (λ (x : Step). x.reply.body) q in
        record {
          held = held_by (λ x. left_by why x) (ap (λ (x : Step). x.after) q) t g;
          status = ap (λ (x : Step). x.reply.status) q;
          told = rw body (refl, omega arith, sym (put-nil before 0));
        }

    module _ (w : Passes r head number p) where
      pub acts : (d : Result ℕ Refusal) (t after : List ℕ) → Carried number s p before d t after → Acts r head number p before d t after
      acts (Ok n) t after h =
          let c = w.0 in
          let d = h c (named-is head number c w.1) in
          let q = step-of (Do c) (ranged r head number p w (Do c) (rw d.0 refl)) in
          let body : (step_by r head number p).reply.body ≡ data_of c r p = ap (λ (x : Step). x.reply.body) q in
          record { held = held_by (λ x. effect_of c x p) (ap (λ (x : Step). x.after) q) t d.1; status = ap (λ (x : Step). x.reply.status) q; told = rw body d.2 }
      acts (Err why) t after h =
          let d = h w.0 (named-is head number w.0 w.1) in
          rw (d.1, d.2) (acts-denied why (ranged r head number p w (Refuse why) d.0) s (λ z i e. e ∙ ap bytes_of (sym (left-none why (no-code (range_of w.0 p) w.0 why d.0) z))))

-- ---- a whole frame and its reply

-- the part of the frame that is handed on
abbrev pub part : List ℕ → List ℕ
part f = take (length f - 1 - 3) (drop 3 f)

part-is : (f : List ℕ) → part f ≡ params_of f
part-is f = let e : length f - 1 - 3 ≡ length f - 4 = omega arith in rw e refl

-- kind and step of a frame
module _ (r : Record) (f : List ℕ) where
  kind-is : (step_of r f).reply.kind ≡ kind_of (head_of f)
  kind-is = ap (λ (y : Step). y.reply.kind) (step_is r f) ∙ by (verdict r f)
    where
      by : (v : Verdict) → (settled r (head_of f) (params_of f) v).reply.kind ≡ kind_of (head_of f)
      by (Do c) = refl
      by (Refuse why) = refl

  step-as : step_of r f ≡ step_by r (head_of f) (number_of f) (part f)
  step-as = step_by_lem r f ∙ rw (part-is f) refl

-- what is lent of a buffer from a place on
abbrev pub rest : List ℕ → ℕ → List ℕ
rest d at = take (length d - at) (drop at d)

placed : (d s : List ℕ) (at : ℕ) → at + (length d - at) ≡ length d → put_mid at (length d - at) d (s ++ drop (length s) (drop at d)) ≡ put d at s
unfolding put
placed d s at n = let none : drop (length d - at) (drop at d) ≡ [] = drop_of_length-le (drop at d) (simp length-drop (omega arith)) in rw (none, append-nil (s ++ drop (length s) (drop at d)), drop-drop (length s) at d) refl

-- data at its front stand in the buffer from that place on
put-rest : (d s : List ℕ) (at : ℕ) → at ≤ length d → put_mid at (length d - at) d (put (rest d at) 0 s) ≡ put d at s
put-rest d s at h =
    let all : rest d at ≡ drop at d = take_all (length d - at) (drop at d) (simp length-drop (omega arith)) in
    rw (all, put-zero (drop at d) s) (placed d s at (omega arith))

module _ (r : Record) (f before : List ℕ) (at : ℕ) {a : Result ℕ Refusal} {kept told : List ℕ} (acts : Acts r (head_of f) (number_of f) (part f) (rest before (at + 3)) a kept told) (room : at + frame_most ≤ length before) where
  -- the reply closed with the status and the count of what was said
  pub carries : {status n end : ℕ} {after : List ℕ} {said : Result ℕ Refusal} → a ≡ said → status ≡ status_in said → n ≡ count_in said → (end ≡ at + 4 + n) × (after ≡ around (put_mid (at + 3) (length before - (at + 3)) before told) at (get_or f 1 0) status n) → Carries r f before at end kept after
  carries {status} {n} e st m q =
      let x : List ℕ = (step_of r f).reply.body in
      let d : PutsData (rest before (at + 3)) x n told = rw (m, ← e, step-as r f) acts.told in
      let mid : List ℕ = put_mid (at + 3) (length before - (at + 3)) before told in
      let stands : mid ≡ put before (at + 3) x = rw d.2 (put-rest before x (at + 3) (omega (arith, room))) in
      let same : (step_of r f).reply.status ≡ status = ap (λ (y : Step). y.reply.status) (step-as r f) ∙ acts.status ∙ ap status_in e ∙ sym st in
      let reply : (step_of r f).reply ≡ record { kind = kind_of (head_of f); status = status; body = x } = λ i. record { kind = kind-is r f i; status = same i; body = x } in
      let long : length (reply_bytes (step_of r f).reply) ≡ 4 + n = length-reply (step_of r f).reply ∙ ap (λ (k : ℕ). 4 + k) (sym d.0) in
      record {
        held = rw (step-as r f) acts.held;
        ends = rw long (omega (arith, q.0));
        small = omega (arith, q.0, d.1);
        bytes = q.1 ∙ closed-reply before at (get_or f 1 0) status n x mid (sym d.0) (omega (arith, d.1)) stands ∙ ap (λ (y : Reply). put before at (reply_bytes y)) (sym reply);
      }
