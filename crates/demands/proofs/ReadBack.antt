-- What a board says is read back: its calls write frames that the reader takes, and each entry tells what was said.
use Prim.Native.Nat.{ℕ, zero, suc, ◌+◌}
use mathlib.Core.Path.{◌≡◌, refl, sym, ap, ap₂, subst, ◌∙◌}
use mathlib.Core.Bool.{Bool, true, false, cond, ◌&&◌, and-eq-true_iff}
use mathlib.Core.List.{List, [], ◌∷◌, ◌++◌, append_assoc, append-nil}
use native.Mathlib.Omega.{arith}
use lib.ListN.{length, take, drop, length-append}
use lib.Seq.{take_at}
use lib.Dec.{ltb, eqb}
use borrow.Author.Tests.{eqb-true, eqb-false, ltb-true}
use Rattle.wire.specs.Sizes.{six_values}
use Rattle.wire.specs.Numbers.{Bytes, put}
use Rattle.wire.specs.Reader.{Entry, list_of, entries_in}
use Rattle.wire.specs.Replies.{Reply, replies_bytes}
use Rattle.wire.proofs.NumberLaws.{part-all}
use Rattle.wire.proofs.PutLaws.{put-zero}
use Rattle.wire.proofs.EntryLaws.{entries-put}
use Rattle.wire.proofs.SpokenLaws.{Spoken, spoken_bytes, Readable, entry_at, all_bytes, all_none, all_append, AllReadable, entries_at, size, spoken-cut, spoken-entries, data-stands, Plain, spoken_reply, reply-spoken, reply-readable, reply-status, spoken_reading, reading-readable}
use Rattle.record.specs.Layout.{record_size, channels, bytes_of, record_of}
use Rattle.record.specs.Births.{factory}
use Rattle.record.proofs.RoundTrip.{in-range}
use Rattle.command.specs.Hunt.{hunt_of}
use Rattle.command.proofs.Plain.{AllPlain, hunt-plain}
use Rattle.call.specs.Outcome.{Outcome}
use Rattle.call.specs.Reasons.{NoReason}
use Rattle.call.specs.Calls.{factory_call, power_on_call, bytes_call, samples_call, measuring_frame}
use Rattle.call.specs.Read.{read_entries, read_call}
use Rattle.demands.specs.CallList.{Name, Factory, PowerOn, BytesIn, SamplesIn, call_of, Made, outcome_of}
use Rattle.demands.specs.Secrecy.{AllOfBytes, six_zeros}
use Rattle.demands.specs.Reader.{read_reasons}
use Rattle.demands.specs.ReadBack.{Said, Replied, Measured, replied, meant_by, meant, all_meant, all_wrote, Tells, AllTell, ReadsBack, ReadBack, name_given, SomethingSaid}
use Rattle.demands.proofs.Tests.{well, settled}
use Rattle.demands.proofs.Laws.{ends_by, unspoken, bytes-by}
use Rattle.demands.proofs.FactoryLaws.{factory-done}
use Rattle.demands.proofs.PowerOnLaws.{power-on-done}
use Rattle.demands.proofs.BytesLaws.{bytes-done}
use Rattle.demands.proofs.SamplesLaws.{samples-done}
use Rattle.demands.proofs.AllLaws.{laws-of}
use Rattle.demands.proofs.Reader.{read_done}

-- ---- what is said, as frames

abbrev spoken : Said → Spoken
spoken (Replied a) = spoken_reply a
spoken (Measured sample) = spoken_reading sample

abbrev spokens : List Said → List Spoken
spokens [] = []
spokens (m ∷ said) = spoken m ∷ spokens said

spokens-append : (said more : List Said) → spokens (said ++ more) ≡ spokens said ++ spokens more
spokens-append [] more = refl
spokens-append (m ∷ said) more = ap (λ (fs : List Spoken). spoken m ∷ fs) (spokens-append said more)

-- such as a board says
abbrev Fit : Said → Type 0
Fit (Replied a) = Plain a
Fit (Measured sample) = length sample ≡ six_values

abbrev AllFit : List Said → Type 0
AllFit [] = Unit {0}
AllFit (m ∷ said) = Fit m × AllFit said

fit_append : (said more : List Said) → AllFit said → AllFit more → AllFit (said ++ more)
fit_append [] more f g = g
fit_append (m ∷ said) more f g = (f.0, fit_append said more f.1 g)

fit-readable : (m : Said) → Fit m → Readable (spoken m)
fit-readable (Replied a) f = reply-readable a f
fit-readable (Measured sample) f = reading-readable sample f

all-readable : (said : List Said) → AllFit said → AllReadable (spokens said)
unfolding AllReadable
all-readable [] f = tt
all-readable (m ∷ said) f = (fit-readable m f.0, all-readable said f.1)

-- the replies of a bytes call
replies-said : (said : List Reply) → replies_bytes said ≡ all_bytes (spokens (replied said))
unfolding replies_bytes replied all_bytes
replies-said [] = refl
replies-said (a ∷ said) = ap₂ (λ (x y : List ℕ). x ++ y) (reply-spoken a) (replies-said said)

replies_fit : (said : List Reply) → AllPlain said → AllFit (replied said)
unfolding AllPlain replied
replies_fit [] p = tt
replies_fit (a ∷ said) p = (p.0, replies_fit said p.1)

-- ---- one call

-- what a call that is done wrote
done-wrote : (out o : List ℕ) → take (length out) (put o 0 out) ≡ out
done-wrote out o = rw (put-zero o out) (take_at out (drop (length out) o) (length out) refl)

abbrev Speaks : List Said → Outcome → Type 0
Speaks said z = (take z.answer.written z.output ≡ all_bytes (spokens said)) × AllFit said

silent : (z : Outcome) → z.answer.written ≡ 0 → Speaks [] z
silent z e = (rw (e, all_none) refl, tt)

reading-fits : (t : Bool) (sample : List ℕ) → length sample ≡ six_values → AllFit (cond t (Measured sample ∷ []) [])
reading-fits true sample n = (n, tt)
reading-fits false sample n = tt

reading-said : (t : Bool) (sample : List ℕ) → length sample ≡ six_values → cond t (measuring_frame channels sample) [] ≡ all_bytes (spokens (cond t (Measured sample ∷ []) []))
unfolding all_bytes
reading-said true sample n = ap (λ (x : List ℕ). 0xAA ∷ 0x15 ∷ 0xB0 ∷ (x ++ 0x85 ∷ [])) (part-all six_values sample n) ∙ sym (append-nil (spoken_bytes (spoken_reading sample)))
reading-said false sample n = refl

done-speaks : (n : Name) (l : (call_of n).Lent) (s : List ℕ) → Bytes s → (call_of n).OfBytes l → NoReason ((call_of n).reasons l s) → Speaks (meant_by n l s) ((call_of n).outcome l s)
done-speaks Factory l s b g n = silent (factory_call s) (ap (λ (z : Outcome). z.answer.written) (factory-done s (settled (length s) record_size n.0)))
done-speaks PowerOn l s b g n = silent (power_on_call s) (ap (λ (z : Outcome). z.answer.written) (power-on-done s n.0))
done-speaks BytesIn l s b g n =
    let said = (hunt_of (record_of s) l.input).said in
    let fit = replies_fit said (hunt-plain (record_of s) l.input g (in-range s b (well s n.0))) in
    rw (bytes-done s l.input l.output n) (done-wrote (replies_bytes said) l.output ∙ replies-said said, fit)
done-speaks SamplesIn l s b g n =
    let t = (record_of s).flags.sending in
    let m = settled (length l.input) six_values n.1.0 in
    rw (samples-done s l.input l.output n) (done-wrote (cond t (measuring_frame channels l.input) []) l.output ∙ reading-said t l.input m, reading-fits t l.input m)

one-speaks : (m : Made) (s : List ℕ) → Bytes s → (call_of m.name).OfBytes m.lent → Speaks (meant m s) (outcome_of m s)
one-speaks m s b g = by (eqb (outcome_of m s).answer.result 0) refl
  where
    by : (t : Bool) → eqb (outcome_of m s).answer.result 0 ≡ t → Speaks (cond t (meant_by m.name m.lent s) []) (outcome_of m s)
    by true e =
        let c = call_of m.name in
        done-speaks m.name m.lent s b g ((ends_by c (laws-of m.name) m.lent s).done_exactly.0 (eqb-true (outcome_of m s).answer.result 0 e))
    by false e = silent (outcome_of m s) (unspoken (call_of m.name) (laws-of m.name) m.lent s (eqb-false (outcome_of m s).answer.result 0 e))

-- ---- calls one after the other

all-speak : (calls : List Made) (s : List ℕ) → Bytes s → AllOfBytes calls → (all_wrote calls s ≡ all_bytes (spokens (all_meant calls s))) × AllFit (all_meant calls s)
all-speak [] s b g = (sym all_none, tt)
all-speak (m ∷ calls) s b g =
    let one = one-speaks m s b g.0 in
    let rest = all-speak calls (outcome_of m s).kept (bytes-by (call_of m.name) (laws-of m.name) m.lent s b g.0) g.1 in
    let more = all_meant calls (outcome_of m s).kept in (
      ap₂ (λ (x y : List ℕ). x ++ y) one.0 rest.0 ∙ sym (all_append (spokens (meant m s)) (spokens more)) ∙ ap all_bytes (sym (spokens-append (meant m s) more)),
      fit_append (meant m s) more one.1 rest.1,
    )

-- ---- read back

tells : (before : List ℕ) (m : Said) (more : List ℕ) → Fit m
    → Tells (before ++ (spoken_bytes (spoken m) ++ more)) (entry_at (length before) (spoken m)) m
tells before (Replied a) more f = (refl, reply-status a f, refl, data-stands before (spoken_reply a) more)
tells before (Measured sample) more f = (refl, refl, f, data-stands before (spoken_reading sample) more)

all_tell : (before : List ℕ) (said : List Said) → AllFit said → AllTell (before ++ all_bytes (spokens said)) (entries_at (length before) (spokens said)) said
unfolding all_bytes entries_at
all_tell before [] f = tt
all_tell before (m ∷ said) f =
    let more = all_bytes (spokens said) in
    let on : List ℕ = before ++ spoken_bytes (spoken m) in
    let e : on ++ more ≡ before ++ (spoken_bytes (spoken m) ++ more) = append_assoc before (spoken_bytes (spoken m)) more in
    let n : length on ≡ length before + 4 + length (spoken m).body = length-append before (spoken_bytes (spoken m)) ∙ omega (arith, size (spoken m) []) in (
      tells before m more f.0,
      subst (λ (at : ℕ). AllTell (before ++ (spoken_bytes (spoken m) ++ more)) (entries_at at (spokens said)) said) n
          (subst (λ (x : List ℕ). AllTell x (entries_at (length on) (spokens said)) said) e (all_tell on said f.1)),
    )

many : (at : ℕ) (said : List Said) → length (entries_at at (spokens said)) ≡ length said
unfolding entries_at
many at [] = refl
many at (m ∷ said) = ap suc (many (at + 4 + length (spoken m).body) said)

spoken-back : (said : List Said) (list : List ℕ) → AllFit said → NoReason (read_reasons (all_bytes (spokens said)) list) → ReadsBack (all_bytes (spokens said)) said (read_call (all_bytes (spokens said)) list)
spoken-back said list f n =
    let fs = spokens said in
    let capture = all_bytes fs in
    let r = all-readable said f in
    let e : read_entries capture ≡ entries_at 0 fs = spoken-entries fs 0 r in
    let c = spoken-cut fs r in
    let k : length (read_entries capture) ≡ length said = ap length e ∙ many 0 said in
    rw (read_done capture list n)
    (record {
      answered = λ i. record { result = 0; entries = k i; skipped = c.0 i; unread = ap length c.1 i };
      told =
          subst (λ (x : List Entry). AllTell capture x said)
          (sym (ap (λ (j : ℕ). entries_in j (put list 0 (list_of (read_entries capture)))) (sym k) ∙ entries-put (read_entries capture) list ∙ e)) (all_tell [] said f);
    })

pub read_back : ReadBack
read_back calls s list b g short room =
    let w = all-speak calls s b g in
    let n : NoReason (read_reasons (all_wrote calls s) list) = (λ h. omega arith, (λ h. omega arith, tt)) in
    rw w.0 (spoken-back (all_meant calls s) list w.1 (rw w.0 at n))

-- ---- it says something

-- bytes, by a computed test
abbrev small : List ℕ → Bool
small [] = true
small (x ∷ l) = ltb x 256 && small l

small_bytes : (l : List ℕ) → small l ≡ true → Bytes l
small_bytes [] e i = omega arith
small_bytes (x ∷ l) e zero = ltb-true x 256 ((and-eq-true_iff (ltb x 256) (small l)).0 e).0
small_bytes (x ∷ l) e (suc i) = small_bytes l ((and-eq-true_iff (ltb x 256) (small l)).0 e).1 i

pub something_said : SomethingSaid
unfolding bytes_call samples_call replied hunt_of bytes_of record_of factory
something_said = record { of_bytes = (small_bytes name_given refl, (small_bytes six_zeros refl, tt)); said = refl; wrote = refl }
