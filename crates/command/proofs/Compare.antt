-- A code is compared exactly where the unlock command is rightly built, configuration mode closed and a try left.
use Prim.Native.Nat.{ℕ, ◌<◌}
use mathlib.Core.Path.{◌≡◌, refl, sym, ap, ◌∙◌}
use mathlib.Core.Logic.{◌↔◌}
use mathlib.Core.Bool.{Bool, true, false, not, ◌&&◌, and-eq-true_iff, true≢false}
use mathlib.Core.List.{List}
use lib.ListN.{length}
use lib.Dec.{ltb}
use borrow.Author.Tests.{ltb-true, lt-ltb, not-true}
use Rattle.wire.specs.Serial.{head_of, number_of, params_of}
use Rattle.record.specs.Record.{Record}
use Rattle.command.specs.declared.Command.{Command}
use Rattle.command.specs.declared.Command.TheVariants.{Open, Close, Read, Set, ReadName, SetName, SetInput, ReadInput, SwitchOutput, Unlock, ReadLock, ReadModel, SetModel, StopSending, StartSending, ReadPair}
use Rattle.command.specs.declared.Listed.{Listed}
use Rattle.command.specs.declared.Listed.TheVariants.{Built, NotBuilt, Unlisted}
use Rattle.command.specs.declared.Counted.{Counted}
use Rattle.command.specs.declared.Counted.TheVariants.{Right, Wrong}
use Rattle.command.specs.Rows.{numbers_of}
use Rattle.command.specs.Tables.{listed_of, counted_of, need_of}
use Rattle.command.specs.Compare.{is_right, is_code, unlocking, compares}
use Rattle.command.proofs.SettingRows.{no_code}

code-alone : (c : Command) → is_code (need_of c) ≡ true → c ≡ Unlock
unfolding need_of
code-alone Open h = cc
code-alone Close h = cc
code-alone (Read k) h = absurd (true≢false (sym h ∙ no_code (numbers_of k).radio))
code-alone (Set k) h = absurd (true≢false (sym h ∙ no_code (numbers_of k).radio))
code-alone ReadName h = cc
code-alone SetName h = cc
code-alone SetInput h = cc
code-alone ReadInput h = cc
code-alone SwitchOutput h = cc
code-alone Unlock h = refl
code-alone ReadLock h = cc
code-alone ReadModel h = cc
code-alone SetModel h = cc
code-alone StopSending h = cc
code-alone StartSending h = cc
code-alone ReadPair h = cc

is_right_lem : (x : Counted) → is_right x ≡ true → x ≡ Right
is_right_lem Right h = refl
is_right_lem Wrong h = cc

unlocking-is : (p : List ℕ) (x : Listed) → unlocking p x ≡ true → (x ≡ Built Unlock) × (counted_of Unlock (length p) ≡ Right)
unlocking-is p (Built c) h =
    let both = (and-eq-true_iff (is_right (counted_of c (length p))) (is_code (need_of c))).0 h in
    let alone = code-alone c both.1 in
    (ap Built alone, rw alone at (is_right_lem (counted_of c (length p)) both.0))
unlocking-is p NotBuilt h = (cc, cc)
unlocking-is p Unlisted h = (cc, cc)

abbrev pub Compared : Record → List ℕ → Type 0
Compared r f = (listed_of (head_of f) (number_of f) ≡ Built Unlock) × (counted_of Unlock (length (params_of f)) ≡ Right) × (r.flags.opened ≡ false) × (r.tries < 3)

pub compares-exactly : (r : Record) (f : List ℕ) → (compares r f ≡ true) ↔ Compared r f
unfolding compares
compares-exactly r f = (there, λ h. rw (h.0, h.1, h.2, lt-ltb r.tries 3 h.3) refl)
  where
    asked : Bool
    asked = unlocking (params_of f) (listed_of (head_of f) (number_of f))

    there : (asked && not r.flags.opened && ltb r.tries 3) ≡ true → Compared r f
    there h =
        let last = (and-eq-true_iff (asked && not r.flags.opened) (ltb r.tries 3)).0 h in
        let first = (and-eq-true_iff asked (not r.flags.opened)).0 last.0 in
        let unlock = unlocking-is (params_of f) (listed_of (head_of f) (number_of f)) first.0 in
        (unlock.0, unlock.1, not-true r.flags.opened first.1, ltb-true r.tries 3 last.1)
