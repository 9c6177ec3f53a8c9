-- The reader by its causes, its cut, and the places of its entries.
use Prim.Native.Nat.{ℕ, zero, suc, ◌+◌, ◌-◌, ◌*◌, ◌/◌, ◌≤◌, ◌<◌}
use mathlib.Core.Path.{◌≡◌, refl, sym, ap, ◌∙◌}
use mathlib.Core.Logic.{◌⊎◌, ◌≢◌, ⊎_elim}
use mathlib.Core.Bool.{Bool, true, false, ◌||◌}
use mathlib.Core.List.{List, [], ◌∷◌}
use native.Mathlib.Omega.{arith}
use lib.ListN.{length, get_or, take, drop}
use lib.Seq.{length-take-le, drop_at, drop-drop}
use lib.Dec.{eqb}
use borrow.Author.Tests.{le-leb, lt-leb, eq-eqb, ne_eqb}
use Rattle.std.proofs.Math.Bool.{or-true}
use Rattle.wire.specs.Sizes.{capture_most}
use Rattle.wire.specs.Frames.{Heads, Look, Skip, Wait, Take, Tear, look, Cut, onward, cut_from, cut, sizes, Placed, placed_on, placed_from}
use Rattle.wire.specs.Serial.{ends_in_85}
use Rattle.wire.specs.Reader.{is_reply, is_long, reader_head, reader, Entry, entry_of, entries_of, list_of}
use Rattle.wire.proofs.CutLaws.{take-room, look-headless, look-unsaid, look-unfinished, cut-over, cut-wait, cut-skip, cut-take, cut-tear, conserved}
use Rattle.wire.proofs.SerialLaws.{size-other}
use Rattle.wire.proofs.ReaderLaws.{third-long, third-measuring, third-other, reader-is, read-alone, read-unsaid, read-third, read-reply, read_none, read-torn, read-frame}
use Rattle.wire.proofs.EntryLaws.{length-list, entries-put}
use Rattle.wire.proofs.PutLaws.{put-zero, length-put}
use Rattle.call.specs.declared.CallRefusal.TheVariants.{BadLength, NoRoom}
use Rattle.call.specs.Reasons.{NoReason, EndsBy}
use Rattle.call.specs.Read.{ReadOutcome, read_refused, read_causes, read_entries, after_read, read_call}
use Rattle.call.proofs.InOrder.{DecidesAll, none_left, no-reason, ends}
use Rattle.call.proofs.Unfolded.{read_by}
use Rattle.call.proofs.ReadEnds.{read-allowed-is}
use Rattle.demands.specs.Reader.{read_reasons, entry_sizes, Behind, Names, AllNamed, ReadProperly, ReaderEnds, second, third, ReadLines, read_rows, RowsRead, ReadsAsListed}
use Rattle.demands.proofs.Tests.{below}

-- the tests of the definitions, from the numbers of the page
below-reply : (b : ℕ) → (b < 0x50) ⊎ (0x6F < b) → is_reply b ≡ false
below-reply b w = ⊎_elim (λ h. rw (lt-leb 0x50 b h) refl) (λ h. rw (le-leb 0x50 b (omega arith), lt-leb b 0x6F h) refl) w

among-reply : (b : ℕ) → 0x50 ≤ b → b ≤ 0x6F → is_reply b ≡ true
among-reply b g h = rw (le-leb 0x50 b g, le-leb b 0x6F h) refl

long-is : (b : ℕ) → (b ≡ 0x5F) ⊎ (b ≡ 0x6F) → is_long b ≡ true
long-is b w = ⊎_elim (λ e. rw (eq-eqb b 0x5F e) refl) (λ e. rw (eq-eqb b 0x6F e) (or-true (eqb b 0x5F))) w

long-not : (b : ℕ) → b ≢ 0x5F → b ≢ 0x6F → is_long b ≡ false
long-not b g h = rw (ne_eqb b 0x5F g, ne_eqb b 0x6F h) refl

-- ---- entries and the cut, for any heads

module _ (h : Heads) where
  sizes-on : (at : ℕ) (l : List ℕ) (v : Look) (go : ℕ → List Placed) (cuts : ℕ → Cut) → look h l ≡ v → ((k : ℕ) → entry_sizes (entries_of (go k)) ≡ sizes (cuts k).pieces)
      → entry_sizes (entries_of (placed_on v at l go)) ≡ sizes (onward v l cuts).pieces
  unfolding entries_of sizes
  sizes-on at l Skip go cuts e ih = ih 0
  sizes-on at l Wait go cuts e ih = refl
  sizes-on at l (Take n) go cuts e ih = omega (arith, ih (3 + n), length-take-le (4 + n) l (take-room h l n e).0)
  sizes-on at l Tear go cuts e ih = ih 0

  sizes-from : (at k : ℕ) (l : List ℕ) → entry_sizes (entries_of (placed_from h at k l)) ≡ sizes (cut_from h k l).pieces
  unfolding placed_from cut_from entries_of sizes
  sizes-from at k [] = refl
  sizes-from at zero (x ∷ l) = sizes-on at (x ∷ l) (look h (x ∷ l)) (λ k. placed_from h (at + 1) k l) (λ k. cut_from h k l) refl (λ k. sizes-from (at + 1) k l)
  sizes-from at (suc k) (x ∷ l) = sizes-from (at + 1) k l

  behind-on : (at : ℕ) (l : List ℕ) (v : Look) (go : ℕ → List Placed) (cuts : ℕ → Cut) (from end : ℕ) → look h l ≡ v → 0 < length l → from ≤ at → end + length (onward v l cuts).waiting ≡ at + length l
      → ((k from' : ℕ) → k + 1 ≤ length l → from' ≤ at + 1 + k → end + length (cuts k).waiting ≡ at + length l → Behind from' end (entries_of (go k)))
      → Behind from end (entries_of (placed_on v at l go))
  unfolding entries_of
  behind-on at l Skip go cuts from end e p b q ih = ih 0 from (omega arith) (omega arith) q
  behind-on at l Wait go cuts from end e p b q ih = omega arith
  behind-on at l (Take n) go cuts from end e p b q ih =
      let r = (take-room h l n e).0 in
      let m = length-take-le (4 + n) l r in
      (omega arith, ih (3 + n) (at + 3 + (length (take (4 + n) l) - 4) + 1) (omega (arith, r)) (omega (arith, m)) q)
  behind-on at l Tear go cuts from end e p b q ih = ih 0 from (omega arith) (omega arith) q

  behind-from : (at k : ℕ) (l : List ℕ) (from end : ℕ) → k ≤ length l → from ≤ at + k → end + length (cut_from h k l).waiting ≡ at + length l → Behind from end (entries_of (placed_from h at k l))
  unfolding placed_from cut_from entries_of
  behind-from at k [] from end w b q = omega arith
  behind-from at zero (x ∷ l) from end w b q =
      behind-on at (x ∷ l) (look h (x ∷ l)) (λ k. placed_from h (at + 1) k l) (λ k. cut_from h k l) from end refl (omega arith) (omega arith) q
      (λ k from' c d f. behind-from (at + 1) k l from' end (omega arith) d (omega (arith, f)))
  behind-from at (suc k) (x ∷ l) from end w b q = behind-from (at + 1) k l from end (omega arith) (omega arith) (omega (arith, q))

-- the entry of a frame that the reader takes at a place
names : (capture l : List ℕ) (at n : ℕ) → drop at capture ≡ l → 4 + n ≤ length l → Names capture (entry_of (record { at = at; frame = take (4 + n) l })) (take (4 + n) l)
names capture l at n e h =
    let f = take (4 + n) l in
    let m : length f ≡ 4 + n = length-take-le (4 + n) l h in
    let p : at + 3 - 3 ≡ at = omega arith in
    record {
      stands = rw (p, e, m) refl;
      head = refl;
      status = λ g k. rw (long-not (get_or f 1 0) g k) refl;
      no_status = λ w. rw (long-is (get_or f 1 0) w) refl;
      count = omega (arith, m);
    }

module _ (capture : List ℕ) where
  named-on : (at : ℕ) (l : List ℕ) (v : Look) (go : ℕ → List Placed) (cuts : ℕ → Cut) → look reader l ≡ v → drop at capture ≡ l
      → ((k : ℕ) → AllNamed capture (entries_of (go k)) (cuts k).pieces) → AllNamed capture (entries_of (placed_on v at l go)) (onward v l cuts).pieces
  unfolding entries_of
  named-on at l Skip go cuts e d ih = ih 0
  named-on at l Wait go cuts e d ih = tt
  named-on at l (Take n) go cuts e d ih = (names capture l at n d (take-room reader l n e).0, ih (3 + n))
  named-on at l Tear go cuts e d ih = ih 0

  named-from : (at k : ℕ) (l : List ℕ) → drop at capture ≡ l → AllNamed capture (entries_of (placed_from reader at k l)) (cut_from reader k l).pieces
  unfolding placed_from cut_from entries_of
  named-from at k [] d = tt
  named-from at zero (x ∷ l) d =
      named-on at (x ∷ l) (look reader (x ∷ l)) (λ k. placed_from reader (at + 1) k l) (λ k. cut_from reader k l) refl d
      (λ k. named-from (at + 1) k l (sym (drop-drop 1 at capture) ∙ ap (drop 1) d))
  named-from at (suc k) (x ∷ l) d = named-from (at + 1) k l (sym (drop-drop 1 at capture) ∙ ap (drop 1) d)

-- an entry stands for at least four bytes
four : (es : List Entry) → 4 * length es ≤ entry_sizes es
four [] = omega arith
four (e ∷ es) = omega (arith, four es)

-- ---- it ends properly

module _ (capture list : List ℕ) where
  decides : DecidesAll (read_causes capture list) (read_reasons capture list)
  decides = (below BadLength (λ e. omega arith) capture_most (length capture), (below NoRoom (λ e. omega arith) (length list / 4) (length capture / 4), tt))

  proper-end : EndsBy (read_reasons capture list) (read_refused list) (λ (z : ReadOutcome). z.answer.result) (read_call capture list)
  proper-end = rw (read_by capture list) (ends ReadOutcome (read_refused list) (after_read capture list) (λ (z : ReadOutcome). z.answer.result) (λ why. refl) (read_causes capture list) (read_reasons capture list) decides refl)

  pub read_done : NoReason (read_reasons capture list) → read_call capture list ≡ after_read capture list
  read_done n = read_by capture list ∙ none_left ReadOutcome (read_refused list) (after_read capture list) (read_causes capture list) (no-reason (read_causes capture list) (read_reasons capture list) decides n)

  abbrev es : List Entry
  es = read_entries capture

  add-up : (cut reader capture).skipped + entry_sizes es + length (cut reader capture).waiting ≡ length capture
  add-up = rw (sizes-from reader 0 0 capture) (conserved reader capture)

  module _ (n : NoReason (read_reasons capture list)) where
    fits : length (list_of es) ≤ length list
    fits = omega (arith, length-list es, four es, add-up, below-room n.1.0)
      where
        below-room : ¬ (length list / 4 < length capture / 4) → length capture / 4 ≤ length list / 4
        below-room h = omega (arith, h)

    read-properly : ReadProperly capture list (after_read capture list)
    read-properly = record {
      listed = entries-put es list;
      named = named-from capture 0 0 capture refl;
      skipped = refl;
      unread = refl;
      conserved = add-up;
      inside = behind-from reader 0 0 capture 0 (length capture - length (cut reader capture).waiting) (omega arith) (omega arith) (omega (arith, add-up));
      length_kept = length-put list 0 (list_of es) (omega (arith, fits));
      behind_kept = rw (put-zero list (list_of es), ← length-list es) (drop_at (list_of es) (drop (length (list_of es)) list) (length (list_of es)) refl);
    }

pub reader_ends : ReaderEnds
reader_ends = record {
  ends = proper-end;
  proper = λ capture list n. rw (read_done capture list n) (read-properly capture list n);
  some = λ capture list. (read_call capture list, record { answered = refl; puts = refl });
  equal = λ capture list x y a b. read-allowed-is (read_call capture list) x a ∙ sym (read-allowed-is (read_call capture list) y b);
}

-- ---- it reads as the page says

-- does the third byte decide
abbrev by_third : ℕ → Bool
by_third b = is_long b || eqb b 0x15

third-by-long : (b : ℕ) → (b ≡ 0x5F) ⊎ (b ≡ 0x6F) → by_third b ≡ true
third-by-long b w = rw (long-is b w) refl

third-by-15 : (b : ℕ) → b ≡ 0x15 → by_third b ≡ true
third-by-15 b e = rw e refl

third-not : (b : ℕ) → b ≢ 0x15 → b ≢ 0x5F → b ≢ 0x6F → by_third b ≡ false
third-not b m g h = rw (long-not b g h, ne_eqb b 0x15 m) refl

module _ (l : List ℕ) where
  abbrev b : ℕ
  b = second l

  lines : ReadLines l
  lines = record {
    other = λ n a. cut-skip reader l n (look-headless reader l (rw reader-is (size-other reader_head ends_in_85 l a)));
    headless = λ a n m w.
        cut-skip reader l (omega arith)
        (look-headless reader l (sym (read_none l 0 a n (third-not b m (λ e. ⊎_elim (λ h. omega arith) (λ h. omega arith) w) (λ e. ⊎_elim (λ h. omega arith) (λ h. omega arith) w)) (below-reply b w))));
    no_measuring = λ a n m c. cut-skip reader l (omega arith) (look-headless reader l (sym (read-third l 0 a (omega arith) n _ (third-other b m (third l) c))));
    alone = λ a n. cut-wait reader l (look-unsaid reader l (sym (read-alone l 0 a (omega arith))));
    no_third = λ a n w. cut-wait reader l (look-unsaid reader l (sym (read-unsaid l 0 a (omega arith) (⊎_elim (third-by-15 b) (third-by-long b) w) (omega arith))));
    short = λ a n g h c d. sym (read-reply l 0 a n (third-not b (λ e. omega arith) c d) (among-reply b g h));
    long = λ a n w. sym (read-third l 0 a (omega arith) n _ (third-long b (third-by-long b w) (λ e. ⊎_elim (λ f. omega arith) (λ f. omega arith) w) (third l)));
    measuring = λ a n m c. sym (read-third l 0 a (omega arith) n _ (third-measuring b m (third l) c));
    unfinished = λ n e h. cut-wait reader l (look-unfinished reader l n e h);
    frame = λ n e h t. cut-take reader n l (read-frame l 0 n e (omega arith) t);
    broken = λ n e h t. cut-tear reader l (read-torn l 0 n e (omega arith) t);
    over = cut-over reader l;
  }

rows-read : RowsRead read_rows
unfolding read_call
rows-read = ((refl, refl), ((refl, refl), ((refl, refl), ((refl, refl), ((refl, refl), ((refl, refl), ((refl, refl), tt)))))))

pub reads-as-listed : ReadsAsListed
reads-as-listed = record { lines = lines; rows = rows-read }
