-- Each turn of a reading, and its end.
use Prim.Native.Nat.{ℕ, ◌+◌, ◌-◌, ◌*◌, ◌/◌, ◌≤◌, ◌<◌}
use mathlib.Core.Path.{◌≡◌, refl, sym, ap, subst, ◌∙◌}
use mathlib.Core.Logic.{◌⊎◌, ⊎_elim, ◌≢◌}
use mathlib.Core.List.{List, [], ◌∷◌, ◌++◌, append_assoc, append-nil}
use native.Mathlib.Nat.{zero-add, add-zero, add_assoc}
use native.Mathlib.Omega.{arith}
use lib.ListN.{length, get_or, take, drop, length-append, length-drop, drop_of_length-le}
use lib.Seq.{drop-drop}
use Rattle.wire.specs.Numbers.{put}
use Rattle.wire.specs.declared.Size.TheVariants.{NoHead, Of}
use Rattle.wire.specs.Serial.{Noise}
use Rattle.wire.specs.Frames.{Skip, Wait, Take, Tear, look, Cut, stop, cut, placed_from, Passed}
use Rattle.wire.specs.Reader.{Entry, reader, entry_of, entries_of, entry_numbers, list_of}
use Rattle.wire.proofs.CutLaws.{look-headless, take-room, tear-room, cut-nil, cut-wait, cut-take, cut-tear}
use Rattle.wire.proofs.Stretches.{stretch-none, stretch-one, passed-cuts}
use Rattle.wire.proofs.ReaderLaws.{head-no-aa, read-torn, read-frame, read-noise}
use Rattle.wire.proofs.PlacedLaws.{placed-nil, placed-wait, placed-tear, placed-take, placed-pass}
use Rattle.wire.proofs.EntryLaws.{entries-cons, entries_none, list-one, length-list}
use Rattle.wire.proofs.PutLaws.{put-nil, put-put, length-put}
use Rattle.call.specs.Read.{read_entries}
use Rattle.reader.specs.Progress.{Reads, ReadsAll}

module _ (l before : List ℕ) where
  pub reads-start : Reads l before 0 0 0 before
  unfolding list_of
  reads-start = record {
    es = [];
    many = refl;
    within = omega arith;
    few = omega arith;
    fours = omega arith;
    places = refl;
    skips = sym (zero-add (cut reader l).skipped);
    waits = refl;
    writes = sym (put-nil before 0);
  }

  module _ (at entries framed : ℕ) (list : List ℕ) (r : Reads l before at entries framed list) where
    -- an entry takes four numbers, and its frame at least four bytes
    module _ (room : length l / 4 ≤ length before / 4) where
      written : length (list_of r.es) ≡ 4 * entries
      written = length-list r.es ∙ ap (λ (k : ℕ). 4 * k) r.many

      pub reads-long : length list ≡ length before
      reads-long = ap length r.writes ∙ length-put before 0 (list_of r.es) (omega (arith, written, r.fours, r.few, r.within))

      module _ (n : ℕ) (e : look reader (drop at l) ≡ Take n) where
        pub reads-room : 4 * entries + 4 ≤ length list
        reads-room = omega (arith, reads-long, r.fours, r.few, (take-room reader (drop at l) n e).0, length-drop at l, room)

        abbrev entry : Entry
        entry = entry_of (record { at = at; frame = take (4 + n) (drop at l) })

        cut-here : cut reader (drop at l) ≡ record { pieces = (cut reader (drop at l)).pieces; skipped = (cut reader (drop (at + 4 + n) l)).skipped; waiting = (cut reader (drop (at + 4 + n) l)).waiting }
        cut-here =
            let d : drop (4 + n) (drop at l) ≡ drop (at + 4 + n) l = drop-drop (4 + n) at l ∙ rw (add_assoc at 4 n) refl in
            rw (cut-take reader n (drop at l) e, d) refl

        pub reads-take : (list' : List ℕ) → list' ≡ put list (4 * entries) (entry_numbers entry) → Reads l before (at + 4 + n) (entries + 1) (framed + 4 + n) list'
        reads-take list' w =
            let d : drop (4 + n) (drop at l) ≡ drop (at + 4 + n) l = drop-drop (4 + n) at l ∙ rw (add_assoc at 4 n) refl in
            let one : placed_from reader at 0 (drop at l) ≡ record { at = at; frame = take (4 + n) (drop at l) } ∷ placed_from reader (at + 4 + n) 0 (drop (at + 4 + n) l) = placed-take reader at n (drop at l) e ∙ rw d refl in
            let size : 4 * entries ≡ 0 + length (list_of r.es) = omega (arith, written) in
            record {
              es = r.es ++ entry ∷ [];
              many = length-append r.es (entry ∷ []) ∙ omega (arith, r.many);
              within = omega (arith, (take-room reader (drop at l) n e).0, length-drop at l);
              few = omega (arith, r.few);
              fours = omega (arith, r.fours);
              places = r.places ∙ rw (one, entries-cons) (sym (append_assoc r.es (entry ∷ []) (entries_of (placed_from reader (at + 4 + n) 0 (drop (at + 4 + n) l)))));
              skips = r.skips ∙ ap (λ (c : Cut). at - framed + c.skipped) cut-here ∙ ap (λ (k : ℕ). k + (cut reader (drop (at + 4 + n) l)).skipped) (omega arith);
              waits = r.waits ∙ ap (λ (c : Cut). c.waiting) cut-here;
              writes = w ∙ rw (r.writes, size, put-put before 0 (list_of r.es) (entry_numbers entry) (omega (arith, written, r.fours, r.few, r.within, room)), ← list-one r.es entry) refl;
            }

    pub reads-pass : (to : ℕ) → Passed reader l at to → Reads l before to entries framed list
    reads-pass to p = record {
      es = r.es;
      many = r.many;
      within = p.inside;
      few = omega (arith, r.few, p.after);
      fours = r.fours;
      places = r.places ∙ rw (placed-pass reader l at to p) refl;
      skips = r.skips ∙ rw (passed-cuts reader l at to p) (omega (arith, r.few, p.after));
      waits = r.waits ∙ rw (passed-cuts reader l at to p) refl;
      writes = r.writes;
    }

    reads-tear : look reader (drop at l) ≡ Tear → Reads l before (at + 1) entries framed list
    reads-tear e = record {
      es = r.es;
      many = r.many;
      within = omega (arith, tear-room reader (drop at l) e, length-drop at l);
      few = omega (arith, r.few);
      fours = r.fours;
      places = r.places ∙ rw (placed-tear reader at (drop at l) e, drop-drop 1 at l) refl;
      skips = r.skips ∙ rw (cut-tear reader (drop at l) e, drop-drop 1 at l) (omega (arith, r.few));
      waits = r.waits ∙ rw (cut-tear reader (drop at l) e, drop-drop 1 at l) refl;
      writes = r.writes;
    }

    -- an AA that is skipped
    pub reads-skip : at < length l → reader.size (drop at l) ≡ NoHead → Reads l before (at + 1) entries framed list
    reads-skip h e =
        reads-pass (at + 1) (stretch-one l (λ i. look reader (drop i l) ≡ Skip) at at (stretch-none l (λ i. look reader (drop i l) ≡ Skip) at (omega arith)) h (look-headless reader (drop at l) e))

    -- at the end of the capture, and at what waits, nothing is left to do
    module _ (stops : (length l ≤ at) ⊎ (look reader (drop at l) ≡ Wait)) where
      halts : (cut reader (drop at l) ≡ stop (drop at l)) × (placed_from reader at 0 (drop at l) ≡ [])
      halts =
          ⊎_elim
          (λ p. let e : drop at l ≡ [] = drop_of_length-le l p in (rw e (cut-nil reader), rw e (placed-nil reader at)))
          (λ e. (cut-wait reader (drop at l) e, placed-wait reader at (drop at l) e))
          stops

      all_read : read_entries l ≡ r.es
      all_read = r.places ∙ rw (halts.1, entries_none) (append-nil r.es)

      pub reads_end : ReadsAll l before (record { entries = entries; skipped = at - framed; unread = length l - at }) list
      reads_end = record {
        entries_are = sym (ap length all_read ∙ r.many);
        skipped_is = sym (r.skips ∙ rw halts.0 (add-zero (at - framed)));
        unread_is = sym (ap length (r.waits ∙ ap (λ (c : Cut). c.waiting) halts.0) ∙ length-drop at l);
        writes = r.writes ∙ rw all_read refl;
        fits = (omega (arith, r.fours, r.few, r.within), omega (arith, r.within), omega arith);
      }

-- a candidate whose last byte is not 85: its AA is skipped, and then its head
pub reads-torn : (l before : List ℕ) (at entries framed : ℕ) (list : List ℕ) → Reads l before at entries framed list → get_or l at 0 ≡ 0xAA → (n : ℕ) → reader.size (drop at l) ≡ Of n
    → at + 3 + n < length l → (get_or l (at + 3 + n) 0 ≡ 0x85 → ⊥) → Reads l before (at + 2) entries framed list
reads-torn l before at entries framed list r aa n e h t =
    let one = reads-tear l before at entries framed list r (read-torn l at n e h t) in
    let m : at + 2 ≡ at + 1 + 1 = omega arith in
    let quiet : Noise l (at + 1) (at + 1 + 1) = stretch-one l (λ i. get_or l i 0 ≢ 0xAA) (at + 1) (at + 1) (stretch-none l (λ i. get_or l i 0 ≢ 0xAA) (at + 1) (omega arith)) (omega arith) (head-no-aa l at aa (omega arith) n e) in
    subst (λ (to : ℕ). Reads l before to entries framed list) (sym m) (reads-pass l before (at + 1) entries framed list one (at + 1 + 1) (read-noise l (at + 1) (at + 1 + 1) quiet))

-- a frame, up to the place behind its last byte
pub reads-frame : (l before : List ℕ) (at entries framed : ℕ) (list : List ℕ) → Reads l before at entries framed list → length l / 4 ≤ length before / 4 → (n : ℕ) → reader.size (drop at l) ≡ Of n
    → at + 3 + n < length l → get_or l (at + 3 + n) 0 ≡ 0x85 → (list' : List ℕ) → list' ≡ put list (4 * entries) (entry_numbers (entry_of (record { at = at; frame = take (4 + n) (drop at l) })))
    → Reads l before (at + 3 + n + 1) (entries + 1) (framed + 4 + n) list'
reads-frame l before at entries framed list r room n e h t list' w =
    let m : at + 4 + n ≡ at + 3 + n + 1 = omega arith in
    subst (λ (to : ℕ). Reads l before to (entries + 1) (framed + 4 + n) list') m (reads-take l before at entries framed list r room n (read-frame l at n e h t) list' w)
