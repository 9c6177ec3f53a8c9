-- Entries, and their numbers one behind the other.
use Prim.Native.Nat.{ℕ, ◌+◌, ◌-◌, ◌*◌, ◌≤◌, ◌<◌}
use mathlib.Core.Path.{◌≡◌, refl, sym, ap, ◌∙◌}
use mathlib.Core.List.{List, [], ◌∷◌, ◌++◌, append_assoc}
use native.Mathlib.Omega.{arith}
use lib.ListN.{length, get_or, take, drop, set, length-append, length-drop}
use lib.Seq.{get_or-take, get_or-drop, length-take-le}
use Rattle.wire.specs.Numbers.{put}
use Rattle.wire.specs.Frames.{Placed}
use Rattle.wire.specs.Reader.{Entry, status_told, entry_of, entries_of, entry_numbers, list_of, entries_in}
use Rattle.wire.proofs.PutLaws.{put-zero, put_four}

pub entries_none : entries_of [] ≡ []
unfolding entries_of
entries_none = refl

pub entries-cons : (p : Placed) (ps : List Placed) → entries_of (p ∷ ps) ≡ entry_of p ∷ entries_of ps
unfolding entries_of
entries-cons p ps = refl

pub list-append : (es fs : List Entry) → list_of (es ++ fs) ≡ list_of es ++ list_of fs
unfolding list_of
list-append [] fs = refl
list-append (e ∷ es) fs = ap (λ (l : List ℕ). entry_numbers e ++ l) (list-append es fs) ∙ sym (append_assoc (entry_numbers e) (list_of es) (list_of fs))

pub list-one : (es : List Entry) (e : Entry) → list_of (es ++ e ∷ []) ≡ list_of es ++ entry_numbers e
unfolding list_of
list-one es e = list-append es (e ∷ [])

pub length-list : (es : List Entry) → length (list_of es) ≡ 4 * length es
unfolding list_of
length-list [] = refl
length-list (e ∷ es) = omega (arith, length-append (entry_numbers e) (list_of es), length-list es)

-- the entries that were put into a list stand at its start
entries-back : (es : List Entry) (more : List ℕ) → entries_in (length es) (list_of es ++ more) ≡ es
unfolding list_of entries_in
entries-back [] more = refl
entries-back (e ∷ es) more = ap (λ (x : List Entry). e ∷ x) (entries-back es more)

pub entries-put : (es : List Entry) (list : List ℕ) → entries_in (length es) (put list 0 (list_of es)) ≡ es
entries-put es list = rw (put-zero list (list_of es)) (entries-back es (drop (length (list_of es)) list))

-- ---- the entry of a frame that stands at a place of a capture

module _ (s : List ℕ) (at n : ℕ) (whole : at + 4 + n ≤ length s) where
  abbrev found : Placed
  found = record { at = at; frame = take (4 + n) (drop at s) }

  byte : (i : ℕ) → i < 4 + n → get_or found.frame i 0 ≡ get_or s (at + i) 0
  byte i h = get_or-take (4 + n) (drop at s) i 0 h ∙ get_or-drop at s i 0

  long : length found.frame ≡ 4 + n
  long = length-take-le (4 + n) (drop at s) (rw (length-drop at s) (omega arith))

  entry-is : entry_of found ≡ record { head = get_or s (at + 1) 0; status = status_told (get_or s (at + 1) 0) (get_or s (at + 2) 0); place = at + 3; count = n }
  entry-is =
      let m : length found.frame - 4 ≡ n = omega (arith, long) in
      rw (byte 1 (omega arith), byte 2 (omega arith), m) refl

  -- stored in a list
  pub entry-put : (list : List ℕ) (k status : ℕ) → 4 * k + 4 ≤ length list → status ≡ status_told (get_or s (at + 1) 0) (get_or s (at + 2) 0)
      → set (set (set (set list (4 * k) (get_or s (at + 1) 0)) (4 * k + 1) status) (4 * k + 2) (at + 3)) (4 * k + 3) n ≡ put list (4 * k) (entry_numbers (entry_of (record { at = at; frame = take (4 + n) (drop at s) })))
  entry-put list k status room e =
      put_four list (4 * k) (get_or s (at + 1) 0) status (at + 3) n room
      ∙ ap (λ (t : ℕ). put list (4 * k) (get_or s (at + 1) 0 ∷ t ∷ (at + 3) ∷ n ∷ [])) e
      ∙ ap (λ (x : Entry). put list (4 * k) (entry_numbers x)) (sym entry-is)
