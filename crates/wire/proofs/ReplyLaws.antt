-- Replies: their length, how they stand one behind the other, and how one is stored.
use Prim.Native.Nat.{ℕ, ◌+◌, ◌*◌, ◌/◌, ◌≤◌}
use mathlib.Core.Path.{◌≡◌, refl, sym, ap, ◌∙◌}
use mathlib.Core.Bool.{true, and-eq-true_iff}
use mathlib.Core.List.{List, [], ◌∷◌, ◌++◌, append_assoc, append-nil}
use native.Mathlib.Omega.{arith}
use lib.ListN.{length, set, length-append, length-set}
use lib.Dec.{leb}
use borrow.Author.Tests.{leb-true}
use Rattle.wire.specs.Sizes.{data_most, frame_most}
use Rattle.wire.specs.Numbers.{put}
use Rattle.wire.specs.Serial.{is_head}
use Rattle.wire.specs.Replies.{Reply, kind_of, reply_bytes, around, replies_bytes}
use Rattle.wire.proofs.PutLaws.{put-nil, put_byte, put-put, put_three, put-behind}

pub length-reply : (a : Reply) → length (reply_bytes a) ≡ 4 + length a.body
unfolding reply_bytes
length-reply a = simp length-append (omega arith)

-- a reply is 4 to `frame_most` bytes long
pub reply-bounds : (a : Reply) → length a.body ≤ data_most → (4 ≤ length (reply_bytes a)) × (length (reply_bytes a) ≤ frame_most)
reply-bounds a h = rw (length-reply a) (omega arith, omega arith)

pub length_none : length (replies_bytes []) ≡ 0
unfolding replies_bytes
length_none = refl

pub length-cons : (a : Reply) (said : List Reply) → length (replies_bytes (a ∷ said)) ≡ length (reply_bytes a) + length (replies_bytes said)
unfolding replies_bytes
length-cons a said = length-append (reply_bytes a) (replies_bytes said)

pub written-append : (said more : List Reply) → replies_bytes (said ++ more) ≡ replies_bytes said ++ replies_bytes more
unfolding replies_bytes
written-append [] more = refl
written-append (a ∷ said) more = ap (λ (x : List ℕ). reply_bytes a ++ x) (written-append said more) ∙ sym (append_assoc (reply_bytes a) (replies_bytes said) (replies_bytes more))

pub written_one : (a : Reply) → replies_bytes (a ∷ []) ≡ reply_bytes a
unfolding replies_bytes
written_one a = append-nil (reply_bytes a)

-- ---- one reply stored around its data

-- the head byte of a reply does not go below 0
pub kind-room : (head : ℕ) → is_head head ≡ true → 4 ≤ head / 16
kind-room head e = omega (arith, leb-true 0x90 head ((and-eq-true_iff (leb 0x90 head) (leb head 0xAF)).0 e).0)

-- d stands at at + 3 of b, which else is before
pub closed-reply : (before : List ℕ) (at head status n : ℕ) (d b : List ℕ) → length d ≡ n → at + 4 + n ≤ length before → b ≡ put before (at + 3) d
    → around b at head status n ≡ put before at (reply_bytes (record { kind = kind_of head; status = status; body = d }))
unfolding reply_bytes
closed-reply before at head status n d b e h q =
    let size = kind_of head * 16 + n in
    let front : List ℕ = 0xAA ∷ size ∷ status ∷ [] in
    let one : List ℕ = set before at 0xAA in
    let two : List ℕ = set one (at + 1) size in
    let one-long : length one ≡ length before = length-set before at 0xAA in
    let two-long : length two ≡ length before = length-set one (at + 1) size ∙ one-long in
    let place : at + length (front ++ d) ≡ at + 3 + n = omega arith in
    rw (q, e) (
    ap (λ (l : List ℕ). set (set (set l (at + 1) size) (at + 2) status) (at + 3 + n) 0x85) (put-behind before (at + 3) d at 0xAA (omega arith) (omega arith))
    ∙ ap (λ (l : List ℕ). set (set l (at + 2) status) (at + 3 + n) 0x85) (put-behind one (at + 3) d (at + 1) size (omega arith) (omega arith))
    ∙ ap (λ (l : List ℕ). set l (at + 3 + n) 0x85) (put-behind two (at + 3) d (at + 2) status (omega arith) (omega arith) ∙ ap (λ (l : List ℕ). put l (at + 3) d) (put_three before at 0xAA size status (omega arith)) ∙ put-put before at front d (omega arith))
    ∙ ap (λ (i : ℕ). set (put before at (front ++ d)) i 0x85) (sym place)
    ∙ put_byte before at (front ++ d) 0x85 (omega arith))

-- a reply without data
pub closed-empty : (before : List ℕ) (at head status : ℕ) → at + 4 ≤ length before
    → around before at head status 0 ≡ put before at (reply_bytes (record { kind = kind_of head; status = status; body = [] }))
closed-empty before at head status h = closed-reply before at head status 0 [] before refl (omega arith) (sym (put-nil before (at + 3)))
