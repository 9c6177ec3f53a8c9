-- What the board says, and its bytes.
use Rattle.std.specs.Prelude.{ℕ, ◌+◌, ◌-◌, ◌*◌, ◌/◌, List, [], ◌∷◌, ◌++◌, length, set}

-- a reply: its kind (5 to an amplifier command, 6 to a BT121 command), its status, its data
pub record Reply : Type 0 where
  pub kind : ℕ
  pub status : ℕ
  pub body : List ℕ

-- "5n or 6n (amplifier or BT121)": 5n answers 9n, 6n answers An
abbrev pub kind_of : ℕ → ℕ
kind_of head = head / 16 - 4

-- "Replies: AA, 5n or 6n (amplifier or BT121), status, n bytes, 85."
unfoldable pub reply_bytes : Reply → List ℕ
reply_bytes a = 0xAA ∷ (a.kind * 16 + length a.body) ∷ a.status ∷ (a.body ++ 0x85 ∷ [])

-- a buffer with the first three bytes and the last of a reply stored around n data bytes, which stand at at + 3
abbrev pub around : List ℕ → ℕ → ℕ → ℕ → ℕ → List ℕ
around b at head status n = set (set (set (set b at 0xAA) (at + 1) (kind_of head * 16 + n)) (at + 2) status) (at + 3 + n) 0x85

-- replies one behind the other
unfoldable pub replies_bytes : List Reply → List ℕ
unfolding reply_bytes
replies_bytes [] = []
replies_bytes (a ∷ said) = reply_bytes a ++ replies_bytes said
