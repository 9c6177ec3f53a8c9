-- The reader: it ends properly on all captures, and reads as the page says. Demand 3 is not touched: it has no record, so that nothing it leaves can depend on a code.
use Rattle.std.specs.Prelude.{ℕ, ◌+◌, ◌-◌, ◌*◌, ◌/◌, ◌%◌, ◌≤◌, ◌<◌, ◌≡◌, ◌⊎◌, ◌≢◌, List, [], ◌∷◌, length, get_or, take, drop, replicate}
use Rattle.wire.specs.declared.Size.TheVariants.{Of}
use Rattle.wire.specs.Frames.{Piece, Whole, Broken, stop, skip_one, take_one, tear_one, cut}
use Rattle.wire.specs.Reader.{reader, Entry, entries_in}
use Rattle.call.specs.declared.CallRefusal.TheVariants.{BadLength, NoRoom}
use Rattle.call.specs.Reasons.{Reason, reason, NoReason, EndsBy}
use Rattle.call.specs.Read.{ReadOutcome, read_refused, read_entries, read_call, ReadAllows}

-- ---- every call ends properly

-- "capture over 4,096 bytes gives 2, then a list of fewer entries than the whole part of its bytes / 4 gives 3"
abbrev pub read_reasons : List ℕ → List ℕ → List Reason
read_reasons capture list = reason (4096 < length capture) BadLength ∷ reason (length list / 4 < length capture / 4) NoRoom ∷ []

-- the bytes of the frames that entries are of
abbrev pub entry_sizes : List Entry → ℕ
entry_sizes [] = 0
entry_sizes (e ∷ es) = 4 + e.count + entry_sizes es

-- entries one behind the other: each frame begins, with its AA, where the one before it ends or later, and the last ends inside
abbrev pub Behind : ℕ → ℕ → List Entry → Type 0
Behind from end [] = from ≤ end
Behind from end (e ∷ es) = (from + 3 ≤ e.place) × Behind (e.place + e.count + 1) end es

-- an entry is that of a frame f, which stands in the capture three places before its data; a long reply tells no status
pub record Names (capture : List ℕ) (e : Entry) (f : List ℕ) : Type 0 where
  pub stands : take (length f) (drop (e.place - 3) capture) ≡ f
  pub head : e.head ≡ get_or f 1 0
  pub status : get_or f 1 0 ≢ 0x5F → get_or f 1 0 ≢ 0x6F → e.status ≡ get_or f 2 0
  pub no_status : (get_or f 1 0 ≡ 0x5F) ⊎ (get_or f 1 0 ≡ 0x6F) → e.status ≡ 0
  pub count : 4 + e.count ≡ length f

-- one entry for each whole frame of a cut, in order
abbrev pub AllNamed : List ℕ → List Entry → List Piece → Type 0
AllNamed capture [] [] = Unit {0}
AllNamed capture (e ∷ es) [] = ⊥
AllNamed capture es (Broken head ∷ pieces) = AllNamed capture es pieces
AllNamed capture [] (Whole f ∷ pieces) = ⊥
AllNamed capture (e ∷ es) (Whole f ∷ pieces) = Names capture e f × AllNamed capture es pieces

-- what is left of a capture and a list when nothing is wrong
pub record ReadProperly (capture list : List ℕ) (z : ReadOutcome) : Type 0 where
  -- the numbers at the start of the list are the entries
  pub listed : entries_in z.answer.entries z.list ≡ read_entries capture
  -- there is one for each frame of the capture, in order
  pub named : AllNamed capture (read_entries capture) (cut reader capture).pieces
  -- the counts are those of the cut,
  pub skipped : z.answer.skipped ≡ (cut reader capture).skipped
  pub unread : z.answer.unread ≡ length (cut reader capture).waiting
  -- and skipped bytes, the frames of entries and unread bytes add up to the capture
  pub conserved : z.answer.skipped + entry_sizes (read_entries capture) + z.answer.unread ≡ length capture
  -- entries point inside the capture, one behind the other, before what is unread
  pub inside : Behind 0 (length capture - z.answer.unread) (read_entries capture)
  -- the list is as long as it was, and behind the entries it keeps what stands there
  pub length_kept : length z.list ≡ length list
  pub behind_kept : drop (4 * z.answer.entries) z.list ≡ drop (4 * z.answer.entries) list

pub record ReaderEnds : Type 0 where
  -- The first reason that applies gives its number, zero counts, and the list as it was; the result is 0 exactly when none applies.
  pub ends : (capture list : List ℕ) → EndsBy (read_reasons capture list) (read_refused list) (λ (z : ReadOutcome). z.answer.result) (read_call capture list)
  pub proper : (capture list : List ℕ) → NoReason (read_reasons capture list) → ReadProperly capture list (read_call capture list)
  -- The contract allows an outcome, and any two that it allows are equal.
  pub some : (capture list : List ℕ) → (x : ReadOutcome) × ReadAllows (read_call capture list) x
  pub equal : (capture list : List ℕ) (x y : ReadOutcome) → ReadAllows (read_call capture list) x → ReadAllows (read_call capture list) y → x ≡ y

-- ---- a capture l, from the left

module _ (l : List ℕ) where
  abbrev pub second : ℕ
  second = get_or l 1 0

  abbrev pub third : ℕ
  third = get_or l 2 0

  pub record ReadLines : Type 0 where
    -- "Bytes that are no frame are skipped one at a time as in the board's hunt": a byte other than AA,
    pub other : 0 < length l → get_or l 0 0 ≢ 0xAA → cut reader l ≡ skip_one (cut reader (drop 1 l))
    -- an AA before any other byte than 15, 5n and 6n,
    pub headless : get_or l 0 0 ≡ 0xAA → 1 < length l → second ≢ 0x15 → (second < 0x50) ⊎ (0x6F < second) → cut reader l ≡ skip_one (cut reader (drop 1 l))
    -- an AA 15 before any other byte than B0.
    pub no_measuring : get_or l 0 0 ≡ 0xAA → 2 < length l → second ≡ 0x15 → third ≢ 0xB0 → cut reader l ≡ skip_one (cut reader (drop 1 l))
    -- "What the hunt would leave waiting at the end (also AA 15, 5F or 6F without a third byte) is left unread"
    pub alone : get_or l 0 0 ≡ 0xAA → length l ≡ 1 → cut reader l ≡ stop l
    pub no_third : get_or l 0 0 ≡ 0xAA → length l ≡ 2 → (second ≡ 0x15) ⊎ ((second ≡ 0x5F) ⊎ (second ≡ 0x6F)) → cut reader l ≡ stop l
    -- The data that are announced: n by 5n and 6n, the third byte plus 15 by 5F and 6F, 24 by 15 B0.
    pub short : get_or l 0 0 ≡ 0xAA → 1 < length l → 0x50 ≤ second → second ≤ 0x6F → second ≢ 0x5F → second ≢ 0x6F → reader.size l ≡ Of (second % 16)
    pub long : get_or l 0 0 ≡ 0xAA → 2 < length l → (second ≡ 0x5F) ⊎ (second ≡ 0x6F) → reader.size l ≡ Of (third + 15)
    pub measuring : get_or l 0 0 ≡ 0xAA → 2 < length l → second ≡ 0x15 → third ≡ 0xB0 → reader.size l ≡ Of 24
    -- With fewer bytes than that and four present, they wait; with all present and 85 at the end they are a frame; else the AA alone is skipped.
    pub unfinished : (n : ℕ) → reader.size l ≡ Of n → length l < 4 + n → cut reader l ≡ stop l
    pub frame : (n : ℕ) → reader.size l ≡ Of n → 4 + n ≤ length l → get_or l (3 + n) 0 ≡ 0x85 → cut reader l ≡ take_one (take (4 + n) l) (cut reader (drop (4 + n) l))
    pub broken : (n : ℕ) → reader.size l ≡ Of n → 4 + n ≤ length l → get_or l (3 + n) 0 ≢ 0x85 → cut reader l ≡ tear_one second (cut reader (drop 1 l))
    -- Behind the last byte nothing is skipped and nothing waits.
    pub over : length l ≡ 0 → cut reader l ≡ stop []

-- ---- worked captures, as one table

pub record ReadRow : Type 0 where
  pub capture : List ℕ
  pub numbers : List ℕ
  pub skipped : ℕ
  pub unread : ℕ

abbrev pub row : List ℕ → List ℕ → ℕ → ℕ → ReadRow
row capture numbers skipped unread = record { capture = capture; numbers = numbers; skipped = skipped; unread = unread }

abbrev pub read_rows : List ReadRow
read_rows =
    -- the reply to E0, a refusal, a byte of noise between them
    row (0xAA ∷ 0x62 ∷ 0x00 ∷ 0x00 ∷ 0x14 ∷ 0x85 ∷ 0x85 ∷ 0xAA ∷ 0x50 ∷ 0x62 ∷ 0x85 ∷ []) (0x62 ∷ 0x00 ∷ 3 ∷ 2 ∷ 0x50 ∷ 0x62 ∷ 10 ∷ 0 ∷ []) 1 0
    -- a reply inside a broken one; what is left of a measuring frame
    ∷ row (0xAA ∷ 0x54 ∷ 0xAA ∷ 0x50 ∷ 0x00 ∷ 0x85 ∷ 0x01 ∷ 0x02 ∷ 0xAA ∷ 0x15 ∷ []) (0x50 ∷ 0x00 ∷ 5 ∷ 0 ∷ []) 4 2
    -- a name of 15 bytes: the third byte is no status, and adds nothing to 15
    ∷ row (0xAA ∷ 0x6F ∷ 0x00 ∷ 0x66 ∷ 0x69 ∷ 0x66 ∷ 0x74 ∷ 0x65 ∷ 0x65 ∷ 0x6E ∷ 0x20 ∷ 0x6C ∷ 0x65 ∷ 0x74 ∷ 0x74 ∷ 0x65 ∷ 0x72 ∷ 0x73 ∷ 0x85 ∷ []) (0x6F ∷ 0 ∷ 3 ∷ 15 ∷ []) 0 0
    -- the same with third byte 1 waits for a sixteenth
    ∷ row (0xAA ∷ 0x6F ∷ 0x01 ∷ 0x66 ∷ 0x69 ∷ 0x66 ∷ 0x74 ∷ 0x65 ∷ 0x65 ∷ 0x6E ∷ 0x20 ∷ 0x6C ∷ 0x65 ∷ 0x74 ∷ 0x74 ∷ 0x65 ∷ 0x72 ∷ 0x73 ∷ 0x85 ∷ []) [] 0 19
    -- one of 16 bytes: the third byte is told as no status
    ∷ row (0xAA ∷ 0x5F ∷ 0x01 ∷ 0x30 ∷ 0x31 ∷ 0x32 ∷ 0x33 ∷ 0x34 ∷ 0x35 ∷ 0x36 ∷ 0x37 ∷ 0x38 ∷ 0x39 ∷ 0x3A ∷ 0x3B ∷ 0x3C ∷ 0x3D ∷ 0x3E ∷ 0x3F ∷ 0x85 ∷ []) (0x5F ∷ 0 ∷ 3 ∷ 16 ∷ []) 0 0
    -- heads beside 5n and 6n are none; AA 5F waits for its third byte
    ∷ row (0xAA ∷ 0x4F ∷ 0x00 ∷ 0x85 ∷ 0xAA ∷ 0x70 ∷ 0x00 ∷ 0x85 ∷ 0xAA ∷ 0x5F ∷ []) [] 8 2
    -- a command of the fitter is no frame here; AA 15 with another status is skipped at once
    ∷ row (0xAA ∷ 0x90 ∷ 0x23 ∷ 0x85 ∷ 0xAA ∷ 0x15 ∷ 0xB1 ∷ []) [] 7 0
    ∷ []

-- each capture is read into a list of just the room that is asked for, as its row says
abbrev pub RowsRead : List ReadRow → Type 0
RowsRead [] = Unit {0}
RowsRead (r ∷ rs) =
    (
    ((read_call r.capture (replicate (4 * (length r.capture / 4)) 0)).answer ≡ record { result = 0; entries = length r.numbers / 4; skipped = r.skipped; unread = r.unread })
    × (take (length r.numbers) (read_call r.capture (replicate (4 * (length r.capture / 4)) 0)).list ≡ r.numbers)
    )
    × RowsRead rs

pub record ReadsAsListed : Type 0 where
  pub lines : (l : List ℕ) → ReadLines l
  pub rows : RowsRead read_rows
