-- What the bytes call does that each of the wrong boards does not, and such boards.
use Prim.Native.Nat.{ℕ, ◌+◌}
use mathlib.Core.Path.{◌≡◌, refl, sym, ap, subst, fun_ext, ◌∙◌}
use mathlib.Core.List.{List, [], ◌∷◌, ◌++◌}
use native.Mathlib.Omega.{arith}
use lib.ListN.{length, get_or, replicate}
use Rattle.wire.specs.Numbers.{put}
use Rattle.wire.specs.Frames.{Piece, Whole, Broken, Cut, cut_from, cut}
use Rattle.wire.specs.Serial.{serial}
use Rattle.wire.proofs.CutLaws.{packets}
use Rattle.wire.proofs.SerialLaws.{serial-steady}
use Rattle.record.specs.Record.{Settings}
use Rattle.record.specs.Layout.{at_flags, bytes_of, record_of}
use Rattle.record.specs.Births.{factory}
use Rattle.call.specs.Outcome.{Outcome}
use Rattle.call.proofs.InOrder.{allowed-is}
use Rattle.call.specs.Calls.{bytes_call}
use Rattle.demands.specs.CallList.{BytesIn}
use Rattle.demands.specs.Examples.{open_frame}
use Rattle.demands.specs.Boards.{Board, OneFrame, RefusesAll, SaysDone, DoesNothing, Starts, FirstOnly, InventsCount, ShutOut, WrongShutOut, KindsExist}
use Rattle.demands.proofs.EndsProperly.{ends-properly}
use Rattle.demands.proofs.AsListed.{answers-as-listed}

-- 23 stops sending; E3 with 0 sets the power
abbrev stop : List ℕ
stop = 0xAA ∷ 0x90 ∷ 0x23 ∷ 0x85 ∷ []

abbrev weaken : List ℕ
weaken = 0xAA ∷ 0xA2 ∷ 0xE3 ∷ 0x00 ∷ 0x00 ∷ 0x85 ∷ []

abbrev room : List ℕ
room = replicate 38 0xFF

-- sending is stopped
no-refuser : ¬ RefusesAll bytes_call
unfolding bytes_call factory bytes_of record_of cut_from serial
no-refuser h = h (bytes_of factory) stop room refl refl refl refl

-- the answer to E0 has data
no-sayer : ¬ SaysDone bytes_call
unfolding bytes_call factory bytes_of record_of cut_from serial
no-sayer h = let z : ◌≡◌ {A = ℕ} 6 4 = ap length (h (bytes_of factory) open_frame room refl refl refl) in omega arith

-- power 12 becomes 0
no-idler : ¬ DoesNothing bytes_call
unfolding bytes_call factory bytes_of record_of
no-idler h = let z : ◌≡◌ {A = ℕ} 0 12 = ap (λ (g : Settings). g.power) (h (bytes_of factory) (open_frame ++ weaken) room) in omega arith

-- after 23 the board is opened
no-starter : ¬ FirstOnly bytes_call
unfolding bytes_call factory bytes_of record_of cut_from serial
no-starter h = let z : ◌≡◌ {A = ℕ} 1 0 = ap (λ (s : List ℕ). get_or s at_flags 0) (h (bytes_of factory) stop open_frame room refl refl refl refl refl) in omega arith

-- a call that is done gives the cut's count
no-inventor : ¬ InventsCount bytes_call
no-inventor h =
    let s = h.0 in
    let input = h.1 in
    let o = h.2 in
    let served = (ends-properly.ends (record { name = BytesIn; lent = record { input = input; output = o } }) s).done_exactly.0 h.3 in
    h.4 (ap (λ (z : Outcome). z.answer.skipped) (answers-as-listed.in_turn.call s input o served))

pub wrong-shut-out : WrongShutOut
wrong-shut-out b m = subst ShutOut (sym same) (record { refuser = no-refuser; sayer = no-sayer; idler = no-idler; starter = no-starter; inventor = no-inventor })
  where
    same : b ≡ bytes_call
    same = fun_ext (λ s. fun_ext (λ input. fun_ext (λ o. allowed-is (bytes_call s input o) (b s input o) (m s input o))))

-- ---- a board of each kind

-- what a stream starts with
abbrev first : List Piece → List ℕ
first [] = []
first (Whole f ∷ ps) = f
first (Broken head ∷ ps) = []

first_of : (f g : List ℕ) → OneFrame f → first (cut serial (f ++ g)).pieces ≡ f
first_of f g e = rw (packets serial serial-steady f g, e) refl

-- it replies to every frame and carries out the first
abbrev replies-on : Board
replies-on s f o = record { answer = (bytes_call s f o).answer; kept = (bytes_call s (first (cut serial f).pieces) o).kept; output = (bytes_call s f o).output }

-- it replies to every frame and carries out none
abbrev idles : Board
idles s f o = record { answer = (bytes_call s f o).answer; kept = s; output = (bytes_call s f o).output }

-- it says the same to every input, and leaves the record as it was
abbrev says : List ℕ → Board
says reply s f o = record { answer = record { result = (bytes_call s f o).answer.result; written = length reply; skipped = (bytes_call s f o).answer.skipped; place = (bytes_call s f o).answer.place }; kept = s; output = put o 0 reply }

abbrev says-unknown : Board
says-unknown = says (0xAA ∷ 0x50 ∷ 0x40 ∷ 0x85 ∷ [])

abbrev says-done : Board
says-done = says (0xAA ∷ 0x50 ∷ 0x00 ∷ 0x85 ∷ [])

-- it counts a skipped byte too many
abbrev counts : Board
counts s f o = let z = bytes_call s f o in record { answer = record { result = z.answer.result; written = z.answer.written; skipped = z.answer.skipped + 1; place = z.answer.place }; kept = z.kept; output = z.output }

refuses-all : RefusesAll says-unknown
unfolding put
refuses-all s f o e n d z = omega arith

always-says : SaysDone says-done
unfolding put
always-says s f o e n d = refl

starts : Starts replies-on
starts s f o e n = ap (λ (c : Cut). (bytes_call s (first c.pieces) o).kept) e

first-only : FirstOnly replies-on
first-only s f g o a b n p q = ap (λ (l : List ℕ). (bytes_call s l o).kept) (first_of f g a ∙ sym (ap (λ (c : Cut). first c.pieces) a))

invents : InventsCount counts
unfolding bytes_call factory bytes_of record_of cut_from
invents = (bytes_of factory, [], [], refl, λ e. let z : ◌≡◌ {A = ℕ} 1 0 = e in omega arith)

-- each returns the result of the bytes call, so it works
pub kinds-exist : KindsExist
kinds-exist = record {
  refuser = (says-unknown, (λ s f o e. e), refuses-all);
  sayer = (says-done, (λ s f o e. e), always-says);
  idler = (idles, (λ s f o e. e), λ s f o. refl);
  starter = (replies-on, (λ s f o e. e), starts, first-only);
  inventor = (counts, (λ s f o e. e), invents);
}
