-- One command carried out: the record that it leaves, and the reply.
use Rattle.std.specs.Prelude.{ℕ, ◌+◌, List, [], ◌∷◌}
use Rattle.wire.specs.Frames.{Piece, Whole, Broken}
use Rattle.wire.specs.Serial.{head_of, number_of, params_of}
use Rattle.wire.specs.Replies.{Reply, kind_of}
use Rattle.wire.specs.Run.{Run}
use Rattle.record.specs.Record.{Record, with_tries}
use Rattle.command.specs.declared.Refusal.{Refusal}
use Rattle.command.specs.declared.Refusal.TheVariants.{Unknown, Unbuilt, Miscounted, NoAccess, BadCode, TooBig, TooSmall}
use Rattle.command.specs.declared.Verdict.{Verdict}
use Rattle.command.specs.declared.Verdict.TheVariants.{Do, Refuse}
use Rattle.command.specs.Effects.{effect_of, data_of}
use Rattle.command.specs.Judge.{status_of, verdict_of}

-- "nothing in the record changes but the pending bytes and, for a wrong code, the tries"
unfoldable pub left_by : Refusal → Record → Record
unfolding with_tries
left_by Unknown r = r
left_by Unbuilt r = r
left_by Miscounted r = r
left_by NoAccess r = r
-- "19 with a wrong code (this adds one to the tries)"; "A wrong code while unlocked counts as a try and leaves the board unlocked."
left_by BadCode r = with_tries r (r.tries + 1)
left_by TooBig r = r
left_by TooSmall r = r

-- the record that a command leaves, and its reply
pub record Step : Type 0 where
  pub after : Record
  pub reply : Reply

-- "A refused command gets n = 0 and no data."; "000 says that an error reply has no data"
abbrev pub settled : Record → ℕ → List ℕ → Verdict → Step
settled r head p (Do c) = record { after = effect_of c r p; reply = record { kind = kind_of head; status = 0x00; body = data_of c r p } }
settled r head p (Refuse why) = record { after = left_by why r; reply = record { kind = kind_of head; status = status_of why; body = [] } }

-- a number under a head, with its parameters
unfoldable pub step_by : Record → ℕ → ℕ → List ℕ → Step
unfolding verdict_of effect_of data_of left_by
step_by r head number p = settled r head p (verdict_of r head number p)

-- a whole frame
unfoldable pub step_of : Record → List ℕ → Step
unfolding step_by
step_of r f = step_by r (head_of f) (number_of f) (params_of f)

-- what the board does with a piece of the stream: "the frame is carried out and replied to"; a broken head is passed "without a reply"
abbrev pub on_piece : Record → Piece → Run Record Reply
on_piece r (Whole f) = record { state = (step_of r f).after; said = (step_of r f).reply ∷ [] }
on_piece r (Broken head) = record { state = r; said = [] }
