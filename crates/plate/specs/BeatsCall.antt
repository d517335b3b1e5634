-- Many beats of one host: their questions, and what they leave.
use Rattle.std.specs.Prelude.{◌≡◌, ℕ, zero, suc, ◌+◌, Bool, List, Some, None, Option, Result, nat_le}
use Rattle.toom.specs.declared.shadow.Shadow.{Shadow}
use Rattle.toom.specs.ShadowCalls.{Voted}
use Rattle.hosts.specs.Refusal.{Refusal, ask}
use Rattle.plate.specs.declared.fault.BeatFault.{BeatFault}
use Rattle.plate.specs.declared.laid.Laid.{Laid}
use Rattle.plate.specs.BeatCall.{CellsBeaten, beat_refusal, max_age}
use Rattle.plate.specs.Board.{Board, standing}
use Rattle.plate.specs.Faults.{beat_fault}
use Rattle.plate.specs.Leads.{AnswersCalls, GoesOnBy, beats_alone}
use Rattle.plate.specs.Members.{Members}

-- The cells after m beats.
abbrev pub CellsBeatenBy : {C : Type 0} → (equal : C → C → Bool) → (host : C → C → C → C) → (n side m : ℕ) → (before after : List C) → Type 0
CellsBeatenBy equal host n side zero before after = after ≡ before
CellsBeatenBy {C} equal host n side (suc m) before after =
    (between : List C) × CellsBeatenBy equal host n side m before between × CellsBeaten equal host n side between after

-- The shadow after m votes.
abbrev pub VotedBy : (m : ℕ) → (before after : Shadow) → Type 0
VotedBy zero before after = after ≡ before
VotedBy (suc m) before after = (between : Shadow) × VotedBy m before between × Voted between after

-- A beat's questions, of all m beats at once: they have its word, since they are nothing but beats.
abbrev pub beats_questions_of : Option Laid → (m : ℕ) → Option Refusal
beats_questions_of None m = Some (beat_refusal 6)
beats_questions_of (Some l) m = ask (nat_le (l.age + m) max_age) (beat_refusal 10) None

abbrev pub beats_questions : {C : Type 0} → Board C → (m : ℕ) → Option Refusal
beats_questions b m = beats_questions_of (standing b) m

-- The answer is Ok exactly when no question fails, and an Err is the first that does. Accepted, the plate is what m beats leave, one after
-- another; refused, it is as it was.
abbrev pub BeatsAnswer : {C X : Type 0} → Members C → (host : C → C → C → C) → (m : ℕ) → Result X BeatFault → (before after : Board C) → Type 0
BeatsAnswer k host m r before after = AnswersCalls k beat_fault (beats_questions before m) (beats_alone host m) r before after

-- Whatever history reached the plate before, with the beats it reaches the plate after them, and the healing laws hold there.
abbrev pub BeatsGoOn : {C X : Type 0} → Members C → (host : C → C → C → C) → (m : ℕ) → Result X BeatFault → (before after : Board C) → Type 0
BeatsGoOn k host m r before after = GoesOnBy k (beats_alone host m) r before after
