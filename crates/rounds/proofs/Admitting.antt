-- The questions of a play, one part after another.
use Rattle.std.proofs.Common.{◌≡◌, ℕ, ◌≤◌, true, leb, List, Some, None, Option, ap, ◌∙◌}
use Rattle.std.proofs.lemmas.Bool.{cond-true, le-leb, leb-true}
use Rattle.std.specs.Option.{option_or}
use Rattle.hosts.specs.Refusal.{Refusal, ask}
use Rattle.hosts.proofs.Questions.{ask_none, or_none}
use Rattle.plate.specs.LayCall.{lay_questions}
use Rattle.plate.specs.Members.{Members}
use Rattle.runs.specs.RunCall.{shape_questions}
use Rattle.reports.specs.ReportCall.{report_refusal}
use Rattle.rounds.specs.declared.round.Round.{Round}
use Rattle.rounds.specs.PlayCall.{Entrant, play_questions}
use Rattle.rounds.specs.RoundFile.{RoundIn, beats_in, host_in, planes_in, round_questions, script_in, side_in, tape_in}

-- A part that passes leaves it to the later ones.
past : {X : Type 0} (o later : Option X) → o ≡ None → option_or o later ≡ later
past o later none = ap (λ p. option_or p later) none

module _ {C H : Type 0} (k : Members C) (e : Entrant C H) (file : List ℕ) (memory room : ℕ) (x : Round) (is : RoundIn file x)
    (good : round_questions e.kind file ≡ None) (enough : 12396 ≤ room) (host : e.questions (host_in file) ≡ None) where
  pub lay_refused : (r : Refusal) → lay_questions k.named x.planes x.side x.tape.now memory ≡ Some r
      → play_questions k e file memory room ≡ Some r
  lay_refused r refused =
      let here : lay_questions k.named (planes_in file) (side_in file) (tape_in file) memory ≡ Some r =
      rw (is.planes, is.side, is.tape) at refused in
      let later = λ (o : Option Refusal). option_or o (shape_questions k.named (planes_in file) (side_in file) 0 (beats_in file) (script_in file)) in
      past (round_questions e.kind file) _ good ∙ cond-true (leb 12396 room) _ (Some (report_refusal 15)) (le-leb 12396 room enough)
      ∙ past (e.questions (host_in file)) _ host ∙ ap later here

-- What a play that no question refused has passed.
module _ {C H : Type 0} (k : Members C) (e : Entrant C H) (file : List ℕ) (memory room : ℕ) (x : Round) (is : RoundIn file x)
    (good : play_questions k e file memory room ≡ None) where
  abbrev after_room : Option Refusal
  after_room =
      option_or (e.questions (host_in file))
      (option_or (lay_questions k.named (planes_in file) (side_in file) (tape_in file) memory)
      (shape_questions k.named (planes_in file) (side_in file) 0 (beats_in file) (script_in file)))

  after_file : ask (leb 12396 room) (report_refusal 15) after_room ≡ None
  after_file = (or_none (round_questions e.kind file) (ask (leb 12396 room) (report_refusal 15) after_room) good).1

  room_asked : (leb 12396 room ≡ true) × (after_room ≡ None)
  room_asked = ask_none (leb 12396 room) (report_refusal 15) after_room after_file

  pub room_passed : 12396 ≤ room
  room_passed = leb-true 12396 room room_asked.0

  calls_asked : (lay_questions k.named (planes_in file) (side_in file) (tape_in file) memory ≡ None)
      × (shape_questions k.named (planes_in file) (side_in file) 0 (beats_in file) (script_in file) ≡ None)
  calls_asked = or_none _ _ (or_none (e.questions (host_in file)) _ room_asked.1).1

  pub lay_passed : lay_questions k.named x.planes x.side x.tape.now memory ≡ None
  lay_passed = rw (is.planes, is.side, is.tape) calls_asked.0

  pub run_passed : shape_questions k.named x.planes x.side 0 x.beats x.script.now ≡ None
  run_passed = rw (is.planes, is.side, is.beats, is.script) calls_asked.1
