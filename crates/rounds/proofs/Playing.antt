-- A performed round is the play of its file, and the healing laws hold of it.
use Rattle.std.proofs.Common.{◌≡◌, ℕ, true, List, [], ◌∷◌, length, None, Ok, Err, Result, MatchResult}
use mathlib.Core.Path.{transport}
use Rattle.plate.specs.Healing.{AlwaysHeals}
use Rattle.plate.specs.History.{Lay, new, more}
use Rattle.plate.specs.Members.{Members}
use Rattle.plate.proofs.Leading.{reached_with}
use Rattle.runs.specs.RunCall.{calls_of_run}
use Rattle.rounds.specs.declared.fault.PlayFault.{PlayFault}
use Rattle.rounds.specs.declared.round.Round.{Round}
use Rattle.rounds.specs.PlayCall.{Entrant, Performs, PlayAnswers, PlayHeals, play_questions, round_history}
use Rattle.rounds.specs.RoundFile.{RoundIn, beats_in, host_in, planes_in, script_in, side_in, tape_in}

-- Equal rounds are performed alike.
performs_as : {C : Type 0} (k : Members C) (host : C → C → C → C) (answer : ℕ) (cells cells' : List C) (out out' : List ℕ)
    (n n' side side' beats beats' : ℕ) (tape tape' script script' : List ℕ)
    → n ≡ n' → side ≡ side' → beats ≡ beats' → tape ≡ tape' → script ≡ script'
    → Performs k host n side beats tape script answer cells cells' out out' → Performs k host n' side' beats' tape' script' answer cells cells' out out'
performs_as k host answer cells cells' out out' n n' side side' beats beats' tape tape' script script' en es eb et eq =
    transport (λ i. Performs k host (en i) (es i) (eb i) (et i) (eq i) answer cells cells' out out')

module _ {C H : Type 0} (k : Members C) (e : Entrant C H) (file : List ℕ) (cells cells' : List C) (out out' : List ℕ) where
  pub performed : (r : Result ℕ PlayFault) (x : Round) (host : H) → play_questions k e file (length cells) (length out) ≡ None → RoundIn file x
      → e.in_bytes (host_in file) host
      → MatchResult r (λ n. Performs k (e.meaning host) x.planes x.side x.beats x.tape.now x.script.now n cells cells' out out') (λ _. ⊥)
      → PlayAnswers k e file r cells cells' out out'
  performed (Ok n) x host good is enters performs = (
    good,
    record {
      host = host;
      enters = enters;
      performs =
          performs_as k (e.meaning host) n cells cells' out out' x.planes (planes_in file) x.side (side_in file) x.beats (beats_in file)
          x.tape.now (tape_in file) x.script.now (script_in file) is.planes is.side is.beats is.tape is.script performs;
    },
  )
  performed (Err f) x host good is enters never = absurd never

  pub play_heals : AlwaysHeals k → (r : Result ℕ PlayFault) → PlayHeals k e file r cells cells' out out'
  play_heals heals (Ok n) = λ p.
      let host = e.meaning p.host in
      let lay = Lay (planes_in file) (side_in file) (tape_in file) in
      let laid = more lay true (new cells) p.performs.lays in
      let reached = reached_with k (calls_of_run host (script_in file) (beats_in file)) ((lay, true) ∷ []) p.performs.laid p.performs.played laid p.performs.runs in
      (reached, heals (round_history host file) p.performs.played reached)
  play_heals heals (Err f) = tt
