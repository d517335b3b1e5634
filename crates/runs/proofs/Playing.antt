-- A run whose questions have passed, record by record: what it has led to, and that no strike and no beat of it is refused.
use Rattle.std.proofs.Common.{◌≡◌, ℕ, ◌+◌, ◌-◌, ◌<◌, ◌≤◌, true, false, List, Some, None, Ok, Err, Option, Result, is_ok, sym, refl, ap, ◌∙◌, subst, arith}
use Rattle.std.specs.Iterator.Adapters.{enumerate_steps}
use Rattle.std.specs.declared.iter.Enumerate.{Enumerate}
use Rattle.plate.specs.declared.fault.BeatFault.{BeatFault}
use Rattle.plate.specs.declared.fault.StrikeFault.{StrikeFault}
use Rattle.plate.specs.declared.laid.Laid.{Laid}
use Rattle.plate.specs.BeatsCall.{beats_questions}
use Rattle.plate.specs.Board.{Board, side_of, standing}
use Rattle.plate.specs.Faults.{beat_fault, strike_fault}
use Rattle.plate.specs.History.{Outcome}
use Rattle.plate.specs.Leads.{Leads, beats_alone}
use Rattle.plate.specs.Members.{Members}
use Rattle.plate.specs.Plates.{Answers}
use Rattle.plate.specs.StrikeCall.{strike_questions}
use Rattle.plate.proofs.Leading.{leads_on, leads_one}
use Rattle.plate.proofs.Standing.{not_both}
use Rattle.runs.specs.declared.record.Record.{Record}
use Rattle.runs.specs.declared.script.Script.{Script}
use Rattle.runs.specs.RunCall.{calls_of_run, calls_upto, number_before, run_questions, run_questions_of, shape_questions, strike_of}
use Rattle.runs.specs.Script.{Yields, records_in, record_in}
use Rattle.runs.proofs.Beating.{Older, beats_older, older_0}
use Rattle.runs.proofs.Checked.{number_next}
use Rattle.runs.proofs.Passed.{passed_age, passed_before, passed_last, passed_number, passed_order, passed_strike}
use Rattle.runs.proofs.Scripts.{StandsIn, has_record, reads_record, stands_last, stands_next}
use Rattle.runs.proofs.Shapes.{LaidAs, beats_pass, strike_passes, struck_on}
use Rattle.runs.proofs.Timelines.{calls_beaten, calls_struck}

-- m records have struck and `done` beats have passed since the start.
pub record Played {C : Type 0} (k : Members C) (host : C → C → C → C) (script : List ℕ) (start : Board C) (m done : ℕ) (b : Board C) : Type 0 where
  pub leads : Leads k (calls_upto host script m done) start b
  pub older : Older done start b

-- No question failed; the records before the reader's have struck, and as many beats have passed as the last of them says.
pub record Underway {C : Type 0} (k : Members C) (host : C → C → C → C) (script : List ℕ) (beats : ℕ) (start : Board C) (e : Enumerate Script)
    (done : ℕ) (b : Board C) : Type 0 where
  pub good : run_questions k.named start beats script ≡ None
  pub stands : StandsIn script e
  pub number : done ≡ number_before script e.count
  pub played : Played k host script start e.count done b

asked_laid : {C : Type 0} (named : ℕ → Option C) (o : Option Laid) (beats : ℕ) (script : List ℕ) → run_questions_of named o beats script ≡ None
    → (l : Laid) × (o ≡ Some l) × (shape_questions named l.planes (side_of l) l.age beats script ≡ None)
asked_laid named None beats script good = let z : ◌≡◌ {A = ℕ} 0 1 = cc in absurd (omega arith)
asked_laid named (Some l) beats script good = (l, refl, good)

pub underway_first : {C : Type 0} (k : Members C) (host : C → C → C → C) (script : List ℕ) (beats : ℕ) (start : Board C) (e : Enumerate Script)
    → run_questions k.named start beats script ≡ None → e.iter.bytes.now ≡ script → e.iter.index ≡ 0 → e.count ≡ 0
    → Underway k host script beats start e 0 start
underway_first k host script beats start e good bytes index count = record {
  good = good;
  stands = record { bytes = bytes; index = index ∙ sym count; within = omega arith };
  number = ap (number_before script) (sym count);
  played = subst (λ m. Played k host script start m 0 start) (sym count) record { leads = refl; older = older_0 start };
}

-- A strike whose questions pass is accepted.
accepted : {C X : Type 0} (k : Members C) (r : Record) (b b' : Board C) (answer : Result X StrikeFault) → Answers k strike_fault (strike_of r) answer b b'
    → strike_questions k.named b r.strike.plane r.strike.row r.strike.column r.strike.byte ≡ None → Outcome k (strike_of r) true b b'
accepted k r b b' (Ok x) outcome fits = outcome
accepted k r b b' (Err e) outcome fits = absurd (not_both _ (strike_fault e) fits outcome.0)

unrefused : {C X : Type 0} (k : Members C) (r : Record) (b b' : Board C) (answer : Result X StrikeFault) → Answers k strike_fault (strike_of r) answer b b'
    → strike_questions k.named b r.strike.plane r.strike.row r.strike.column r.strike.byte ≡ None → false ≡ is_ok answer → ⊥
unrefused k r b b' (Ok x) outcome fits is = let z : ◌≡◌ {A = ℕ} 0 1 = cc in absurd (omega arith)
unrefused k r b b' (Err e) outcome fits is = not_both _ (strike_fault e) fits outcome.0

module _ {C : Type 0} {k : Members C} {host : C → C → C → C} {script : List ℕ} {beats : ℕ} {start : Board C} {e : Enumerate Script} {done : ℕ}
    {b : Board C} (u : Underway k host script beats start e done b) where
  asked : (l : Laid) × (standing start ≡ Some l) × (shape_questions k.named l.planes (side_of l) l.age beats script ≡ None)
  asked = asked_laid k.named (standing start) beats script u.good

  abbrev laid_start : LaidAs asked.0.planes (side_of asked.0) asked.0.age start
  laid_start = record { kept = asked.0; stands = asked.1; planes = refl; sides = refl; ages = refl }

  -- There is time for beats up to any number that is not past the run's.
  beats_fit : (to : ℕ) → done ≤ to → to ≤ beats → beats_questions b (to - done) ≡ None
  beats_fit to from upto =
      beats_pass _ _ (asked.0.age + done) b b (u.played.older _ _ _ laid_start) (to - done)
      (omega (arith, passed_age k.named _ _ _ beats script asked.2))

  played_beats : (to : ℕ) (b' : Board C) → done ≤ to → Leads k (beats_alone host (to - done)) b b' → Played k host script start e.count to b'
  played_beats to b' from leads =
      let older = beats_older k host (to - done) b b' leads in
      let sum : done + (to - done) ≡ to = omega arith in
      let calls = calls_beaten script host e.count done (to - done)
      (λ j h. subst (λ d. (record_in script j).number ≤ d) (sym u.number) (passed_before k.named _ _ _ beats script asked.2 e.count u.stands.within j h)) in
      record {
        leads =
            subst (λ c. Leads k c start b') (sym calls ∙ ap (calls_upto host script e.count) sum)
            (leads_on k (calls_upto host script e.count done) (beats_alone host (to - done)) start b b' u.played.leads leads);
        older = λ n side age laid.
            let ages : age + done + (to - done) ≡ age + to = omega arith in
            subst (λ a. LaidAs n side a b') ages (older n side (age + done) (u.played.older n side age laid));
      }

  pub done_upto : done ≤ beats
  done_upto = rw u.number (passed_last k.named _ _ _ beats script asked.2 e.count u.stands.within)

  -- After the last record the rest of the beats.
  pub rest_unrefused : (f : BeatFault) → beats_questions b (beats - done) ≡ Some (beat_fault f) → ⊥
  rest_unrefused f = not_both _ (beat_fault f) (beats_fit beats done_upto (omega arith))

  pub all_played : (t : Enumerate Script) → Yields e.iter None t.iter → (b' : Board C) → Leads k (beats_alone host (beats - done)) b b'
      → Leads k (calls_of_run host script beats) start b'
  all_played t none b' leads =
      subst (λ i. Leads k (calls_upto host script i beats) start b') (stands_last script e t u.stands none)
      (played_beats beats b' done_upto leads).leads

  -- The reader gives record r.
  module _ (t : Enumerate Script) (i : ℕ) (r : Record) (step : enumerate_steps Yields e (Some (i, r)) t) where
    within : e.count < records_in script
    within = has_record script e t u.stands r step.0

    is : r ≡ record_in script e.count
    is = reads_record script e t u.stands r step.0

    pub number_from : done ≤ r.number
    number_from = rw (u.number, is) (passed_order k.named _ _ _ beats script asked.2 e.count within)

    number_upto : r.number ≤ beats
    number_upto = rw is (passed_number k.named _ _ _ beats script asked.2 e.count within)

    pub beats_unrefused : (f : BeatFault) → beats_questions b (r.number - done) ≡ Some (beat_fault f) → ⊥
    beats_unrefused f = not_both _ (beat_fault f) (beats_fit r.number number_from number_upto)

    -- The beats up to it, and then its strike.
    module _ (b₁ b₂ : Board C) (leads : Leads k (beats_alone host (r.number - done)) b b₁) {X : Type 0} (answer : Result X StrikeFault) (answers : Answers k strike_fault (strike_of r) answer b₁ b₂) where
      beaten : Played k host script start e.count r.number b₁
      beaten = played_beats r.number b₁ number_from leads

      strike_fits : strike_questions k.named b₁ r.strike.plane r.strike.row r.strike.column r.strike.byte ≡ None
      strike_fits =
          strike_passes _ _ _ b₁ b₂ (beaten.older _ _ _ laid_start) k.named r.strike.plane r.strike.row r.strike.column r.strike.byte
          (rw is (passed_strike k.named _ _ _ beats script asked.2 e.count within))

      pub strike_unrefused : false ≡ is_ok answer → ⊥
      strike_unrefused = unrefused k r b₁ b₂ answer answers strike_fits

      outcome : Outcome k (strike_of r) true b₁ b₂
      outcome = accepted k r b₁ b₂ answer answers strike_fits

      struck : Played k host script start t.count r.number b₂
      struck =
          let calls : calls_upto host script (e.count + 1) r.number ≡ _ = calls_struck script host e.count r.number (sym (ap (λ x. x.number) is)) in
          subst (λ m. Played k host script start m r.number b₂) (sym step.2)
          record {
            leads =
                subst (λ c. Leads k c start b₂) (sym calls)
                (leads_one k (calls_upto host script e.count r.number) (strike_of (record_in script e.count)) start b₁ b₂ beaten.leads
                (subst (λ x. Outcome k (strike_of x) true b₁ b₂) is outcome));
            older = λ n side age laid.
                let ages : age + r.number + 0 ≡ age + r.number = omega arith in
                subst (λ a. LaidAs n side a b₂) ages
                (struck_on n side (age + r.number) b₁ b₂ (beaten.older n side age laid) k.named r.strike.plane r.strike.row r.strike.column r.strike.byte
                outcome.1);
          }

      pub underway_next : Underway k host script beats start t r.number b₂
      underway_next = record {
        good = u.good;
        stands = stands_next script e t u.stands r step.0 step.2;
        number = number_next script e.count t.count r step.2 is;
        played = struck;
      }
