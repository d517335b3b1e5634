-- What is known of a run that no question refused: its numbers rise, none is past the beats, and each record's strike is in order.
use Rattle.std.proofs.Common.{◌≡◌, ℕ, zero, suc, ◌+◌, ◌<◌, ◌≤◌, List, Some, None, Option, refl, subst, inl, inr, arith}
use Rattle.std.proofs.lemmas.Bool.{cases_lt}
use Rattle.std.proofs.lemmas.Bool.Decides.{nat_tests}
use Rattle.std.specs.Option.{option_map}
use Rattle.hosts.specs.Refusal.{ask_each}
use Rattle.hosts.proofs.Questions.{asked_each}
use Rattle.plate.specs.StrikeCall.{place_questions}
use Rattle.runs.specs.RunCall.{at_place, number_before, record_questions, shape_questions}
use Rattle.runs.specs.Script.{records_in, record_in}

mapped_none : {X Y : Type 0} (f : X → Y) (o : Option X) → option_map f o ≡ None → o ≡ None
mapped_none f None e = refl
mapped_none f (Some x) e = let z : ◌≡◌ {A = ℕ} 0 1 = cc in absurd (omega arith)

module _ {C : Type 0} (named : ℕ → Option C) (n side age beats : ℕ) (script : List ℕ)
    (good : shape_questions named n side age beats script ≡ None) where
  pub passed_age : age + beats ≤ 1048575
  passed_age = grind (arith, nat_tests)

  all_asked : ask_each (record_questions named n side beats script) (records_in script) ≡ None
  all_asked = grind (arith, nat_tests)

  module _ (j : ℕ) (within : j < records_in script) where
    asked : record_questions named n side beats script j ≡ None
    asked = asked_each (record_questions named n side beats script) (records_in script) j all_asked within

    pub passed_number : (record_in script j).number ≤ beats
    passed_number = grind (arith, nat_tests, asked)

    pub passed_order : number_before script j ≤ (record_in script j).number
    passed_order = grind (arith, nat_tests, asked)

    moved_asked : option_map (at_place j)
        (place_questions named n side (record_in script j).strike.plane (record_in script j).strike.row (record_in script j).strike.column (record_in script j).strike.byte) ≡ None
    moved_asked = grind (arith, nat_tests, asked)

    pub passed_strike :
        place_questions named n side (record_in script j).strike.plane (record_in script j).strike.row (record_in script j).strike.column (record_in script j).strike.byte ≡ None
    passed_strike = mapped_none (at_place j) _ moved_asked

  -- No record has a higher number than the one before the next.
  pub passed_before : (m : ℕ) → m ≤ records_in script → (j : ℕ) → j < m → (record_in script j).number ≤ number_before script m
  passed_before zero few j below = absurd (omega arith)
  passed_before (suc m) few j below =
      elim (cases_lt j m) [
        | inl less ↦
            let before = passed_before m (omega arith) j less in
            let order = passed_order m (omega arith) in
            omega arith
        | inr more ↦ let last : j ≡ m = omega arith in subst (λ i. (record_in script j).number ≤ (record_in script i).number) last (omega arith)
      ]

  -- Nor is one past the beats.
  pub passed_last : (m : ℕ) → m ≤ records_in script → number_before script m ≤ beats
  passed_last zero few = omega arith
  passed_last (suc m) few = passed_number m (omega arith)
