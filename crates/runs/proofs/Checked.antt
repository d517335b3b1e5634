-- The questions of a script, record by record.
use Rattle.std.proofs.Common.{◌≡◌, ℕ, ◌+◌, ◌%◌, ◌≤◌, ◌&&◌, eqb, leb, List, length, Some, None, Option, sym, refl, ap, ◌∙◌, subst, add-one, arith}
use Rattle.std.proofs.lemmas.Bool.{cond-true}
use Rattle.std.proofs.lemmas.Bool.Decides.{nat_tests}
use Rattle.std.specs.Iterator.Adapters.{enumerate_steps}
use Rattle.std.specs.declared.iter.Enumerate.{Enumerate}
use Rattle.hosts.specs.Refusal.{Refusal, ask_each}
use Rattle.hosts.proofs.Questions.{asked_more, asked_first}
use Rattle.runs.specs.declared.record.Record.{Record}
use Rattle.runs.specs.declared.script.Script.{Script}
use Rattle.runs.specs.RunCall.{number_before, record_asked, record_questions, script_questions}
use Rattle.runs.specs.Script.{Yields, records_in, record_in}
use Rattle.runs.proofs.Scripts.{StandsIn, has_record, reads_record, stands_last, stands_next}

pub number_next : (script : List ℕ) (k m : ℕ) (r : Record) → m ≡ k + 1 → r ≡ record_in script k → r.number ≡ number_before script m
number_next script k m r next is = ap (λ x. x.number) is ∙ sym (ap (number_before script) (next ∙ add-one k))

-- The records before the reader's have been asked, and none was refused; the last of them had the number `before`.
pub record Asking {C : Type 0} (named : ℕ → Option C) (n side beats : ℕ) (script : List ℕ) (e : Enumerate Script) (before : ℕ) : Type 0 where
  pub stands : StandsIn script e
  pub number : before ≡ number_before script e.count
  pub passed : ask_each (record_questions named n side beats script) e.count ≡ None

module _ {C : Type 0} {named : ℕ → Option C} {n side beats : ℕ} {script : List ℕ} {e : Enumerate Script} {before : ℕ}
    (asking : Asking named n side beats script e before) (t : Enumerate Script) where
  abbrev questions : ℕ → Option Refusal
  questions = record_questions named n side beats script

  rest : length script % 8 ≡ 0 → length script ≤ 65528 → script_questions named n side beats script ≡ ask_each questions (records_in script)
  rest whole short = cond-true (eqb (length script % 8) 0 && leb (length script) 65528) _ _ (grind (arith, nat_tests))

  pub script_passed : Yields e.iter None t.iter → length script % 8 ≡ 0 → length script ≤ 65528 → script_questions named n side beats script ≡ None
  script_passed none whole short =
      rest whole short ∙ subst (λ j. ask_each questions j ≡ None) (stands_last script e t asking.stands none) asking.passed

  -- The reader gives record r, whose index is i.
  module _ (i : ℕ) (r : Record) (step : enumerate_steps Yields e (Some (i, r)) t) where
    is : r ≡ record_in script e.count
    is = reads_record script e t asking.stands r step.0

    -- What is asked of it is what is asked of the record at its index.
    asked : record_asked named n side beats before i r ≡ questions e.count
    asked = rw (asking.number, step.1, is) refl

    pub asking_next : record_asked named n side beats before i r ≡ None → Asking named n side beats script t r.number
    asking_next none = record {
      stands = stands_next script e t asking.stands r step.0 step.2;
      number = number_next script e.count t.count r step.2 is;
      passed = subst (λ j. ask_each questions j ≡ None) (sym step.2) (asked_more questions e.count asking.passed (sym asked ∙ none));
    }

    pub script_refused : (refusal : Refusal) → record_asked named n side beats before i r ≡ Some refusal → length script % 8 ≡ 0
        → length script ≤ 65528 → script_questions named n side beats script ≡ Some refusal
    script_refused refusal some whole short =
        rest whole short
        ∙ asked_first questions (records_in script) e.count refusal asking.passed (sym asked ∙ some) (has_record script e t asking.stands r step.0)
