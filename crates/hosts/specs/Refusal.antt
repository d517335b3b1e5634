-- Refusals and questions. A refusal says by its number which question failed, by its word whose that is, and by its place where, or 0. Of a row of
-- questions the first that fails counts.
use Rattle.std.specs.Prelude.{ℕ, zero, suc, Bool, cond, List, Some, None, Option}
use Rattle.std.specs.Option.{option_or}

pub record Refusal : Type 0 where
  pub number : ℕ
  pub word : List ℕ
  pub place : ℕ

-- Ask a question: if the answer is no, this refusal, else what the later questions give.
abbrev pub ask : Bool → Refusal → Option Refusal → Option Refusal
ask good refusal later = cond good later (Some refusal)

-- The first refusal that the questions of item 0, item 1, .. of n items give.
abbrev pub ask_each : (ℕ → Option Refusal) → ℕ → Option Refusal
ask_each questions zero = None
ask_each questions (suc n) = option_or (ask_each questions n) (questions n)
