-- Calls that are asked together pin their end: each of their outcomes does, and a refusal leaves everything.
use Rattle.std.proofs.Common.{◌≡◌, true, List, [], ◌∷◌, Ok, Err, Option, Result, sym, refl, ap, ◌∙◌, subst}
use Rattle.hosts.specs.Refusal.{Refusal}
use Rattle.plate.specs.BeatsCall.{beats_questions}
use Rattle.plate.specs.Board.{Board}
use Rattle.plate.specs.Faults.{beat_fault}
use Rattle.plate.specs.History.{Call}
use Rattle.plate.specs.Leads.{AnswersCalls, Leads, beats_alone}
use Rattle.plate.specs.Members.{Members}
use Rattle.plate.specs.Pins.{BeatsPin, OutcomesPin}
use Rattle.plate.proofs.PinnedFaults.{faults_pin}
use Rattle.plate.proofs.Standing.{not_both, some_same}

module _ {C : Type 0} (k : Members C) (ends_pin : OutcomesPin k) where
  pub leads_pin : (calls : List (Call C)) (b b₁ b₂ : Board C) → Leads k calls b b₁ → Leads k calls b b₂ → b₁ ≡ b₂
  leads_pin [] b b₁ b₂ x y = x ∙ sym y
  leads_pin (call ∷ calls) b b₁ b₂ x y =
      let same = (ends_pin call call refl true true b x.0 y.0 x.1 y.1).1 in
      leads_pin calls y.0 b₁ b₂ (subst (λ a. Leads k calls a b₁) same x.2) y.2

  -- `own` says that each fault has a refusal of its own.
  pub calls_pin : {E : Type 0} (refusal : E → Refusal) (own : (e f : E) → refusal e ≡ refusal f → e ≡ f) (asked : Option Refusal)
      (calls : List (Call C)) (r r' : Result (Unit {0}) E) (b b₁ b₂ : Board C) → AnswersCalls k refusal asked calls r b b₁
      → AnswersCalls k refusal asked calls r' b b₂ → (r ≡ r') × (b₁ ≡ b₂)
  calls_pin refusal own asked calls (Ok _) (Ok _) b b₁ b₂ x y = (refl, leads_pin calls b b₁ b₂ x.1 y.1)
  calls_pin refusal own asked calls (Ok _) (Err e) b b₁ b₂ x y = absurd (not_both asked (refusal e) x.0 y.0)
  calls_pin refusal own asked calls (Err e) (Ok _) b b₁ b₂ x y = absurd (not_both asked (refusal e) y.0 x.0)
  calls_pin refusal own asked calls (Err e) (Err f) b b₁ b₂ x y =
      (ap Err (own e f (some_same (refusal e) (refusal f) (sym x.0 ∙ y.0))), x.1 ∙ sym y.1)

  pub beats_pin : BeatsPin k
  beats_pin host m r r' b b₁ b₂ x y =
      calls_pin beat_fault faults_pin.beat (beats_questions b m) (beats_alone host m) r r' b b₁ b₂ x y
