-- Each outcome pins its end: the questions settle whether the call is accepted, a refusal leaves everything, and an effect settles the rest.
use Rattle.std.proofs.Common.{◌≡◌, ℕ, Bool, true, false, List, is_some, None, Option, sym, refl, ap, ◌∙◌, subst, arith}
use Rattle.toom.specs.Shadow.{MarksPin, SidesFit}
use Rattle.hosts.specs.Refusal.{Refusal}
use Rattle.plate.specs.Board.{Board}
use Rattle.plate.specs.History.{Call, Lay, Strike, Beat, Read, Map, Show, refusal_on, Effect, Untouched, Outcome}
use Rattle.plate.specs.Members.{Members}
use Rattle.plate.specs.Pins.{input, output, OutcomesPin}
use Rattle.plate.proofs.PinnedEffects.{lay_pins, strike_pins, beat_pins, read_pins, map_pins, show_pins}

-- The call with this output after it. A call is its input with its output.
abbrev writing : {C : Type 0} → Call C → List ℕ → Call C
writing (Lay n side tape) out = Lay n side tape
writing (Strike plane row column byte) out = Strike plane row column byte
writing (Beat host) out = Beat host
writing (Read before after) out = Read before out
writing (Map before after) out = Map before out
writing (Show before after) out = Show before out

writing_output : {C : Type 0} (call : Call C) → writing (input call) (output call) ≡ call
writing_output (Lay n side tape) = refl
writing_output (Strike plane row column byte) = refl
writing_output (Beat host) = refl
writing_output (Read before after) = refl
writing_output (Map before after) = refl
writing_output (Show before after) = refl

writing_input : {C : Type 0} (call : Call C) (out : List ℕ) → writing call out ≡ writing (input call) out
writing_input (Lay n side tape) out = refl
writing_input (Strike plane row column byte) out = refl
writing_input (Beat host) out = refl
writing_input (Read before after) out = refl
writing_input (Map before after) out = refl
writing_input (Show before after) out = refl

module _ (marks_pin : MarksPin) (sides : SidesFit) {C : Type 0} (k : Members C) where
  -- The questions do not see what is written.
  same_questions : (call : Call C) (out : List ℕ) (b : Board C) → refusal_on k b (writing call out) ≡ refusal_on k b call
  same_questions (Lay n side tape) out b = refl
  same_questions (Strike plane row column byte) out b = refl
  same_questions (Beat host) out b = refl
  same_questions (Read before after) out b = refl
  same_questions (Map before after) out b = refl
  same_questions (Show before after) out b = refl

  effects_pin : (call : Call C) (out : List ℕ) (b b₁ b₂ : Board C) → Effect k call b b₁ → Effect k (writing call out) b b₂
      → (b₁ ≡ b₂) × (output call ≡ output (writing call out))
  effects_pin (Lay n side tape) out b b₁ b₂ x y = (lay_pins marks_pin sides b b₁ b₂ k.named n side tape x y, refl)
  effects_pin (Strike plane row column byte) out b b₁ b₂ x y = (strike_pins marks_pin sides b b₁ b₂ k.named plane row column byte x y, refl)
  effects_pin (Beat host) out b b₁ b₂ x y = (beat_pins marks_pin sides b b₁ b₂ k.equal host x y, refl)
  effects_pin (Read before after) out b b₁ b₂ x y = (x.1 ∙ sym y.1, read_pins b before after out k.equal k.byte x.0 y.0)
  effects_pin (Map before after) out b b₁ b₂ x y = (x.1 ∙ sym y.1, map_pins b before after out k.equal x.0 y.0)
  effects_pin (Show before after) out b b₁ b₂ x y = (x.1 ∙ sym y.1, show_pins b before after out x.0 y.0)

  untouched_pins : (call : Call C) (out : List ℕ) → Untouched call → Untouched (writing call out) → output call ≡ output (writing call out)
  untouched_pins (Lay n side tape) out x y = refl
  untouched_pins (Strike plane row column byte) out x y = refl
  untouched_pins (Beat host) out x y = refl
  untouched_pins (Read before after) out x y = x ∙ sym y
  untouched_pins (Map before after) out x y = x ∙ sym y
  untouched_pins (Show before after) out x y = x ∙ sym y

  -- No question fails, and one does.
  not_both : (o : Option Refusal) → o ≡ None → is_some o ≡ true → ⊥
  not_both o none some = let z : ◌≡◌ {A = ℕ} 0 1 = cc (ap is_some none) in omega arith

  ends_pin : (call : Call C) (out : List ℕ) (accepted accepted' : Bool) (b b₁ b₂ : Board C) → Outcome k call accepted b b₁
      → Outcome k (writing call out) accepted' b b₂ → (accepted ≡ accepted') × (b₁ ≡ b₂) × (output call ≡ output (writing call out))
  ends_pin call out true true b b₁ b₂ x y = let ends = effects_pin call out b b₁ b₂ x.1 y.1 in (refl, ends.0, ends.1)
  ends_pin call out false false b b₁ b₂ x y = (refl, x.2 ∙ sym y.2, untouched_pins call out x.1 y.1)
  ends_pin call out true false b b₁ b₂ x y = absurd (not_both _ (same_questions call out b ∙ x.0) y.0)
  ends_pin call out false true b b₁ b₂ x y = absurd (not_both _ (sym (same_questions call out b) ∙ y.0) x.0)

  pub outcomes_pin : OutcomesPin k
  outcomes_pin call other same accepted accepted' b b₁ b₂ x y =
      let out = output other in
      let is : writing call out ≡ other = writing_input call out ∙ ap (λ c. writing c out) same ∙ writing_output other in
      subst (λ c. (accepted ≡ accepted') × (b₁ ≡ b₂) × (output call ≡ output c)) is
      (ends_pin call out accepted accepted' b b₁ b₂ x (subst (λ c. Outcome k c accepted' b b₂) (sym is) y))
