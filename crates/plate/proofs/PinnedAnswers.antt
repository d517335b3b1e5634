-- Two answers to one call on one plate are the same, since each fault has a refusal of its own.
use Rattle.std.proofs.Common.{◌≡◌, ℕ, Some, None, Ok, Err, sym, refl, ap, ◌∙◌, arith}
use Rattle.hosts.specs.Refusal.{Refusal}
use Rattle.plate.specs.Board.{Board}
use Rattle.plate.specs.Faults.{beat_fault, lay_fault, map_fault, read_fault, shadow_fault, strike_fault}
use Rattle.plate.specs.History.{Call, Lay, Strike, Beat, Read, Map, Show, refusal_on}
use Rattle.plate.specs.Members.{Members}
use Rattle.plate.specs.Pins.{input, OneAnswer, AnswersPin}
use Rattle.plate.proofs.PinnedFaults.{faults_pin}

module _ {C : Type 0} (k : Members C) where
  by_input : (b : Board C) (call : Call C) → refusal_on k b call ≡ refusal_on k b (input call)
  by_input b (Lay n side tape) = refl
  by_input b (Strike plane row column byte) = refl
  by_input b (Beat host) = refl
  by_input b (Read before after) = refl
  by_input b (Map before after) = refl
  by_input b (Show before after) = refl

  module _ (call other : Call C) (same : input call ≡ input other) (b : Board C) where
    questions : refusal_on k b call ≡ refusal_on k b other
    questions = by_input b call ∙ ap (refusal_on k b) same ∙ sym (by_input b other)

    not_both : (x : Refusal) → refusal_on k b call ≡ None → refusal_on k b other ≡ Some x → ⊥
    not_both x none some = let z : ◌≡◌ {A = ℕ} 0 1 = cc questions in omega arith

  one_answer : {E : Type 0} (refusal : E → Refusal) → ((e f : E) → refusal e ≡ refusal f → e ≡ f) → OneAnswer k refusal
  one_answer refusal own call other same (Ok x) (Ok y) b b₁ b₂ o p = refl
  one_answer refusal own call other same (Ok x) (Err f) b b₁ b₂ o p = absurd (not_both call other same b (refusal f) o.0 p.0)
  one_answer refusal own call other same (Err e) (Ok y) b b₁ b₂ o p = absurd (not_both other call (sym same) b (refusal e) p.0 o.0)
  one_answer refusal own call other same (Err e) (Err f) b b₁ b₂ o p =
      let one : Some (refusal e) ≡ Some (refusal f) = sym o.0 ∙ questions call other same b ∙ p.0 in
      ap Err (own e f (cc))

  pub answers_pin : AnswersPin k
  answers_pin = record {
    lay = one_answer lay_fault faults_pin.lay;
    strike = one_answer strike_fault faults_pin.strike;
    beat = one_answer beat_fault faults_pin.beat;
    read = one_answer read_fault faults_pin.read;
    map = one_answer map_fault faults_pin.map;
    shadow = one_answer shadow_fault faults_pin.shadow;
  }
