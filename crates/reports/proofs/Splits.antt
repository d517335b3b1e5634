-- Why a plate has no reading: the refusals that the questions about its planes give.
use Rattle.std.proofs.Common.{◌≡◌, ℕ, zero, suc, ◌<◌, Bool, true, false, List, Some, None, Option, subst, arith}
use Rattle.std.specs.Option.{option_or}
use Rattle.hosts.specs.Refusal.{Refusal, ask, ask_each}
use Rattle.plate.specs.ReadCall.{plane_question, read_refusal}

-- The refusal, if there is one, has P.
abbrev pub IfAny : (Refusal → Type 0) → Option Refusal → Type 0
IfAny P o = (r : Refusal) → o ≡ Some r → P r

module _ (P : Refusal → Type 0) where
  none_any : IfAny P None
  none_any r e = let z : ◌≡◌ {A = ℕ} 0 1 = cc in absurd (omega arith)

  ask_any : (good : Bool) (refusal : Refusal) → P refusal → IfAny P (ask good refusal None)
  ask_any true refusal has = none_any
  ask_any false refusal has = λ r e. let same : refusal ≡ r = cc in subst P same has

  or_any : (o p : Option Refusal) → IfAny P o → IfAny P p → IfAny P (option_or o p)
  or_any None p first second = second
  or_any (Some r) p first second = first

  -- The planes are the first n.
  pub split_any : {C : Type 0} (equal : C → C → Bool) (cells : List C) (side n : ℕ) → ((i : ℕ) → i < n → P (read_refusal 16 i))
      → IfAny P (ask_each (plane_question equal cells side) n)
  split_any equal cells side zero each = none_any
  split_any equal cells side (suc n) each =
      or_any (ask_each (plane_question equal cells side) n) (plane_question equal cells side n)
      (split_any equal cells side n (λ i within. each i (omega arith))) (ask_any _ (read_refusal 16 n) (each n (omega arith)))
