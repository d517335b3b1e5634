use Rattle.std.proofs.Common.{◌≡◌, ℕ, ◌-◌, ◌^◌, get_or, replicate, sym, refl, ap, ◌∙◌, subst, inl, inr, arith}
use native.Mathlib.Nat.{zero-mod}
use Rattle.std.proofs.lemmas.List.{get_or-replicate, get_or_past}
use Rattle.std.proofs.lemmas.Bool.{cases_lt}
use Rattle.toom.specs.Rows.{column, Narrow}
use Rattle.toom.proofs.Spans.{column_zero}
use Rattle.toom.proofs.shadow.Shadow.empty.Goals as goal

zero_row : (r : ℕ) → get_or {A = ℕ} (replicate 64 0) r 0 ≡ 0
zero_row r =
    elim (cases_lt r 64) [
      | inl h ↦ get_or-replicate 64 r 0 0 h
      | inr h ↦ get_or_past (replicate 64 0) r 0 h
    ]

zero_narrow : (side : ℕ) → Narrow side 0
zero_narrow side = (omega arith, zero-mod (2 ^ (64 - side)))

pub invariant_of-result : goal.invariant_of-result
invariant_of-result c =
    let side = c.args.side in
    record {
      sized = (omega arith, omega arith);
      tall = refl;
      narrow = λ r. subst (λ w. Narrow side w) (sym (zero_row r)) (zero_narrow side);
      beyond = λ r h. zero_row r;
    }

pub returns : goal.returns
returns c = record { sides = refl; places = λ r k h l. ap (λ w. column w k) (zero_row r) ∙ column_zero k }
