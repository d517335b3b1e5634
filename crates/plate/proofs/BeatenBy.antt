-- Beats of a plate's cells, and then more of them.
use Rattle.std.proofs.Common.{◌≡◌, ℕ, zero, suc, ◌+◌, ◌-◌, ◌≤◌, Bool, List, sym, subst, arith}
use Rattle.plate.specs.BeatsCall.{CellsBeatenBy}

pub beaten_join : {C : Type 0} (equal : C → C → Bool) (host : C → C → C → C) (n side a b : ℕ) (before mid after : List C)
    → CellsBeatenBy equal host n side a before mid → CellsBeatenBy equal host n side b mid after
    → CellsBeatenBy equal host n side (a + b) before after
beaten_join equal host n side a zero before mid after first same =
    let sum : a ≡ a + 0 = omega arith in
    subst (λ m. CellsBeatenBy equal host n side m before after) sum (subst (CellsBeatenBy equal host n side a before) (sym same) first)
beaten_join equal host n side a (suc b) before mid after first (between, rest, last) =
    let sum : suc (a + b) ≡ a + suc b = omega arith in
    subst (λ m. CellsBeatenBy equal host n side m before after) sum
    (between, beaten_join equal host n side a b before mid between first rest, last)

-- Of the beats that are left some more are done.
pub left_more : {C : Type 0} (equal : C → C → Bool) (host : C → C → C → C) (n side times left now : ℕ) (start cells next : List C) → left ≤ times → now ≤ left
    → CellsBeatenBy equal host n side (times - left) start cells → CellsBeatenBy equal host n side now cells next
    → CellsBeatenBy equal host n side (times - (left - now)) start next
left_more equal host n side times left now start cells next within some done more =
    let sum : times - left + now ≡ times - (left - now) = omega arith in
    subst (λ m. CellsBeatenBy equal host n side m start next) sum (beaten_join equal host n side (times - left) now start cells next done more)
