-- When a plate stands: it keeps a shape, and its memory holds that shape.
use Rattle.std.proofs.Common.{◌≡◌, ℕ, ◌≤◌, leb, List, length, Some, None, Option, sym, ap, ◌∙◌, ap₂, arith}
use Rattle.std.proofs.lemmas.Bool.{cond_both, cond-true, le-leb, leb-true}
use Rattle.plate.specs.declared.laid.Laid.{Laid}
use Rattle.plate.specs.Board.{Board, side_of, held, standing}
use Rattle.plate.specs.Layout.{size_of}

pub some_same : {X : Type 0} (x y : X) → Some x ≡ Some y → x ≡ y
some_same x y e = cc

-- A question that passes refuses nothing.
pub not_both : {X : Type 0} (o : Option X) (x : X) → o ≡ None → o ≡ Some x → ⊥
not_both o x none some = let z : ◌≡◌ {A = ℕ} 0 1 = cc in absurd (omega arith)

-- What the call of `standing` answered.
pub stands : {C : Type 0} (b : Board C) (o : Option Laid) (l : Laid) → o ≡ standing b → o ≡ Some l → standing b ≡ Some l
stands b o l asked answer = sym asked ∙ answer

-- The memory holds the shape.
abbrev pub Holds : {C : Type 0} → Laid → List C → Type 0
Holds l cells = size_of l.planes (side_of l) ≤ length cells

held_holds : {C : Type 0} (o : Option Laid) (cells : List C) (l : Laid) → held o cells ≡ Some l → Holds l cells
held_holds None cells l e = let z : ◌≡◌ {A = ℕ} 0 1 = cc in absurd (omega arith)
held_holds (Some m) cells l e =
    cond_both (leb (size_of m.planes (side_of m)) (length cells)) (Some m) None (λ o. o ≡ Some l → Holds l cells)
    (λ fits is. let same : m ≡ l = some_same m l is in rw same at (leb-true _ _ fits))
    (λ fails is. let z : ◌≡◌ {A = ℕ} 0 1 = cc in absurd (omega arith)) e

pub standing_holds : {C : Type 0} (b : Board C) (l : Laid) → standing b ≡ Some l → Holds l b.cells
standing_holds b l = held_holds b.laid b.cells l

-- A plate that keeps the shape n × side × side, which its memory holds, stands.
pub stands_with : {C : Type 0} (b : Board C) (l : Laid) (n side : ℕ) → b.laid ≡ Some l → l.planes ≡ n → side_of l ≡ side
    → size_of n side ≤ length b.cells → standing b ≡ Some l
stands_with b l n side keeps planes sides fits =
    let sizes : size_of l.planes (side_of l) ≡ size_of n side = ap₂ size_of planes sides in
    ap (λ o. held o b.cells) keeps ∙ cond-true _ _ _ (le-leb (size_of l.planes (side_of l)) (length b.cells) (rw sizes fits))
