-- What a plate keeps is its planes, its age and its shadow, and a plate is what it keeps and its cells.
use mathlib.Core.HLevel.{is_prop→PathP}
use Rattle.std.proofs.Common.{◌≡◌, ◌≤◌, Some, sym, ap, ◌∙◌}
use native.Mathlib.Bridge.{le_prop}
use Rattle.plate.specs.declared.laid.Laid.{Laid}
use Rattle.plate.specs.Board.{Board, standing}
use Rattle.plate.proofs.Standing.{some_same}

pub laids_equal : (l m : Laid) → l.planes ≡ m.planes → l.age ≡ m.age → l.shadow ≡ m.shadow → l ≡ m
laids_equal l m p q s = λ i. record {
  planes = p i;
  age = q i;
  shadow = s i;
  some = is_prop→PathP (λ j. 1 ≤ p j) (λ j. le_prop) l.some m.some i;
  few = is_prop→PathP (λ j. p j ≤ 4096) (λ j. le_prop) l.few m.few i;
  young = is_prop→PathP (λ j. q j ≤ 1048575) (λ j. le_prop) l.young m.young i;
}

pub boards_equal : {C : Type 0} (a b : Board C) (l m : Laid) → a.laid ≡ Some l → b.laid ≡ Some m → l ≡ m → a.cells ≡ b.cells → a ≡ b
boards_equal a b l m p q same cells = λ i. record { laid = (p ∙ ap Some same ∙ sym q) i; cells = cells i }

-- What stands is one.
pub one_stands : {C : Type 0} (b : Board C) (l m : Laid) → standing b ≡ Some l → standing b ≡ Some m → l ≡ m
one_stands b l m p q = some_same l m (sym p ∙ q)
