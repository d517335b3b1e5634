-- Shadows of the same side and the same rows are equal, so their sameness is an equivalence.
use Rattle.std.specs.Prelude.{◌≡◌, ℕ, ◌≤◌, ◌==◌, nat_eq, length, slice_index}
use Rattle.std.specs.Bool.{Decides}
use Rattle.std.specs.Cmp.{IsPartialEquivalence, partial_equiv_from_equiv, decided}
use Rattle.std.specs.Cmp.Derive.{both_true}
use Rattle.std.specs.Cmp.Lexicographic.{pointwise}
use mathlib.Core.HLevel.{is_prop→PathP, ×_prop, Π_prop}
use Rattle.std.proofs.Math.Bridge.{le_prop}
use Rattle.std.proofs.Math.Nat.{ℕ_set}
use Rattle.std.proofs.Common.{ap, refl, eq-eqb}
use Rattle.std.proofs.lemmas.Bool.{and_parts, eqb-true}
use Rattle.std.proofs.lemmas.Bool.Decides.{Decides-eqb}
use Rattle.std.proofs.lemmas.Slice.Eq.{slice_eq-Decides}
use Rattle.toom.specs.declared.shadow.Shadow.{Shadow}
use Rattle.toom.specs.Rows.{Narrow}
use Rattle.toom.specs.Torus.{Side}
use Rattle.toom.specs.Shadow.{equal_shadows}

-- Shadows of the same side and the same rows are equal.
pub shadows_equal : (s t : Shadow) → s.side ≡ t.side → s.rows ≡ t.rows → s ≡ t
shadows_equal s t p q = λ i. record {
  side = p i;
  rows = q i;
  sized = is_prop→PathP (λ j. Side (p j)) (λ j. ×_prop le_prop le_prop) s.sized t.sized i;
  tall = is_prop→PathP (λ j. length (q j) ≡ 64) (λ j. ℕ_set _ _) s.tall t.tall i;
  narrow = is_prop→PathP (λ j. (r : ℕ) → Narrow (p j) (slice_index (q j) r)) (λ j. Π_prop (λ r. ×_prop le_prop (ℕ_set _ _))) s.narrow t.narrow i;
  beyond = is_prop→PathP (λ j. (r : ℕ) → p j ≤ r → slice_index (q j) r ≡ 0) (λ j. Π_prop (λ r. Π_prop (λ h. ℕ_set _ _))) s.beyond t.beyond i;
}

-- The sameness of shadows decides their equality.
pub equal_shadows_decides : (s t : Shadow) → Decides (equal_shadows s t) (s ≡ t)
equal_shadows_decides s t =
    let rows = slice_eq-Decides Decides-eqb s.rows t.rows (pointwise nat_eq s.rows t.rows) refl in (
      λ e. let parts = and_parts (s.side == t.side) (pointwise nat_eq s.rows t.rows) e in
          shadows_equal s t (eqb-true _ _ parts.0) (rows.0 parts.1),
      λ e. both_true (eq-eqb _ _ (ap (λ x. x.side) e)) (rows.1 (ap (λ x. x.rows) e)),
    )

-- What the `==` of shadows owes, since it is written by hand.
pub equal_shadows_laws : IsPartialEquivalence equal_shadows
equal_shadows_laws = partial_equiv_from_equiv (decided equal_shadows equal_shadows_decides)
