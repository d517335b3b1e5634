-- A text, read line by line.
use Rattle.std.proofs.Common.{◌≡◌, ℕ, ◌+◌, ◌<◌, Bool, true, false, ◌||◌, List, ◌∷◌, length, None, sym, refl, ap, ◌∙◌, subst, arith}
use Rattle.toom.specs.declared.shadow.Shadow.{Shadow}
use Rattle.toom.specs.Shadow.{marks, side_of_shadow, IsShadow}
use Rattle.thin.specs.Input.{place_fault, says, some_line_says, at_line, places_fault, first_fault, Described}
use Rattle.thin.specs.Words.{words}

or_assoc : (a b c : Bool) → ((a || b) || c) ≡ (a || (b || c))
or_assoc true b c = refl
or_assoc false b c = refl

-- The lines up to line n are read and without fault, and their places are those of the shadow. The rest is still to be read.
pub record ReadTo (all : List (List ℕ)) (shadow : Shadow) (n : ℕ) (rest : List (List ℕ)) : Type 0 where
  pub fault : first_fault all ≡ places_fault (side_of_shadow shadow) (n + 1) rest
  pub described : (t : Shadow) → IsShadow t (side_of_shadow shadow) (λ r c. marks shadow r c || some_line_says rest r c) → Described all t
  pub count : n + length rest ≡ length all

module _ {all rest : List (List ℕ)} {shadow : Shadow} {n : ℕ} (old : ReadTo all shadow n rest) where
  pub place_read : {line : List ℕ} {later : List (List ℕ)} (after : Shadow) → rest ≡ line ∷ later
      → place_fault (side_of_shadow shadow) (words line) ≡ None → IsShadow after (side_of_shadow shadow) (λ r c. marks shadow r c || says (words line) r c)
      → ReadTo all after (n + 1) later
  place_read {line} {later} after cut e is = record {
    fault =
        old.fault ∙ ap (places_fault (side_of_shadow shadow) (n + 1)) cut
        ∙ ap (λ o. at_line (n + 1) o (places_fault (side_of_shadow shadow) (n + 1 + 1) later)) e
        ∙ ap (λ side. places_fault side (n + 1 + 1) later) (sym is.sides);
    described = λ t a. old.described t (subst (λ l. IsShadow t (side_of_shadow shadow) (λ r c. marks shadow r c || some_line_says l r c)) (sym cut) (record {
      sides = a.sides ∙ is.sides;
      places = λ r c h k.
          subst (λ side. r < side → c < side → marks t r c ≡ (marks after r c || some_line_says later r c)) is.sides (a.places r c) h k
          ∙ ap (λ b. b || some_line_says later r c) (is.places r c h k)
          ∙ or_assoc (marks shadow r c) (says (words line) r c) (some_line_says later r c);
    }));
    count = omega (arith, ap length cut, old.count);
  }
