-- The text that a shadow's thinning prints: the shadow after each vote, and how it ends.
use Rattle.std.specs.Prelude.{◌≡◌, ℕ, ◌+◌, ◌*◌, ◌<◌, Bool, List, [], ◌∷◌, ◌++◌, codes, decimal}
use Rattle.std.specs.List.{range_with_len, flat_map}
use Rattle.toom.specs.Torus.{Plane, Everywhere, count_marks}
use Rattle.toom.specs.Vote.{thinned, thinned_by}
use Rattle.thin.specs.declared.trace.Ending.{Ending}
use Rattle.thin.specs.declared.trace.Ending.TheVariants.{Empty, Unchanged, StillChanging}
use Rattle.thin.specs.Picture.{frame}

-- No place is marked.
abbrev pub NoMarks : ℕ → Plane Bool → Type 0
NoMarks side plane = count_marks side plane ≡ 0

-- One more vote gives the same marks.
abbrev pub Stays : ℕ → Plane Bool → Type 0
Stays side plane = Everywhere side (λ r c. thinned side plane r c ≡ plane r c)

-- How a thinning ends that has come to this plane by so many votes.
abbrev pub Ends : ℕ → Plane Bool → (votes : ℕ) → Ending → Type 0
Ends side plane votes Empty = NoMarks side plane
Ends side plane votes Unchanged = (NoMarks side plane → ⊥) × Stays side plane
Ends side plane votes StillChanging = (votes ≡ side * side) × (NoMarks side plane → ⊥) × (Stays side plane → ⊥)

-- It does not end at this plane.
abbrev pub GoesOn : ℕ → Plane Bool → (votes : ℕ) → Type 0
GoesOn side plane votes = (ending : Ending) → Ends side plane votes ending → ⊥

-- What the last line calls an ending.
abbrev pub ending_name : Ending → List ℕ
ending_name Empty = codes "empty"
ending_name Unchanged = codes "unchanged"
ending_name StillChanging = codes "still changing"

-- The last line.
abbrev pub ending_line : Ending → (votes : ℕ) → List ℕ
ending_line ending votes =
    ending_name ending ++ (codes " after " ++ (decimal votes ++ (codes " votes" ++ (10 ∷ []))))

-- What is printed of the plane after 0, 1, .., n - 1 votes.
abbrev pub frames : ℕ → Plane Bool → (n : ℕ) → List ℕ
frames side plane n = flat_map (λ j. frame side (thinned_by j side plane)) (range_with_len 0 n)

-- The text of a thinning: each plane up to the first at which it ends, and how it ends there.
pub record Thinning (side : ℕ) (plane : Plane Bool) (text : List ℕ) : Type 0 where
  pub votes : ℕ
  pub ending : Ending
  pub ends : Ends side (thinned_by votes side plane) votes ending
  pub first : (j : ℕ) → j < votes → GoesOn side (thinned_by j side plane) j
  pub whole : text ≡ frames side plane (votes + 1) ++ ending_line ending votes

-- A plane has one such text at most.
abbrev pub ThinningPins : Type 0
ThinningPins = (side : ℕ) (plane : Plane Bool) (s t : List ℕ) → Thinning side plane s → Thinning side plane t → s ≡ t
