-- Planes with the same marks on the torus print and end alike, since they vote and count alike.
use Rattle.std.proofs.Common.{◌≡◌, ℕ, zero, suc, ◌+◌, ◌<◌, Bool, List, [], ◌∷◌, ◌++◌, map, codes, decimal, sym, refl, ap, ◌∙◌, ap₂, arith}
use Rattle.std.specs.Bool.{beq}
use Rattle.std.specs.List.{range_with_len, flat_map}
use Rattle.toom.specs.Torus.{Plane, SameCounts, SameOnTorus}
use Rattle.toom.specs.Vote.{SameVotes}
use Rattle.thin.specs.declared.trace.Ending.{Ending}
use Rattle.thin.specs.declared.trace.Ending.TheVariants.{Empty, Unchanged, StillChanging}
use Rattle.thin.specs.Picture.{mark, row_line, frame}
use Rattle.thin.specs.Trace.{Ends, GoesOn}

-- Functions that agree below n have the same list and the same joined lists over n numbers.
map_same : (f g : ℕ → ℕ) (a n : ℕ) → ((k : ℕ) → k < a + n → f k ≡ g k) → map f (range_with_len a n) ≡ map g (range_with_len a n)
map_same f g a zero h = refl
map_same f g a (suc n) h = ap₂ ◌∷◌ (h a (omega arith)) (map_same f g (a + 1) n (λ k l. h k (omega arith)))

joined_same : (f g : ℕ → List ℕ) (a n : ℕ) → ((k : ℕ) → k < a + n → f k ≡ g k)
    → flat_map f (range_with_len a n) ≡ flat_map g (range_with_len a n)
joined_same f g a zero h = refl
joined_same f g a (suc n) h = ap₂ ◌++◌ (h a (omega arith)) (joined_same f g (a + 1) n (λ k l. h k (omega arith)))

module _ (counts : SameCounts) {side : ℕ} {p q : Plane Bool} (same : SameOnTorus side p q) where
  pub frame_same : frame side p ≡ frame side q
  frame_same =
      ap₂ ◌++◌
      (joined_same (row_line side p) (row_line side q) 0 side (λ r h. ap (λ l. l ++ (10 ∷ [])) (map_same _ _ 0 side (λ c k. ap mark (same r c (omega arith) (omega arith))))))
      (ap (λ n. codes "count " ++ (decimal n ++ (10 ∷ []))) (counts side p q same))

-- It goes both ways.
same_sym : {side : ℕ} {p q : Plane Bool} → SameOnTorus side p q → SameOnTorus side q p
same_sym same r c h k = sym (same r c h k)

module _ (same_votes : SameVotes beq) (counts : SameCounts) where
  pub ends_same : {side : ℕ} {p q : Plane Bool} → SameOnTorus side p q → (votes : ℕ) (ending : Ending) → Ends side p votes ending → Ends side q votes ending
  ends_same {side} {p} {q} same votes Empty e = sym (counts side p q same) ∙ e
  ends_same {side} {p} {q} same votes Unchanged e =
      (λ none. e.0 (counts side p q same ∙ none), λ r c h k. same_votes side q p (same_sym same) r c h k ∙ e.1 r c h k ∙ same r c h k)
  ends_same {side} {p} {q} same votes StillChanging e = (
    e.0,
    λ none. e.1 (counts side p q same ∙ none),
    λ stays. e.2 (λ r c h k. same_votes side p q same r c h k ∙ stays r c h k ∙ sym (same r c h k)),
  )

  pub goes_on_same : {side : ℕ} {p q : Plane Bool} → SameOnTorus side p q → (votes : ℕ) → GoesOn side p votes → GoesOn side q votes
  goes_on_same same votes on ending e = on ending (ends_same (same_sym same) votes ending e)
