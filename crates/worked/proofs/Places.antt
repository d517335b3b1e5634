-- The places of a torus, compared all at once.
use Rattle.std.proofs.Common.{◌≡◌, ℕ, zero, suc, ◌<◌, Bool, false, List, [], map, get_or, sym, refl, ap, ◌∙◌, arith}
use Rattle.std.proofs.lemmas.List.FromFn.{get_or-map-range_with_len}
use Rattle.std.specs.Bool.{beq}
use Rattle.std.specs.List.{range_with_len}
use Rattle.toom.specs.Torus.{Plane, SameOnTorus}
use Rattle.toom.specs.Vote.{SameVotes, thinned, thinned_by}

-- The marks, row by row.
abbrev pub picture : ℕ → Plane Bool → List (List Bool)
picture side plane = map (λ r. map (plane r) (range_with_len 0 side)) (range_with_len 0 side)

in_picture : (side : ℕ) (plane : Plane Bool) (r c : ℕ) → r < side → c < side → get_or (get_or (picture side plane) r []) c false ≡ plane r c
in_picture side plane r c r< c< =
    ap (λ row. get_or row c false) (get_or-map-range_with_len (λ p. map (plane p) (range_with_len 0 side)) 0 side r r [] r< (omega arith))
    ∙ get_or-map-range_with_len (plane r) 0 side c c false c< (omega arith)

-- Shadows of the same picture have the same places.
pub same_marks : (side : ℕ) (p q : Plane Bool) → picture side p ≡ picture side q → SameOnTorus side p q
same_marks side p q same r c r< c< =
    sym (in_picture side p r c r< c<) ∙ ap (λ s. get_or (get_or s r []) c false) same ∙ in_picture side q r c r< c<

-- A shadow that one vote leaves as it is, every number of votes does.
pub stays : SameVotes beq → (side : ℕ) (shadow : Plane Bool) → SameOnTorus side (thinned side shadow) shadow
    → (j : ℕ) → SameOnTorus side (thinned_by j side shadow) shadow
stays same_votes side shadow once zero r c r< c< = refl
stays same_votes side shadow once (suc j) r c r< c< =
    same_votes side _ shadow (stays same_votes side shadow once j) r c r< c< ∙ once r c r< c<
