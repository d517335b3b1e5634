-- Text that grows by one mark, by one row and by one frame.
use Rattle.std.proofs.Common.{◌≡◌, ℕ, ◌+◌, Bool, List, [], ◌∷◌, ◌++◌, sym, ap, ◌∙◌, arith}
use Rattle.std.specs.List.{range_with_len, flat_map}
use Rattle.std.proofs.lemmas.List.FromFn.{map-range_with_len_more}
use Rattle.std.proofs.lemmas.List.{append_assoc, flat_map_more, map-id}
use Rattle.toom.specs.Torus.{Plane}
use Rattle.thin.specs.Picture.{mark, row_marks}

pub row_more : (plane : Plane Bool) (row n : ℕ) {after : List ℕ} (before more : List ℕ)
    → after ≡ (before ++ row_marks plane row n) ++ more → more ≡ mark (plane row n) ∷ []
    → after ≡ before ++ row_marks plane row (n + 1)
row_more plane row n before more e m =
    e ∙ append_assoc before (row_marks plane row n) more
    ∙ ap (λ l. before ++ l) (ap (λ l. row_marks plane row n ++ l) m ∙ sym (map-range_with_len_more (λ c. mark (plane row c)) 0 n n (omega arith)))

counting_more : (n : ℕ) → range_with_len 0 (n + 1) ≡ range_with_len 0 n ++ (n ∷ [])
counting_more n =
    sym (map-id (range_with_len 0 (n + 1))) ∙ map-range_with_len_more (λ k. k) 0 n n (omega arith) ∙ ap (λ l. l ++ (n ∷ [])) (map-id (range_with_len 0 n))

pub joined_counting : (f : ℕ → List ℕ) (before : List ℕ) (n : ℕ)
    → (before ++ flat_map f (range_with_len 0 n)) ++ f n ≡ before ++ flat_map f (range_with_len 0 (n + 1))
joined_counting f before n =
    flat_map_more f before (range_with_len 0 n) n ∙ sym (ap (λ l. before ++ flat_map f l) (counting_more n))

pub joined_more_row : (f : ℕ → List ℕ) (before : List ℕ) (n : ℕ) {was after : List ℕ}
    → was ≡ before ++ flat_map f (range_with_len 0 n) → after ≡ was ++ f n → after ≡ before ++ flat_map f (range_with_len 0 (n + 1))
joined_more_row f before n e h = h ∙ ap (λ l. l ++ f n) e ∙ joined_counting f before n
