-- Questions about the planes, and the reading of one plane more.
use Rattle.std.proofs.Common.{◌≡◌, ℕ, ◌+◌, ◌<◌, Bool, List, [], ◌∷◌, ◌++◌, map, length, get_or, true, false, drop, set, is_some, Some, None, Option, unwrap_or, sym, ap, ap₂, ◌∙◌, append_assoc, arith}
use Rattle.std.proofs.lemmas.Bool.{cond-true, cond-false}
use Rattle.std.proofs.lemmas.List.FromFn.{length-map-range_with_len, map-range_with_len_more}
use Rattle.std.proofs.lemmas.List.{drop_more, set_at}
use Rattle.std.specs.List.{range_with_len}
use Rattle.std.specs.Option.{option_map}
use Rattle.plate.specs.Board.{plane_of}
use Rattle.plate.specs.ReadCall.{plane_question, majority_of, read_refusal}

-- A list that is f of each index up to i, the rest as it was: one index more.
pub swept_more : {X : Type 0} (f : ℕ → X) (old out : List X) (i k : ℕ) (d x : X) → out ≡ map f (range_with_len 0 i) ++ drop i old → k ≡ i
    → i < length old → x ≡ f i → set out k x ≡ map f (range_with_len 0 (i + 1)) ++ drop (i + 1) old
swept_more f old out i k d x so_far at h e =
    ap₂ (λ ys j. set ys j x) so_far at
    ∙ ap (λ rest. set (map f (range_with_len 0 i) ++ rest) i x) (drop_more old i d h)
    ∙ set_at (map f (range_with_len 0 i)) (get_or old i d) (drop (i + 1) old) x i (length-map-range_with_len f 0 i)
    ∙ ap (λ y. map f (range_with_len 0 i) ++ y ∷ drop (i + 1) old) e
    ∙ sym (append_assoc (map f (range_with_len 0 i)) (f i ∷ []) (drop (i + 1) old))
    ∙ ap (λ xs. xs ++ drop (i + 1) old) (sym (map-range_with_len_more f 0 i i (omega arith)))

module _ {C : Type 0} (equal : C → C → Bool) (cells : List C) (side i : ℕ) (plane : List C) (is : plane ≡ plane_of cells side i)
    (o : Option C) (e : o ≡ majority_of equal plane) where
  majority_there : majority_of equal (plane_of cells side i) ≡ o
  majority_there = sym (e ∙ ap (majority_of equal) is)

  some_there : is_some (majority_of equal (plane_of cells side i)) ≡ is_some o
  some_there = ap is_some majority_there

  pub whole : is_some o ≡ true → plane_question equal cells side i ≡ None
  whole some = cond-true _ _ _ (some_there ∙ some)

  pub split : is_some o ≡ false → plane_question equal cells side i ≡ Some (read_refusal 16 i)
  split none = cond-false _ _ _ (some_there ∙ none)

  pub reads : (byte : C → ℕ) → unwrap_or (option_map byte o) 0 ≡ unwrap_or (option_map byte (majority_of equal (plane_of cells side i))) 0
  reads byte = ap (λ p. unwrap_or (option_map byte p) 0) (sym majority_there)
