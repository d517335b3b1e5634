-- The majority of cells: unlike cells paired off, and the count of what is left over.
use Rattle.std.proofs.Common.{◌≡◌, ℕ, ◌+◌, ◌-◌, ◌*◌, ◌<◌, ◌≤◌, Bool, true, false, cond, ltb, List, [], ◌∷◌, ◌++◌, length, get_or, take, Some, None, sym, refl, ap, ◌∙◌, subst, inl, inr, arith}
use Rattle.std.proofs.lemmas.List.{length_push, take_more}
use Rattle.std.proofs.lemmas.List.Sums.{sum_by-cons, sum_by_push}
use Rattle.std.proofs.lemmas.Bool.{cases_Bool, cond-true, cond-false, ltb-true, lt-ltb, le-ltb}
use Rattle.plate.specs.ReadCall.{holders, majority_among, majority_of}

-- Of the cells seen, unlike ones are paired off, and `left` cells, all like `cell`, are left over.
abbrev pub Paired : {C : Type 0} → (C → C → Bool) → (cell : C) (left : ℕ) (seen : List C) → Type 0
Paired {C} equal cell left seen =
    (y : C) → 2 * holders equal y seen + cond (equal y cell) 0 left ≤ length seen + cond (equal y cell) left 0

-- The same of equals.
pub paired_at : {C : Type 0} (equal : C → C → Bool) (cell cell' : C) (left left' : ℕ) (seen seen' : List C)
    → cell ≡ cell' → left ≡ left' → seen ≡ seen' → Paired equal cell' left' seen' → Paired equal cell left seen
paired_at equal cell cell' left left' seen seen' p q r h =
    subst (λ s. Paired equal cell left s) (sym r)
    (subst (λ n. Paired equal cell n seen') (sym q) (subst (λ z. Paired equal z left' seen') (sym p) h))

-- A loop over a plane reads a cell more.
pub read_more : {C : Type 0} (plane : List C) (i : ℕ) (x : C) → i < length plane → x ≡ get_or plane i x → take (i + 1) plane ≡ take i plane ++ x ∷ []
read_more plane i x h is = take_more plane i x h ∙ ap (λ y. take i plane ++ y ∷ []) (sym is)

module _ {C : Type 0} (equal : C → C → Bool) (exact : (x y : C) → equal x y ≡ true → x ≡ y) where
  symmetric : (x y : C) → equal x y ≡ equal y x
  symmetric x y =
      elim (cases_Bool (equal x y)) [
        | inl e ↦ ap (λ z. equal z y) (exact x y e) ∙ ap (equal y) (sym (exact x y e))
        | inr n ↦
            elim (cases_Bool (equal y x)) [
              | inl e ↦ ap (λ z. equal x z) (exact y x e) ∙ ap (λ z. equal z x) (sym (exact y x e))
              | inr m ↦ n ∙ sym m
            ]
      ]

  -- One cell more is held once more by the cells like it.
  holders_push : (y x : C) (seen : List C) → holders equal y (seen ++ x ∷ []) ≡ holders equal y seen + cond (equal x y) 1 0
  holders_push y x seen = sum_by_push (λ z. cond (equal z y) 1 0) seen x

  module _ (cell : C) (left : ℕ) (seen : List C) (inv : Paired equal cell left seen) (x : C) where
    -- With none left over, the new cell is.
    pub paired_first : left ≡ 0 → Paired equal x 1 (seen ++ x ∷ [])
    paired_first none y =
        let h = inv y in
        rw (holders_push y x seen, symmetric x y, length_push seen x)
        (grind (arith, cases_Bool (equal y x), cases_Bool (equal y cell)))

    -- A like cell is left over too.
    pub paired_like : equal x cell ≡ true → Paired equal cell (left + 1) (seen ++ x ∷ [])
    paired_like like y =
        let h = inv y in
        let same : equal y x ≡ equal y cell = ap (equal y) (exact x cell like) in
        rw (holders_push y x seen, symmetric x y, same, length_push seen x) (grind (arith, cases_Bool (equal y cell)))

    -- An unlike cell is paired off with one that was left over.
    pub paired_unlike : equal x cell ≡ false → 1 ≤ left → Paired equal cell (left - 1) (seen ++ x ∷ [])
    paired_unlike unlike some y =
        let h = inv y in
        let apart : equal y cell ≡ true → equal x y ≡ false = λ e. ap (equal x) (exact y cell e) ∙ unlike in
        rw (holders_push y x seen, length_push seen x) (grind (arith, cases_Bool (equal y cell), cases_Bool (equal x y), apart))

  -- What more than half of the cells are is what is left over.
  pub left_over : (cell : C) (left : ℕ) (cells : List C) → Paired equal cell left cells
      → (y : C) → length cells < 2 * holders equal y cells → y ≡ cell
  left_over cell left cells inv y most =
      elim (cases_Bool (equal y cell)) [
        | inl e ↦ exact y cell e
        | inr e ↦ let h = inv y in absurd (grind arith)
      ]

  module _ (cells : List C) (cell : C) (only : (y : C) → length cells < 2 * holders equal y cells → y ≡ cell) where
    abbrev most : C → Bool
    most y = ltb (length cells) (2 * holders equal y cells)

    only_cell : (y : C) → most y ≡ true → y ≡ cell
    only_cell y e = only y (ltb-true (length cells) (2 * holders equal y cells) e)

    -- A candidate that does not pass is not the cell.
    later : most cell ≡ true → (x : C) (xs : List C) → most x ≡ false → holders equal cell (x ∷ xs) ≡ holders equal cell xs
    later most-are x xs no-most =
        sum_by-cons (λ y. cond (equal y cell) 1 0) x xs
        ∙ elim (cases_Bool (equal x cell)) [
          | inl e ↦ let z : true ≡ false = sym most-are ∙ ap most (sym (exact x cell e)) ∙ no-most in absurd (grind arith)
          | inr e ↦ rw e (omega arith)
        ]

    -- The cell is among the candidates, so the first that passes is the cell.
    among_some : most cell ≡ true → (candidates : List C) → 0 < holders equal cell candidates
        → majority_among equal cells candidates ≡ Some cell
    among_some most-are [] held = absurd (omega arith)
    among_some most-are (x ∷ xs) held =
        elim (cases_Bool (most x)) [
          | inl e ↦ cond-true (most x) (Some x) _ e ∙ ap (λ y. Some y) (only_cell x e)
          | inr e ↦
              cond-false (most x) (Some x) _ e
              ∙ among_some most-are xs (omega (arith, later most-are x xs e))
        ]

    -- No candidate passes.
    among_none : most cell ≡ false → (candidates : List C) → majority_among equal cells candidates ≡ None
    among_none none [] = refl
    among_none none (x ∷ xs) =
        elim (cases_Bool (most x)) [
          | inl e ↦ let z : true ≡ false = sym e ∙ ap most (only_cell x e) ∙ none in absurd (grind arith)
          | inr e ↦ cond-false (most x) (Some x) _ e ∙ among_none none xs
        ]

    pub majority_some : length cells < 2 * holders equal cell cells → majority_of equal cells ≡ Some cell
    majority_some more = among_some (lt-ltb (length cells) (2 * holders equal cell cells) more) cells (omega arith)

    pub majority_none : 2 * holders equal cell cells ≤ length cells → majority_of equal cells ≡ None
    majority_none less = among_none (le-ltb (length cells) (2 * holders equal cell cells) less) cells
