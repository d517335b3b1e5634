-- The loop that votes the rows in place: below r they are voted, the others still old.
use Rattle.std.proofs.Common.{◌≡◌, ℕ, ◌+◌, ◌%◌, ◌<◌, ◌≤◌, ◌≢◌, List, length, get_or, set, sym, ap, ◌∙◌, subst, inl, inr, mod-eq_of_lt, arith, below_more}
use native.Mathlib.Nat.{mod_self}
use Rattle.std.proofs.lemmas.List.{get_or-set_same, get_or-set_other}
use Rattle.std.proofs.lemmas.Bool.{cases_lt}
use Rattle.toom.specs.Rows.{RowVote, RowsVote}
use Rattle.toom.specs.Torus.{next}

module _ (side : ℕ) (old : List ℕ) where
  abbrev pub VotedBelow : (r : ℕ) (rows : List ℕ) → Type 0
  VotedBelow r rows =
      ((k : ℕ) → k < r → RowVote side (get_or old k 0) (get_or old (k + 1) 0) (get_or rows k 0))
      × ((k : ℕ) → r ≤ k → get_or rows k 0 ≡ get_or old k 0)

  -- The vote of row r from rows that are still old is that of the old rows.
  from_old : (r n w : ℕ) (rows : List ℕ) → VotedBelow r rows → (north : ℕ) → north ≡ get_or old n 0
      → RowVote side (get_or rows r 0) north w → RowVote side (get_or old r 0) (get_or old n 0) w
  from_old r n w rows inv north e v =
      subst (λ x. RowVote side x (get_or old n 0) w) (inv.1 r (omega arith)) (subst (λ x. RowVote side (get_or rows r 0) x w) e v)

  module _ (r w : ℕ) (rows : List ℕ) (within : r < length rows) (inv : VotedBelow r rows) where
    others : (k : ℕ) → k ≢ r → get_or (set rows r w) k 0 ≡ get_or rows k 0
    others k n = get_or-set_other rows r k w 0 n

    here : get_or (set rows r w) r 0 ≡ w
    here = get_or-set_same rows r w 0 within

    pub voted_more : RowVote side (get_or rows r 0) (get_or rows (r + 1) 0) w → VotedBelow (r + 1) (set rows r w)
    voted_more v = (
      below_more (λ k. RowVote side (get_or old k 0) (get_or old (k + 1) 0) (get_or (set rows r w) k 0)) r
          (λ k h. subst (λ x. RowVote side (get_or old k 0) (get_or old (k + 1) 0) x) (sym (others k (omega arith))) (inv.0 k h))
          (subst (λ x. RowVote side (get_or old r 0) (get_or old (r + 1) 0) x) (sym here)
          (from_old r (r + 1) w rows inv (get_or rows (r + 1) 0) (inv.1 (r + 1) (omega arith)) v)),
      λ k h. others k (omega arith) ∙ inv.1 k (omega arith),
    )

    pub voted_all : r + 1 ≡ side → RowVote side (get_or rows r 0) (get_or old 0 0) w → RowsVote side old (set rows r w)
    voted_all last v = record { torus = torus; beyond = λ k h. others k (omega arith) ∙ inv.1 k (omega arith) }
      where
        torus : (k : ℕ) → k < side → RowVote side (get_or old k 0) (get_or old (next side k) 0) (get_or (set rows r w) k 0)
        torus k h =
            elim (cases_lt k r) [
              | inl l ↦
                  subst (λ n. RowVote side (get_or old k 0) (get_or old n 0) (get_or (set rows r w) k 0)) (sym (mod-eq_of_lt (let b : k + 1 < side = omega arith in b)))
                  (subst (λ x. RowVote side (get_or old k 0) (get_or old (k + 1) 0) x) (sym (others k (omega arith))) (inv.0 k l))
              | inr g ↦
                  let same : r ≡ k = omega arith in
                  let wraps : 0 ≡ next side r = sym (ap (λ n. n % side) last ∙ mod_self side) in
                  subst (λ n. RowVote side (get_or old n 0) (get_or old (next side n) 0) (get_or (set rows r w) n 0)) same
                  (subst (λ x. RowVote side (get_or old r 0) (get_or old (next side r) 0) x) (sym here)
                  (subst (λ n. RowVote side (get_or old r 0) (get_or old n 0) w) wraps (from_old r 0 w rows inv (get_or old 0 0) (λ i. get_or old 0 0) v)))
            ]
