-- Every place of the memory is a copy, a voted copy, of the line, of the earlier line or beyond: so these settle all cells.
use Rattle.std.proofs.Common.{◌≡◌, ℕ, ◌+◌, ◌-◌, ◌*◌, ◌/◌, ◌%◌, ◌<◌, ◌≤◌, Bool, List, get_or, Option, sym, ap, ◌∙◌, subst, inl, inr, arith}
use Rattle.std.proofs.lemmas.Nat.{div-add-mod', div_below, mod_below, mul-le}
use Rattle.std.proofs.lemmas.List.{same_lists}
use Rattle.std.proofs.lemmas.Bool.{cases_lt}
use Rattle.hosts.specs.Ring.{stepped}
use Rattle.hosts.proofs.Rings.{left_below, right_below}
use Rattle.plate.specs.BeatCall.{CellsBeaten, voted_copies}
use Rattle.plate.specs.LayCall.{CellsLaid}
use Rattle.plate.specs.Layout.{copy_at, voted_at, line_at, earlier_at, size_of}
use Rattle.plate.proofs.Standing.{some_same}

-- The plane, the row and the column of place k among the copies.
by_copy : (n side : ℕ) → 1 ≤ side → (P : ℕ → Type 0) → ((i r c : ℕ) → i < n → r < side → c < side → P (copy_at side i r c))
    → (k : ℕ) → k < n * (side * side) → P k
by_copy n side some P copies k k< =
    let w = side * side in
    let wide : 0 < side * side = omega (arith, mul-le 1 1 side side some some) in
    subst P (ap (λ m. k / w * w + m) (div-add-mod' (k % w) side) ∙ div-add-mod' k w)
    (copies (k / w) (k % w / side) (k % w % side) (div_below k w n wide k<) (div_below (k % w) side side some (mod_below k w wide))
    (mod_below (k % w) side some))

-- What holds at every place of the layout and beyond it holds everywhere.
pub by_place : (n side : ℕ) → 1 ≤ side → (P : ℕ → Type 0)
    → ((i r c : ℕ) → i < n → r < side → c < side → P (copy_at side i r c))
    → ((i r c : ℕ) → i < n → r < side → c < side → P (voted_at n side i r c))
    → ((i : ℕ) → i < n → P (line_at n side i)) → ((i : ℕ) → i < n → P (earlier_at n side i))
    → ((k : ℕ) → size_of n side ≤ k → P k) → (k : ℕ) → P k
by_place n side some P copies voted line earlier beyond k =
    let all = n * (side * side) in
    elim (cases_lt k all) [
      | inl h ↦ by_copy n side some P copies k h
      | inr h ↦ elim (cases_lt k (2 * all)) [
        | inl l ↦
            let at : all + (k - all) ≡ k = omega arith in
            subst P at (by_copy n side some (λ m. P (all + m)) voted (k - all) (omega arith))
        | inr l ↦ elim (cases_lt k (2 * all + n)) [
          | inl m ↦ let at : line_at n side (k - 2 * all) ≡ k = omega arith in subst P at (line (k - 2 * all) (omega arith))
          | inr m ↦ elim (cases_lt k (size_of n side)) [
            | inl o ↦
                let at : earlier_at n side (k - (2 * all + n)) ≡ k = omega arith in
                subst P at (earlier (k - (2 * all + n)) (omega arith))
            | inr o ↦ beyond k o
          ]
        ]
      ]
    ]

-- Two lists have the same element at place k.
abbrev Alike : {C : Type 0} → (xs ys : List C) → ℕ → Type 0
Alike {C} xs ys k = (d : C) → get_or xs k d ≡ get_or ys k d

pub laid_cells_pin : {C : Type 0} (named : ℕ → Option C) (n side : ℕ) (tape : List ℕ) → 1 ≤ side → (before xs ys : List C)
    → CellsLaid named n side tape before xs → CellsLaid named n side tape before ys → xs ≡ ys
laid_cells_pin named n side tape some before xs ys a b =
    same_lists xs ys (a.long ∙ sym b.long) (λ k d h.
    by_place n side some (Alike xs ys)
    (λ i r c i< r< c< d. some_same _ _ (a.copies i r c d i< r< c< ∙ sym (b.copies i r c d i< r< c<)))
    (λ i r c i< r< c< d. some_same _ _ (a.voted i r c d i< r< c< ∙ sym (b.voted i r c d i< r< c<)))
    (λ i i< d. some_same _ _ (a.line i d i< ∙ sym (b.line i d i<)))
    (λ i i< d. some_same _ _ (a.earlier i d i< ∙ sym (b.earlier i d i<)))
    (λ k past d. a.beyond k d past ∙ sym (b.beyond k d past)) k d)

-- The host steps cells that are the same over the ring to the same cell.
stepped_same : {C : Type 0} (host : C → C → C → C) (n : ℕ) (f g : ℕ → C) → ((k : ℕ) → k < n → f k ≡ g k) → (i : ℕ) → i < n
    → stepped host n f i ≡ stepped host n g i
stepped_same host n f g same i i< =
    let left = same _ (left_below n i i<) in
    let own = same i i< in
    let right = same _ (right_below n i i<) in
    λ j. host (left j) (own j) (right j)

module _ {C : Type 0} (equal : C → C → Bool) (host : C → C → C → C) (n side : ℕ) (some : 1 ≤ side) (before xs ys : List C)
    (a : CellsBeaten equal host n side before xs) (b : CellsBeaten equal host n side before ys) where
  -- The voted copies come from the cells before, and the copies from the voted ones.
  votes_pin : (i r c : ℕ) (d : C) → i < n → r < side → c < side → voted_copies xs n side d i r c ≡ voted_copies ys n side d i r c
  votes_pin i r c d i< r< c< = a.votes i r c d i< r< c< ∙ sym (b.votes i r c d i< r< c<)

  steps_pin : (i r c : ℕ) → i < n → r < side → c < side → Alike xs ys (copy_at side i r c)
  steps_pin i r c i< r< c< d =
      a.steps i r c d i< r< c< ∙ stepped_same host n _ _ (λ k k<. votes_pin k r c d k< r< c<) i i< ∙ sym (b.steps i r c d i< r< c<)

  pub beaten_cells_pin : xs ≡ ys
  beaten_cells_pin =
      same_lists xs ys (a.long ∙ sym b.long) (λ k d h.
      by_place n side some (Alike xs ys) steps_pin (λ i r c i< r< c< d. votes_pin i r c d i< r< c<)
      (λ i i< d. a.lines i d i< ∙ sym (b.lines i d i<))
      (λ i i< d. a.earlier i d i< ∙ sym (b.earlier i d i<))
      (λ k past d. a.beyond k d past ∙ sym (b.beyond k d past)) k d)
