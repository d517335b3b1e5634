-- Looking for wounds: what is not marked after a look was not marked before, and is as it should be.
use Rattle.std.proofs.Common.{◌≡◌, ℕ, ◌<◌, ◌≤◌, Bool, true, false, ◌&&◌, ◌||◌, not, eqb, Ok, Err, Result, List, length, get_or, drop, slice_range, ◌+◌, ◌-◌, ◌*◌, refl, sym, ap, ◌∙◌, inl, inr, arith}
use Rattle.std.proofs.lemmas.Bool.{eq-eqb, both_ways, cases_lt}
use Rattle.std.proofs.lemmas.List.{get_or-drop, get_or-take, length-drop, length-take-le}
use Rattle.toom.specs.declared.shadow.Shadow.{Shadow}
use Rattle.toom.specs.Shadow.{IsShadow, marks, with_mark}
use Rattle.toom.specs.ShadowCalls.{Added}

-- The side stays, and so does each mark.
pub record MarksStay (before after : Shadow) : Type 0 where
  pub side : after.side ≡ before.side
  pub marks : (r c : ℕ) → r < before.side → c < before.side → marks after r c ≡ false → marks before r c ≡ false

pub stay_refl : (s : Shadow) → MarksStay s s
stay_refl s = record { side = refl; marks = λ r c hr hc clear. clear }

pub stay_more : (s t u : Shadow) → MarksStay s t → MarksStay t u → MarksStay s u
stay_more s t u first second = record {
  side = second.side ∙ first.side;
  marks = λ r c hr hc clear. first.marks r c hr hc (second.marks r c (omega (arith, first.side)) (omega (arith, first.side)) clear);
}

pub not_false : (b : Bool) → not b ≡ false → b ≡ true
not_false true e = refl
not_false false e = sym e

or_false : (a b : Bool) → (a || b) ≡ false → (a ≡ false) × (b ≡ false)
or_false true b e = absurd (both_ways _ e refl)
or_false false b e = (refl, e)

-- A place that was added is marked, and each mark stays.
module _ {X Y : Type 0} (s t : Shadow) (row column : ℕ) (hr : row < s.side) (hc : column < s.side) where
  pub added : (r : Result X Y) → Added s row column r t → IsShadow t s.side (with_mark (marks s) row column)
  added (Ok x) a = a.1
  added (Err e) a = absurd (a.0 (hr, hc))

  module _ (r : Result X Y) (a : Added s row column r t) where
    pub added_stay : MarksStay s t
    added_stay = let is = added r a in record {
      side = is.sides;
      marks = λ p q hp hq clear. (or_false (marks s p q) _ (sym (is.places p q hp hq) ∙ clear)).0;
    }

    pub added_other : (q : ℕ) → q < s.side → marks t row q ≡ false → q ≡ column → ⊥
    added_other q hq clear same =
        let is = added r a in
        let b = (or_false (marks s row q) _ (sym (is.places row q hr hq) ∙ clear)).1 in
        both_ways (eqb row row && eqb q column) b (λ i. eq-eqb row row refl i && eq-eqb q column same i)

-- A cell of a part of the memory, and how many cells the part has.
pub part_read : {C : Type 0} (cells : List C) (from n k : ℕ) (d : C) → k < n → get_or (slice_range cells from (from + n)) k d ≡ get_or cells (from + k) d
part_read cells from n k d hk = get_or-take (from + n - from) (drop from cells) k d (omega arith) ∙ get_or-drop from cells k d

pub part_long : {C : Type 0} (cells : List C) (from n : ℕ) → from + n ≤ length cells → length (slice_range cells from (from + n)) ≡ n
part_long cells from n fits = length-take-le (from + n - from) (drop from cells) (omega (arith, length-drop from cells)) ∙ omega arith

-- The first cells of a row are looked at: each is this one, or its place is marked.
module _ {C : Type 0} (cells : List C) (cell : C) where
  abbrev pub CellsLooked : Shadow → (row columns : ℕ) → Type 0
  CellsLooked s row columns = (c : ℕ) (d : C) → c < columns → marks s row c ≡ false → get_or cells c d ≡ cell

  pub cell_more : (s t : Shadow) (row column : ℕ) → MarksStay s t → row < s.side → column < s.side → CellsLooked s row column → ((d : C) → marks t row column ≡ false → get_or cells column d ≡ cell) → CellsLooked t row (column + 1)
  cell_more s t row column stay hr hc before this c d hc' clear = elim (cases_lt c column) [
    | inl l ↦ before c d l (stay.marks row c hr (omega arith) clear)
    | inr h ↦
        let at : c ≡ column = omega arith in
        ap (λ m. get_or cells m d) at ∙ this d (ap (λ m. marks t row m) (sym at) ∙ clear)
  ]

  -- So are those of a plane's first rows.
  abbrev pub RowsLooked : Shadow → (side rows : ℕ) → Type 0
  RowsLooked s side rows = (r c : ℕ) (d : C) → r < rows → c < side → marks s r c ≡ false → get_or cells (r * side + c) d ≡ cell

  pub row_more : (s t : Shadow) (side row : ℕ) → s.side ≡ side → row < side → MarksStay s t → RowsLooked s side row → ((c : ℕ) (d : C) → c < side → marks t row c ≡ false → get_or (slice_range cells (row * side) (row * side + side)) c d ≡ cell) → RowsLooked t side (row + 1)
  row_more s t side row same hr stay before this r c d hr' hc clear = elim (cases_lt r row) [
    | inl l ↦ before r c d l hc (stay.marks r c (omega (arith, same)) (omega (arith, same)) clear)
    | inr h ↦
        let at : r ≡ row = omega arith in
        let place : r * side + c ≡ row * side + c = ap (λ m. m * side + c) at in
        ap (λ m. get_or cells m d) place ∙ sym (part_read cells (row * side) side c d hc)
        ∙ this c d hc (ap (λ m. marks t m c) (sym at) ∙ clear)
  ]
