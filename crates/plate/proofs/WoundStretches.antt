-- Places written stretch by stretch, in the order of their reader.
use Rattle.std.proofs.Common.{◌≡◌, ℕ, ◌+◌, ◌<◌, ◌≤◌, ◌⊎◌, true, List, Some, None, ap, ◌∙◌, subst, inl, inr, arith}
use Rattle.std.proofs.lemmas.Bool.{both_ways, cases_lt}
use Rattle.toom.specs.declared.shadow.Shadow.{Shadow}
use Rattle.toom.specs.declared.shadow.stretches.Stretch.{Stretch}
use Rattle.toom.specs.declared.shadow.stretches.Stretches.{Stretches}
use Rattle.toom.specs.Shadow.{marks}
use Rattle.toom.specs.Stretches.{Before, ClearFrom, FirstStretch, YieldsStretch}
use Rattle.plate.specs.Wounds.{InStretch, Marked, PlacesWritten}
use Rattle.plate.proofs.WrittenPlaces.{written_join, written_same}

-- A place comes before another, or it does not.
before_cases : (r c row column : ℕ) → Before r c row column ⊎ (Before r c row column → ⊥)
before_cases r c row column =
    elim (cases_lt r row) [
      | inl l ↦ inl (inl l)
      | inr g ↦
          elim (cases_lt row r) [
            | inl l ↦ inr (λ b. elim b [ inl x ↦ omega arith | inr y ↦ omega (arith, y.0) ])
            | inr h ↦
                let same : r ≡ row = omega arith in
                elim (cases_lt c column) [
                  | inl l ↦ inl (inr (same, l))
                  | inr far ↦ inr (λ b. elim b [ inl x ↦ omega arith | inr y ↦ omega (arith, y.1) ])
                ]
          ]
    ]

-- What comes before a place comes before each that is not before it.
before_onwards : (r c row column p q : ℕ) → Before r c row column → (Before p q row column → ⊥) → Before r c p q
before_onwards r c row column p q b onwards =
    elim (cases_lt p row) [
      | inl l ↦ absurd (onwards (inl l))
      | inr g ↦
          elim (cases_lt row p) [
            | inl l ↦ inl (elim b [ inl x ↦ omega arith | inr y ↦ omega (arith, y.0) ])
            | inr h ↦
                let same : p ≡ row = omega arith in
                elim (cases_lt q column) [
                  | inl l ↦ absurd (onwards (inr (same, l)))
                  | inr far ↦ elim b [ inl x ↦ inl (omega arith) | inr y ↦ inr (omega (arith, y.0), omega (arith, y.1)) ]
                ]
          ]
    ]

-- The marked places before the reader's place.
abbrev pub Passed : Shadow → Stretches → (r c : ℕ) → Type 0
Passed s at r c = (marks s r c ≡ true) × Before r c at.row at.column

-- The reader yields one more stretch.
module _ (s : Shadow) (at next : Stretches) (of_it : at.shadow.now ≡ s) (x : Stretch) (y : YieldsStretch at (Some x) next) where
  pub first_of : FirstStretch s at.row at.column x
  first_of = subst (λ t. FirstStretch t at.row at.column x) of_it y.0

  -- It stands right behind the stretch.
  behind : (r c : ℕ) → Before r c next.row next.column → Before r c x.row (x.column + x.length)
  behind r c p = elim p [ inl l ↦ inl (omega (arith, y.2)) | inr e ↦ inr (omega (arith, y.2, e.0), omega (arith, y.3, e.1)) ]

  not_passed : (r c : ℕ) → r < s.side → c < s.side → marks s r c ≡ true → Before r c x.row x.column → Before r c at.row at.column
  not_passed r c hr hc marked p =
      elim (before_cases r c at.row at.column) [
        | inl b ↦ b
        | inr out ↦ absurd (both_ways _ (first_of.clear r c hr hc out p) marked)
      ]

  -- What it has passed then, it had passed before, or it is of the stretch.
  pub passed_splits : (r c : ℕ) → r < s.side → c < s.side → Passed s next r c → Passed s at r c ⊎ ((r ≡ x.row) × ((x.column ≤ c) × (c < x.column + x.length)))
  passed_splits r c hr hc p =
      elim (behind r c p.1) [
        | inl l ↦ inl (p.0, not_passed r c hr hc p.0 (inl l))
        | inr e ↦
            elim (cases_lt c x.column) [
              | inl l ↦ inl (p.0, not_passed r c hr hc p.0 (inr (e.0, l)))
              | inr g ↦ inr (e.0, (g, e.1))
            ]
      ]

-- After the last stretch all marked places are passed.
pub all_passed : (s : Shadow) (at next : Stretches) → at.shadow.now ≡ s → YieldsStretch at None next
    → (r c : ℕ) → r < s.side → c < s.side → marks s r c ≡ true → Passed s at r c
all_passed s at next of_it y r c hr hc marked =
    elim (before_cases r c at.row at.column) [
      | inl b ↦ (marked, b)
      | inr out ↦ absurd (both_ways _ (clear r c hr hc out) marked)
    ]
  where
    clear : ClearFrom s at.row at.column
    clear = subst (λ t. ClearFrom t at.row at.column) of_it y.0

module _ {C : Type 0} (n side base : ℕ) (at-of : (i r c : ℕ) → ℕ) (value : (i r c : ℕ) → C → C) (s : Shadow) (sides : s.side ≡ side) (at next : Stretches) (of_it : at.shadow.now ≡ s)
    (old mid : List C) (a : PlacesWritten n side base at-of (λ i r c. Passed s at r c) value old mid) where
  -- One more stretch.
  pub stretch_more : (later : (i r c : ℕ) → C → C) (x : Stretch) (new : List C) → YieldsStretch at (Some x) next
      → PlacesWritten n side base at-of (InStretch x) later mid new
      → ((i r c : ℕ) (d : C) → i < n → r < side → c < side → InStretch x i r c → later i r c d ≡ value i r c d)
      → (next.shadow.now ≡ s) × PlacesWritten n side base at-of (λ i r c. Passed s next r c) value old new
  stretch_more later x new y b agree = (
    ap (λ t. t.now) y.1 ∙ of_it,
    written_join n side base at-of value later _ _ _ old mid new a b agree apart
        (λ i r c hr hc p. passed_splits s at next of_it x y r c (omega (arith, sides)) (omega (arith, sides)) p) passed reached,
  )
    where
      first : FirstStretch s at.row at.column x
      first = first_of s at next of_it x y

      -- The stretch begins no earlier than the reader stood.
      apart : (i r c : ℕ) → Passed s at r c → InStretch x i r c → ⊥
      apart i r c p q =
          first.onwards
          (elim p.1 [
            | inl l ↦ inl (omega (arith, q.0))
            | inr e ↦ inr (omega (arith, q.0, e.0), omega (arith, q.1.0, e.1))
          ])

      passed : (i r c : ℕ) → Passed s at r c → Passed s next r c
      passed i r c p = (
        p.0,
        elim (before_onwards r c at.row at.column x.row x.column p.1 first.onwards) [
          | inl l ↦ inl (omega (arith, y.2))
          | inr e ↦ inr (omega (arith, y.2, e.0), omega (arith, y.3, e.1))
        ],
      )

      reached : (i r c : ℕ) → r < side → c < side → InStretch x i r c → Passed s next r c
      reached i r c hr hc q =
          (ap (λ m. marks s m c) q.0 ∙ first.marked c q.1.0 q.1.1, inr (omega (arith, y.2, q.0), omega (arith, y.3, q.1.1)))

  pub stretches_done : YieldsStretch at None next → PlacesWritten n side base at-of (Marked (marks s)) value old mid
  stretches_done y =
      written_same n side base at-of value _ _ old mid a (λ i r c hi hr hc p. p.0)
      (λ i r c hi hr hc marked. all_passed s at next of_it y r c (omega (arith, sides)) (omega (arith, sides)) marked)

-- Before the first stretch none is.
pub none_passed : (s : Shadow) (at : Stretches) → at.row ≡ 0 → at.column ≡ 0 → (r c : ℕ) → Passed s at r c → ⊥
none_passed s at row column r c p = elim p.1 [ inl l ↦ omega (arith, row) | inr e ↦ omega (arith, column, e.1) ]
