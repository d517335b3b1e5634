-- How far the reader of a shadow's stretches has looked: from the place where it stood no place is marked up to where it looks now.
use Rattle.std.proofs.Common.{◌≡◌, ℕ, ◌+◌, ◌-◌, ◌*◌, ◌<◌, ◌≤◌, min, false, slice_index, ap, ◌∙◌, subst, inl, inr, arith}
use Rattle.std.proofs.lemmas.Bool.{both_ways, cases_lt}
use Rattle.toom.specs.declared.rows.Span.{Span}
use Rattle.toom.specs.declared.shadow.Shadow.{Shadow}
use Rattle.toom.specs.declared.shadow.stretches.Stretch.{Stretch}
use Rattle.toom.specs.declared.shadow.stretches.Stretches.{Stretches}
use Rattle.toom.specs.Shadow.{marks}
use Rattle.toom.specs.Spans.{FirstSpan}
use Rattle.toom.specs.Stretches.{Before, ClearFrom, ClearBetween, FirstStretch}
use Rattle.toom.specs.Torus.{max_side}
use Rattle.toom.proofs.Columns.{column_past}

-- It stood at (row, column), and looks at (to, end) next.
pub record LooksNext (s : Shadow) (row column to end : ℕ) : Type 0 where
  pub clear : ClearBetween s row column to end
  pub onwards : Before to end row column → ⊥

never_before : (r c : ℕ) → Before r c r c → ⊥
never_before r c (inl h) = omega arith
never_before r c (inr h) = omega (arith, h.1)

module _ (s : Shadow) (row column : ℕ) where
  pub looks_first : LooksNext s row column row column
  looks_first = record { clear = λ r c h k from before. absurd (from before); onwards = never_before row column }

  module _ (to end : ℕ) (looks : LooksNext s row column to end) where
    pub looks_on : ((c : ℕ) → end ≤ c → c < 64 → marks s to c ≡ false) → LooksNext s row column (to + 1) 0
    looks_on none = record { clear = clear; onwards = onwards }
      where
        in_row : (r c : ℕ) → r < s.side → c < s.side → (Before r c row column → ⊥) → r ≡ to → marks s r c ≡ false
        in_row r c h k from e =
            elim (cases_lt c end) [
              | inl l ↦ looks.clear r c h k from (inr (e, l))
              | inr g ↦ ap (λ n. marks s n c) e ∙ none c g (omega (arith, s.sized.1))
            ]

        clear : ClearBetween s row column (to + 1) 0
        clear r c h k from (inl l) =
            elim (cases_lt r to) [
              | inl less ↦ looks.clear r c h k from (inl less)
              | inr more ↦ in_row r c h k from (omega arith)
            ]
        clear r c h k from (inr l) = absurd (omega (arith, l.1))

        onwards : Before (to + 1) 0 row column → ⊥
        onwards (inl l) = looks.onwards (inl (omega arith))
        onwards (inr l) = looks.onwards (inl (omega (arith, l.0)))

    pub looks_past : s.side ≤ to → ClearFrom s row column
    looks_past past r c h k from = looks.clear r c h k from (inl (omega arith))

    module _ (x : Span) (span : FirstSpan (slice_index s.rows to) end x) (within : to < s.side) where
      wide : x.column + x.length ≤ s.side
      wide =
          elim (cases_lt s.side (x.column + x.length)) [
            | inl l ↦
                let last = x.column + x.length - 1 in
                absurd
                (both_ways (marks s to last)
                (column_past s.side (slice_index s.rows to) last (s.narrow to) (omega arith) (omega (arith, span.wide, span.some)))
                (span.marked last (omega (arith, span.some)) (omega (arith, span.some))))
            | inr g ↦ g
          ]

      onwards : Before to x.column row column → ⊥
      onwards (inl l) = looks.onwards (inl l)
      onwards (inr l) = looks.onwards (inr (l.0, omega (arith, l.1, span.onwards)))

      clear : ClearBetween s row column to x.column
      clear r c h k from (inl l) = looks.clear r c h k from (inl l)
      clear r c h k from (inr l) =
          elim (cases_lt c end) [
            | inl less ↦ looks.clear r c h k from (inr (l.0, less))
            | inr more ↦ ap (λ n. marks s n c) l.0 ∙ span.clear c more l.1
          ]

      pub stretch_found : FirstStretch s row column record { row = to; column = x.column; length = x.length }
      stretch_found = record {
        within = within;
        wide = wide;
        some = span.some;
        onwards = onwards;
        marked = span.marked;
        clear = clear;
        ends = λ h. span.ends (omega (arith, s.sized.1));
      }

  -- Fewer places are left behind a stretch.
  pub fewer_left : (x : Stretch) → FirstStretch s row column x
      → (s.side - x.row) * max_side - min (x.column + x.length) max_side < (s.side - row) * max_side - min column max_side
  fewer_left x first =
      elim (cases_lt row x.row) [
        | inl l ↦ omega (arith, first.within, first.wide, first.some, s.sized.1)
        | inr g ↦
            elim (cases_lt x.row row) [
              | inl l ↦ absurd (first.onwards (inl l))
              | inr same ↦
                  let e : x.row ≡ row = omega arith in
                  elim (cases_lt x.column column) [
                    | inl l ↦ absurd (first.onwards (inr (e, l)))
                    | inr m ↦ omega (arith, first.within, first.wide, first.some, s.sized.1)
                  ]
            ]
      ]

-- The stretch that the reader found, which has not moved meanwhile.
pub stretch_read : (at now : Stretches) → now ≡ at → (to end : ℕ) → LooksNext at.shadow.now at.row at.column to end
    → (x : Span) → FirstSpan (slice_index now.shadow.now.rows to) end x → to < at.shadow.now.side
    → FirstStretch at.shadow.now at.row at.column record { row = to; column = x.column; length = x.length }
stretch_read at now same to end looks x span within =
    stretch_found at.shadow.now at.row at.column to end looks x
    (subst (λ t. FirstSpan (slice_index t.shadow.now.rows to) end x) same span) within
