-- A shadow by its rows: their counts and words are those of its marks, and the marks determine it.
use Rattle.std.proofs.Common.{◌≡◌, ℕ, zero, suc, refl, ◌+◌, ◌-◌, ◌^◌, ◌<◌, ◌≤◌, Bool, cond, length, get_or, take, sym, ap, ◌∙◌, ap₂, inl, inr, add-one, arith}
use Rattle.std.specs.Int.Count.{ones}
use Rattle.std.specs.List.{sum_by}
use Rattle.std.proofs.lemmas.List.Sums.{sum_by_push}
use Rattle.std.proofs.lemmas.List.FromFn.{fill_by_all}
use Rattle.std.proofs.lemmas.List.{ext_get_or, get_or-take, length-take-le, take_more}
use Rattle.std.proofs.lemmas.Bool.{cases_lt}
use Rattle.toom.specs.declared.shadow.Shadow.{Shadow}
use Rattle.toom.specs.EqualShadows.{shadows_equal}
use Rattle.toom.specs.Rows.{row_word}
use Rattle.toom.specs.Shadow.{marks, words_of, IsShadow, MarksPin}
use Rattle.toom.specs.Torus.{Plane, total, count_marks}
use Rattle.toom.proofs.RowWords.{total_same, word_is, ones_are}

module _ (s : Shadow) where
  -- the columns of the first rows are their marks
  pub counted : (n : ℕ) → n ≤ length s.rows
      → sum_by ones (take n s.rows) ≡ total (λ r. total (λ c. cond (marks s r c) 1 0) s.side) n
  counted zero h = refl
  counted (suc n) h =
      ap (λ k. sum_by ones (take k s.rows)) (sym (add-one n))
      ∙ ap (sum_by ones) (take_more s.rows n 0 (omega (arith, h))) ∙ sum_by_push ones (take n s.rows) (get_or s.rows n 0)
      ∙ ap₂ ◌+◌ (counted n (omega arith)) (ones_are s.side (get_or s.rows n 0) s.sized.1 (s.narrow n))

  pub counted_all : sum_by ones (take s.side s.rows) ≡ count_marks s.side (marks s)
  counted_all = counted s.side (omega (arith, s.tall, s.sized.1))

  pub row_is : (r : ℕ) → row_word s.side (marks s r) ≡ get_or s.rows r 0
  row_is r = word_is s.side (get_or s.rows r 0) s.sized.1 (s.narrow r)

  pub words_are : take s.side s.rows ≡ words_of s
  words_are =
      let within : s.side ≤ length s.rows = omega (arith, s.tall, s.sized.1) in
      fill_by_all (λ r. row_word s.side (marks s r)) (take s.side s.rows) s.side 0 (length-take-le s.side s.rows within)
      (λ k h. get_or-take s.side s.rows k 0 h ∙ sym (row_is k))

-- Its rows are the words of its marks.
row_of : (s : Shadow) (side : ℕ) (plane : Plane Bool) → IsShadow s side plane → (r : ℕ) → r < side
    → get_or s.rows r 0 ≡ row_word side (plane r)
row_of s side plane is r h =
    sym (row_is s r) ∙ ap (λ n. row_word n (marks s r)) is.sides
    ∙ total_same _ _ side (λ c k. ap (λ b. cond b (2 ^ (63 - c)) 0) (is.places r c h k))

pub marks_pin : MarksPin
marks_pin s t side plane a b =
    shadows_equal s t (a.sides ∙ sym b.sides)
    (ext_get_or 0 s.rows t.rows (s.tall ∙ sym t.tall) (λ r h.
    elim (cases_lt r side) [
      | inl l ↦ row_of s side plane a r l ∙ sym (row_of t side plane b r l)
      | inr g ↦ s.beyond r (omega (arith, a.sides)) ∙ sym (t.beyond r (omega (arith, b.sides)))
    ]))
