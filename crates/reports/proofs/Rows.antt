-- The marks of a row, one column a turn, and the rows of a map, one row a turn.
use Rattle.std.proofs.Common.{◌≡◌, ℕ, suc, ◌+◌, ◌*◌, ◌<◌, ◌≤◌, Bool, false, List, [], ◌∷◌, map, length, get_or, drop, Some, None, Option, unwrap_or, sym, ap, ◌∙◌, subst, inl, inr, suc-mul, add-one, arith}
use Rattle.std.proofs.lemmas.Bool.{cases_lt}
use Rattle.std.proofs.lemmas.List.FromFn.{length-map-range_with_len}
use Rattle.std.proofs.lemmas.List.{drop_at, drop-drop, get_or-drop, get_or_append_left, length-append, length-drop}
use Rattle.std.proofs.lemmas.Nat.{mul-le}
use Rattle.std.specs.Borrow.{Bor}
use Rattle.std.specs.Iterator.Adapters.{enumerate_steps}
use Rattle.std.specs.List.{range_with_len, flat_map}
use Rattle.std.specs.Slice.Iter.{chunks_exact_steps}
use Rattle.std.specs.declared.iter.Enumerate.{Enumerate}
use Rattle.std.specs.declared.slice.ChunksExact.{ChunksExact}
use Rattle.toom.specs.declared.shadow.Shadow.{Shadow}
use Rattle.toom.specs.Shadow.{marks, side_of_shadow, OnTorus}
use Rattle.toom.specs.ShadowCalls.{Asked}
use Rattle.reports.specs.declared.text.Text.{Text}
use Rattle.reports.specs.Page.{marked_line}
use Rattle.reports.specs.Report.{ended, place_mark, row_line}
use Rattle.reports.specs.Text.{Fits, Appends, line_end}
use Rattle.reports.proofs.Pieces.{joined_counting_grows, map_grows, piece_fits, wrote_more}
use Rattle.reports.proofs.SamePages.{map_same}
use Rattle.reports.proofs.Texts.{appends_as, fits_front}

asked_marks : (s : Shadow) (row column : ℕ) (o : Option Bool) → Asked s row column o → OnTorus s row column → unwrap_or o false ≡ marks s row column
asked_marks s row column None off on = absurd (off on)
asked_marks s row column (Some b) asked on = asked.1

-- A row's line is as long whatever is hurt.
pub marked_long : (hurts : List ℕ) (s : Shadow) (row : ℕ) → length (marked_line hurts s row) ≡ side_of_shadow s + 1
marked_long hurts s row =
    length-append (map (λ c. place_mark (get_or hurts c 0) (marks s row c)) (range_with_len 0 (side_of_shadow s))) line_end
    ∙ ap (λ n. n + 1) (length-map-range_with_len _ 0 (side_of_shadow s))

pub any_row_fits : (b : Text) (hurts others : List ℕ) (s : Shadow) (row : ℕ) → Fits b (marked_line others s row) → Fits b (marked_line hurts s row)
any_row_fits b hurts others s row fits = omega (arith, fits, marked_long others s row, marked_long hurts s row)

-- The row's part of the map is `hurts`.
module _ (hurts : List ℕ) (s : Shadow) (row : ℕ) where
  abbrev mark : ℕ → ℕ
  mark c = place_mark (get_or hurts c 0) (marks s row c)

  -- The marks of the columns below n.
  abbrev pub marks_below : ℕ → List ℕ
  marks_below n = map mark (range_with_len 0 n)

  module _ (a : Text) (fits : Fits a (marked_line hurts s row)) (column : ℕ) (on : OnTorus s row column) {b : Text}
      (wrote : Appends a (marks_below column) b) where
    all_fit : Fits a (marks_below (side_of_shadow s))
    all_fit = fits_front a (marks_below (side_of_shadow s)) line_end fits

    pub mark_fits : Fits b (mark column ∷ [])
    mark_fits = piece_fits marks_below (λ c. mark c ∷ []) (side_of_shadow s) (map_grows mark (side_of_shadow s)) a all_fit column on.1 wrote

    -- The code asks the shadow.
    pub mark_more : (m : ℕ) (o : Option Bool) → Asked s row column o → m ≡ place_mark (get_or hurts column 0) (unwrap_or o false)
        → {c : Text} → Appends b (m ∷ []) c → Appends a (marks_below (column + 1)) c
    mark_more m o asked is wrote-mark =
        let here : m ≡ mark column = is ∙ ap (place_mark (get_or hurts column 0)) (asked_marks s row column o asked on) in
        wrote_more marks_below (λ c. mark c ∷ []) (side_of_shadow s) (map_grows mark (side_of_shadow s)) a all_fit column on.1 wrote
        (appends_as (ap (λ n. n ∷ []) here) wrote-mark)

-- The rows of a map are cut off it, one a turn: the next is row `count`.
pub record AtRow (hurts : List ℕ) (side : ℕ) (e : Enumerate (ChunksExact ℕ)) : Type 0 where
  pub size : e.iter.size ≡ side
  pub rest : e.iter.rest.now ≡ drop (e.count * side) hurts
  pub within : e.count ≤ side

module _ (hurts : List ℕ) (s : Shadow) (map : length hurts ≡ side_of_shadow s * side_of_shadow s) (some : 1 ≤ side_of_shadow s)
    (e t : Enumerate (ChunksExact ℕ)) (at : AtRow hurts (side_of_shadow s) e) where
  -- What the rows below n write.
  abbrev line : ℕ → List ℕ
  line = row_line (side_of_shadow s) (λ j. get_or hurts j 0) (marks s)

  abbrev rows_below : ℕ → List ℕ
  rows_below n = flat_map line (range_with_len 0 n)

  rest_long : length e.iter.rest.now + e.count * side_of_shadow s ≡ side_of_shadow s * side_of_shadow s
  rest_long =
      omega (arith, ap length at.rest, length-drop (e.count * side_of_shadow s) hurts, mul-le e.count (side_of_shadow s) (side_of_shadow s) (side_of_shadow s) at.within (omega arith), map)

  pub rows_done : chunks_exact_steps e.iter None t.iter → {a b : Text} → Appends a (rows_below e.count) b → Appends a (rows_below (side_of_shadow s)) b
  rows_done step wrote =
      let last : e.count ≡ side_of_shadow s =
      elim (cases_lt e.count (side_of_shadow s)) [
        | inl less ↦
            let up = mul-le (suc e.count) (side_of_shadow s) (side_of_shadow s) (side_of_shadow s) (omega arith) (omega arith) in
            absurd (omega (arith, up, suc-mul e.count (side_of_shadow s), rest_long, step.1.0, at.size))
        | inr more ↦ omega (arith, at.within)
      ] in
      appends_as (ap rows_below last) wrote

  module _ (row : ℕ) (part : Bor (List ℕ)) (step : enumerate_steps chunks_exact_steps e (Some (row, part)) t) where
    part_long : length part.now ≡ side_of_shadow s
    part_long = step.0.1.1 ∙ at.size

    row_left : e.count < side_of_shadow s
    row_left =
        elim (cases_lt e.count (side_of_shadow s)) [
          | inl less ↦ less
          | inr more ↦
              let last : e.count ≡ side_of_shadow s = omega (arith, at.within) in
              absurd
              (omega (arith, ap (λ n. n * side_of_shadow s) last, rest_long, ap length step.0.1.0, length-append part.now t.iter.rest.now, part_long))
        ]

    pub next_row : AtRow hurts (side_of_shadow s) t
    next_row = record {
      size = step.0.0 ∙ at.size;
      rest = sym (drop_at part.now t.iter.rest.now (side_of_shadow s) part_long) ∙ ap (drop (side_of_shadow s)) (sym step.0.1.0 ∙ at.rest)
          ∙ drop-drop (side_of_shadow s) (e.count * side_of_shadow s) hurts
          ∙ ap (λ n. drop n hurts) (sym (ap (λ n. n * side_of_shadow s) (step.2 ∙ add-one e.count) ∙ suc-mul e.count (side_of_shadow s)));
      within = omega (arith, row_left, step.2);
    }

    hurt_is : (c : ℕ) → c < side_of_shadow s → get_or part.now c 0 ≡ get_or hurts (e.count * side_of_shadow s + c) 0
    hurt_is c c< =
        sym (get_or_append_left part.now t.iter.rest.now 0 c (omega (arith, part_long)))
        ∙ ap (λ xs. get_or xs c 0) (sym step.0.1.0 ∙ at.rest) ∙ get_or-drop (e.count * side_of_shadow s) hurts c 0

    row_is : marked_line part.now s row ≡ line e.count
    row_is =
        ap (marked_line part.now s) step.1
        ∙ ap ended (map_same _ _ 0 (side_of_shadow s) (λ c c<. ap (λ hurt. place_mark hurt (marks s e.count c)) (hurt_is c (omega arith))))

    module _ {a b : Text} (fits : Fits a (rows_below (side_of_shadow s))) (wrote : Appends a (rows_below e.count) b) where
      pub row_fits : Fits b (marked_line part.now s row)
      row_fits =
          subst (Fits b) (sym row_is) (piece_fits rows_below line (side_of_shadow s) (joined_counting_grows line (side_of_shadow s)) a fits e.count row_left wrote)

      pub row_more : {c : Text} → Appends b (marked_line part.now s row) c → Appends a (rows_below t.count) c
      row_more {c} wrote-row =
          subst (λ n. Appends a (rows_below n) c) (sym step.2)
          (wrote_more rows_below line (side_of_shadow s) (joined_counting_grows line (side_of_shadow s)) a fits e.count row_left wrote (appends_as row_is wrote-row))
