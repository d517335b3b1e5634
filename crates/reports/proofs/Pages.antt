-- A page: its parts one after the other.
use Rattle.std.proofs.Common.{◌≡◌, ℕ, ◌*◌, List, ◌++◌, length, get_or, codes, Result, ap, ◌∙◌}
use Rattle.std.specs.Borrow.{Bor}
use Rattle.toom.specs.Shadow.{marks}
use Rattle.toom.specs.Torus.{count_marks, total}
use Rattle.plate.specs.declared.laid.Laid.{Laid}
use Rattle.plate.specs.Board.{side_of}
use Rattle.reports.specs.declared.text.Text.{Text}
use Rattle.reports.specs.Page.{page_of, reading_line}
use Rattle.reports.specs.Report.{number_line, rows}
use Rattle.reports.specs.Text.{Fits, Appends}
use Rattle.reports.proofs.Texts.{appends_as, appends_more, fits_front, fits_more}

module _ (l : Laid) (hurts : List ℕ) (reading : Result (Bor (List ℕ)) ℕ) (map : length hurts ≡ side_of l * side_of l) where
  abbrev age_line : List ℕ
  age_line = number_line (codes "age ") l.age

  abbrev shadow_line : ℕ → List ℕ
  shadow_line = number_line (codes "shadow ")

  abbrev hurt_line : ℕ → List ℕ
  hurt_line = number_line (codes "hurt ")

  abbrev marked : List ℕ
  marked = rows (side_of l) (λ j. get_or hurts j 0) (marks l.shadow)

  abbrev last : List ℕ
  last = reading_line reading

  abbrev marked_on : List ℕ
  marked_on = marked ++ last

  abbrev hurt_on : List ℕ
  hurt_on = hurt_line (total (λ j. get_or hurts j 0) (side_of l * side_of l)) ++ marked_on

  abbrev shadow_on : List ℕ
  shadow_on = shadow_line (count_marks (side_of l) (marks l.shadow)) ++ hurt_on

  module _ (a : Text) (fits : Fits a (page_of l hurts reading)) where
    module _ {b : Text} (age-written : Appends a age_line b) (count : ℕ) (count-is : count ≡ count_marks (side_of l) (marks l.shadow)) where
      shadow_on_fits : Fits b shadow_on
      shadow_on_fits = fits_more age-written shadow_on fits

      module _ {c : Text} (shadow-written : Appends b (shadow_line count) c) (sum : ℕ)
          (summed : sum ≡ total (λ j. get_or hurts j 0) (length hurts)) where
        sum_is : sum ≡ total (λ j. get_or hurts j 0) (side_of l * side_of l)
        sum_is = summed ∙ ap (total (λ j. get_or hurts j 0)) map

        hurt_on_fits : Fits c hurt_on
        hurt_on_fits = fits_more (appends_as (ap shadow_line count-is) shadow-written) hurt_on shadow_on_fits

        module _ {d : Text} (hurt-written : Appends c (hurt_line sum) d) where
          marked_on_fits : Fits d marked_on
          marked_on_fits = fits_more (appends_as (ap hurt_line sum_is) hurt-written) marked_on hurt_on_fits

          pub rows_fit : Fits d marked
          rows_fit = fits_front d marked last marked_on_fits

          module _ {e : Text} (rows_written : Appends d marked e) where
            pub last_fits : Fits e last
            last_fits = fits_more rows_written last marked_on_fits

            pub page_written : {f : Text} → Appends e last f → Appends a (page_of l hurts reading) f
            page_written last_written =
                appends_more age-written shadow_on fits
                (appends_more (appends_as (ap shadow_line count-is) shadow-written) hurt_on shadow_on_fits
                (appends_more (appends_as (ap hurt_line sum_is) hurt-written) marked_on hurt_on_fits
                (appends_more rows_written last marked_on_fits last_written)))
