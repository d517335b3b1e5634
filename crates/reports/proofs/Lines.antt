-- A line: its word, what follows it, and its end.
use Rattle.std.proofs.Common.{ℕ, List, ◌++◌}
use Rattle.reports.specs.declared.text.Text.{Text}
use Rattle.reports.specs.Report.{ended}
use Rattle.reports.specs.Text.{Fits, Appends, line_end}
use Rattle.reports.proofs.Texts.{appends_more, fits_front, fits_more}

module _ (a : Text) (word rest : List ℕ) (fits : Fits a (ended (word ++ rest))) where
  both_fit : Fits a (word ++ rest)
  both_fit = fits_front a (word ++ rest) line_end fits

  module _ {b : Text} (word-written : Appends a word b) where
    pub rest_fits : Fits b rest
    rest_fits = fits_more word-written rest both_fit

    module _ {c : Text} (rest-written : Appends b rest c) where
      both_written : Appends a (word ++ rest) c
      both_written = appends_more word-written rest both_fit rest-written

      pub line_written : {d : Text} → Appends c line_end d → Appends a (ended (word ++ rest)) d
      line_written = appends_more both_written line_end fits
