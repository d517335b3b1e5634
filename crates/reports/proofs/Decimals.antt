-- A number in decimal: the digits before its last, and its last.
use Rattle.std.proofs.Common.{◌≡◌, ℕ, ◌+◌, ◌/◌, ◌%◌, ◌^◌, ◌<◌, ◌≤◌, cond, ltb, ◌⊎◌, List, [], ◌∷◌, ◌++◌, decimal, sym, ap, ◌∙◌, subst, ap₂, inl, inr, arith}
use Rattle.std.proofs.lemmas.Fmt.{decimal_digit, decimal_step}
use Rattle.std.proofs.lemmas.Bool.{cases_lt, lt-ltb, le-ltb}
use Rattle.reports.specs.declared.text.Text.{Text}
use Rattle.reports.specs.Text.{Fits, Appends}
use Rattle.reports.proofs.Texts.{appends_as, appends_none, appends_more, fits_front, fits_more}

module _ (n : ℕ) where
  abbrev front : List ℕ
  front = cond (ltb n 10) [] (decimal (n / 10))

  abbrev last : List ℕ
  last = (48 + n % 10) ∷ []

  front_none : n < 10 → [] ≡ front
  front_none low = rw (lt-ltb n 10 low)

  front_some : 10 ≤ n → decimal (n / 10) ≡ front
  front_some high = rw (le-ltb n 10 high)

  in_two : n < 2 ^ 64 → decimal n ≡ front ++ last
  in_two small =
      elim (cases_lt n 10) [
        | inl low ↦ decimal_digit n low ∙ ap₂ (λ ds d. ds ++ (48 + d) ∷ []) (front_none low) (omega arith)
        | inr high ↦ decimal_step n high small ∙ ap (λ ds. ds ++ last) (front_some high)
      ]

  -- The number is appended to the text a: first what comes before its last digit, if anything does, then that digit.
  module _ (a : Text) (small : n < 2 ^ 64) (fits : Fits a (decimal n)) where
    fits_two : Fits a (front ++ last)
    fits_two = subst (Fits a) (in_two small) fits

    pub front_fits : 10 ≤ n → Fits a (decimal (n / 10))
    front_fits high = subst (Fits a) (sym (front_some high)) (fits_front a front last fits_two)

    module _ (b : Text) (written : ((10 ≤ n) × Appends a (decimal (n / 10)) b) ⊎ ((n < 10) × (b ≡ a))) where
      front_written : Appends a front b
      front_written =
          elim written [
            | inl (high, wrote) ↦ appends_as (front_some high) wrote
            | inr (low, same) ↦ rw same (appends_as (front_none low) (appends_none a))
          ]

      pub last_fits : Fits b last
      last_fits = fits_more front_written last fits_two

      pub decimal_written : {c : Text} → Appends b last c → Appends a (decimal n) c
      decimal_written wrote = appends_as (sym (in_two small)) (appends_more front_written last fits_two wrote)
