-- The number of a word, digit by digit.
use Rattle.std.proofs.Common.{◌≡◌, ℕ, zero, suc, ◌+◌, ◌-◌, ◌*◌, ◌^◌, ◌<◌, min, true, false, ◌&&◌, List, [], ◌∷◌, ◌++◌, length, get_or, take, sym, refl, ap, ◌∙◌, arith}
use Rattle.std.specs.Char.{is_ascii_digit}
use Rattle.std.proofs.lemmas.List.{take_more, take_all}
use Rattle.std.proofs.lemmas.List.Sums.{fold_more}
use Rattle.thin.specs.Words.{numeral, value}

numeral_push : (word : List ℕ) (digit : ℕ) → numeral word ≡ true → is_ascii_digit digit ≡ true → numeral (word ++ (digit ∷ [])) ≡ true
numeral_push [] digit h d = rw d
numeral_push (c ∷ word) digit h d =
    elim (is_ascii_digit c) as (λ b. (b && numeral word) ≡ true → (b && numeral (word ++ (digit ∷ []))) ≡ true) [
      | true ↦ λ e. numeral_push word digit e d
      | false ↦ λ e. e
    ] h

pub not_numeral : (word : List ℕ) (i : ℕ) → i < length word → is_ascii_digit (get_or word i 0) ≡ false → numeral word ≡ false
not_numeral [] i h d = absurd (omega arith)
not_numeral (c ∷ word) zero h d = rw d
not_numeral (c ∷ word) (suc i) h d =
    elim (is_ascii_digit c) as (λ b. (b && numeral word) ≡ false) [ true ↦ not_numeral word i (omega arith) d | false ↦ refl ]

-- The first i bytes are digits, and name the number, as far as it fits.
pub record Named (word : List ℕ) (i number : ℕ) : Type 0 where
  pub digits : numeral (take i word) ≡ true
  pub names : number ≡ min (value (take i word)) (2 ^ 64 - 1)

module _ {word : List ℕ} {i number : ℕ} (old : Named word i number) where
  pub named_more : {tens sum : ℕ} → i < length word → is_ascii_digit (get_or word i 0) ≡ true → tens ≡ min (number * 10) (2 ^ 64 - 1)
      → sum ≡ min (tens + (get_or word i 0 - 48)) (2 ^ 64 - 1) → Named word (i + 1) sum
  named_more h d t s = record {
    digits = ap numeral (take_more word i 0 h) ∙ numeral_push (take i word) (get_or word i 0) old.digits d;
    names = let more : value (take (i + 1) word) ≡ value (take i word) * 10 + (get_or word i 0 - 48) = fold_more (λ n digit. n * 10 + (digit - 48)) 0 word i 0 h in omega (arith, old.names, t, s, more);
  }

  pub named_all : i ≡ length word → (numeral word ≡ true) × (number ≡ min (value word) (2 ^ 64 - 1))
  named_all e =
      let whole = take_all i word (omega arith) in
      (sym (ap numeral whole) ∙ old.digits, old.names ∙ ap (λ l. min (value l) (2 ^ 64 - 1)) whole)
