-- The byte string at the front of bytes, and what follows it.
use Rattle.std.proofs.Common.{◌≡◌, ℕ, zero, suc, ◌+◌, ◌^◌, ◌<◌, ◌≤◌, List, [], ◌∷◌, ◌++◌, length, get_or, take, drop, Option, Some, None, MatchOption, Bor, refl, sym, ap, ap₂, ◌∙◌, append_assoc, length-drop, arith}
use Rattle.std.specs.Int.{w32, to_be_bytes, from_be_bytes}
use Rattle.std.specs.List.{IsSplitAt}
use Rattle.std.proofs.lemmas.List.{drop_at, take_at, take-append-drop}
use Rattle.std.proofs.lemmas.Nat.{be_bytes_4, from_be_bytes-to_be_bytes_4}
use Rattle.std.proofs.lemmas.Grind.{common_steps}
use Rattle.kept.specs.KeptFile.{StringCut, StringFirst, string}

-- The length that the first four bytes say.
abbrev pub length_in : List ℕ → ℕ
length_in bytes = from_be_bytes w32 (take 4 bytes)

pub string_length : (first : List ℕ) → length (string first) ≡ 4 + length first
unfolding string
string_length first = omega arith

length_field : (first later : List ℕ) → take 4 (string first ++ later) ≡ to_be_bytes w32 (length first)
unfolding string
length_field first later = refl

after_length : (first later : List ℕ) → drop 4 (string first ++ later) ≡ first ++ later
unfolding string
after_length first later = refl

module _ (bytes first later : List ℕ) (is : StringFirst bytes first later) where
  length_said : length_in bytes ≡ length first
  length_said =
      ap length_in is.whole ∙ ap (from_be_bytes w32) (length_field first later) ∙ from_be_bytes-to_be_bytes_4 (length first) is.short

  rest_is : drop 4 bytes ≡ first ++ later
  rest_is = ap (drop 4) is.whole ∙ after_length first later

  first_is : take (length_in bytes) (drop 4 bytes) ≡ first
  first_is = ap (take (length_in bytes)) rest_is ∙ take_at first later (length_in bytes) (sym length_said)

  later_is : drop (length_in bytes) (drop 4 bytes) ≡ later
  later_is = ap (drop (length_in bytes)) rest_is ∙ drop_at first later (length_in bytes) (sym length_said)

  pub long_enough : 4 + length_in bytes ≤ length bytes
  long_enough =
      let whole = ap length is.whole in
      let field = string_length first in
      grind (arith, common_steps, whole, field, length_said)

-- One byte string at most stands at the front.
pub one_string : (bytes a b x y : List ℕ) → StringFirst bytes a x → StringFirst bytes b y → (a ≡ b) × (x ≡ y)
one_string bytes a b x y one other =
    (sym (first_is bytes a x one) ∙ first_is bytes b y other, sym (later_is bytes a x one) ∙ later_is bytes b y other)

-- Too few bytes for a length.
pub no_length : (bytes : List ℕ) → length bytes < 4 → (first later : List ℕ) → StringFirst bytes first later → ⊥
no_length bytes few first later is = omega (arith, long_enough bytes first later is)

take_fits : (n : ℕ) (bytes : List ℕ) → ((i : ℕ) → get_or bytes i 0 < 256) → (i : ℕ) → get_or (take n bytes) i 0 < 256
take_fits zero bytes fits i = omega arith
take_fits (suc n) [] fits i = omega arith
take_fits (suc n) (b ∷ bytes) fits zero = fits 0
take_fits (suc n) (b ∷ bytes) fits (suc i) = take_fits n bytes (λ j. fits (suc j)) i

-- The first four bytes are those of the length that they say.
string_put : (bytes first : List ℕ) → ((i : ℕ) → get_or bytes i 0 < 256) → 4 ≤ length bytes → length first ≡ length_in bytes
    → string first ≡ take 4 bytes ++ first
unfolding string
string_put bytes first fits long is =
    let four : length (take 4 bytes) ≡ 4 = grind (arith, common_steps) in
    ap (λ field. field ++ first) (be_bytes_4 (take 4 bytes) (length first) four (take_fits 4 bytes fits) is)

-- The first four bytes and the two parts of the rest are all bytes.
parts_of : (bytes rest first later : List ℕ) (n : ℕ) → rest ≡ drop 4 bytes → first ≡ take n rest → later ≡ drop n rest
    → (take 4 bytes ++ first) ++ later ≡ bytes
parts_of bytes rest first later n after front back =
    append_assoc (take 4 bytes) first later
    ∙ ap (λ l. take 4 bytes ++ l) (ap₂ (λ a b. a ++ b) front back ∙ take-append-drop n rest ∙ after) ∙ take-append-drop 4 bytes

-- What a split at the length says.
pub string_cut : (bytes rest field : List ℕ) (n : ℕ) (r : Option (Bor (List ℕ) × Bor (List ℕ))) → ((i : ℕ) → get_or bytes i 0 < 256) → field ≡ take 4 bytes
    → rest ≡ drop 4 bytes → 4 ≤ length bytes → n ≡ from_be_bytes w32 field → n < 2 ^ 32
    → MatchOption r (length rest < n) (λ p. IsSplitAt rest n p.0.now p.1.now) → StringCut bytes r
string_cut bytes rest field n None fits is after long number low split =
    let said : n ≡ length_in bytes = number ∙ ap (from_be_bytes w32) is in
    let left : length rest ≡ length (drop 4 bytes) = ap length after in
    λ first later f. omega (arith, split, left, length-drop 4 bytes, long_enough bytes first later f, said)
string_cut bytes rest field n (Some p) fits is after long number low split =
    let said : n ≡ length_in bytes = number ∙ ap (from_be_bytes w32) is in
    let front = string_put bytes p.0.now fits long (split.3 ∙ said) in
    record {
      whole = sym (ap (λ l. l ++ p.1.now) front ∙ parts_of bytes rest p.0.now p.1.now n after split.1 split.2);
      short = omega (arith, split.3, low);
    }
