-- Text that a loop writes, one piece a turn.
use Rattle.std.proofs.Common.{◌≡◌, ℕ, zero, suc, ◌+◌, ◌-◌, ◌<◌, ◌≤◌, List, [], ◌∷◌, ◌++◌, map, length, get_or, take, sym, ap, ◌∙◌, add-zero, arith}
use Rattle.std.proofs.lemmas.List.FromFn.{map-range_with_len_more}
use Rattle.std.proofs.lemmas.List.{flat_map_more, length-append, map-id, take_all, take_more}
use Rattle.std.specs.List.{range_with_len, flat_map}
use Rattle.reports.specs.declared.text.Text.{Text}
use Rattle.reports.specs.Text.{Fits, Appends}
use Rattle.reports.proofs.Texts.{appends_as, appends_more, fits_more}

-- `sofar i` is what i turns write, `piece i` what turn i adds.
abbrev pub Grows : (sofar piece : ℕ → List ℕ) (n : ℕ) → Type 0
Grows sofar piece n = (i : ℕ) → i < n → sofar (i + 1) ≡ sofar i ++ piece i

longer : (sofar piece : ℕ → List ℕ) (i k : ℕ) → Grows sofar piece (i + k) → length (sofar i) ≤ length (sofar (i + k))
longer sofar piece i zero grows = omega (arith, ap (λ j. length (sofar j)) (add-zero i))
longer sofar piece i (suc k) grows =
    let next : i + suc k ≡ i + k + 1 = omega arith in
    omega (
      arith,
      longer sofar piece i k (λ j turn. grows j (omega arith)),
      ap (λ j. length (sofar j)) next,
      ap length (grows (i + k) (omega arith)),
      length-append (sofar (i + k)) (piece (i + k)),
    )

-- There is room for what n turns write.
module _ (sofar piece : ℕ → List ℕ) (n : ℕ) (grows : Grows sofar piece n) (a : Text) (fits : Fits a (sofar n))
    (i : ℕ) (turn : i < n) {b : Text} (wrote : Appends a (sofar i) b) where
  fits_turn : Fits a (sofar i ++ piece i)
  fits_turn =
      let all : i + 1 + (n - (i + 1)) ≡ n = omega arith in
      let long = longer sofar piece (i + 1) (n - (i + 1)) (rw all grows) in
      omega (arith, ap length (grows i turn), rw all at long)

  pub piece_fits : Fits b (piece i)
  piece_fits = fits_more wrote (piece i) fits_turn

  pub wrote_more : {c : Text} → Appends b (piece i) c → Appends a (sofar (i + 1)) c
  wrote_more wrote-piece = appends_as (sym (grows i turn)) (appends_more wrote (piece i) fits_turn wrote-piece)

-- The elements of a list, one a turn. There is room for them all.
module _ (f : ℕ → List ℕ) (xs : List ℕ) (a : Text) (fits : Fits a (flat_map f xs)) (i : ℕ) (turn : i < length xs) {b : Text}
    (wrote : Appends a (flat_map f (take i xs)) b) where
  grows : Grows (λ i. flat_map f (take i xs)) (λ i. f (get_or xs i 0)) (length xs)
  grows i turn = ap (flat_map f) (take_more xs i 0 turn) ∙ sym (flat_map_more f [] (take i xs) (get_or xs i 0))

  all_fit : Fits a (flat_map f (take (length xs) xs))
  all_fit = rw (take_all (length xs) xs (omega arith)) fits

  pub element_fits : Fits b (f (get_or xs i 0))
  element_fits = piece_fits (λ i. flat_map f (take i xs)) (λ i. f (get_or xs i 0)) (length xs) grows a all_fit i turn wrote

  pub element_more : {c : Text} → Appends b (f (get_or xs i 0)) c → Appends a (flat_map f (take (i + 1) xs)) c
  element_more = wrote_more (λ i. flat_map f (take i xs)) (λ i. f (get_or xs i 0)) (length xs) grows a all_fit i turn wrote

-- The numbers from 0 on, one after the other.
counting_more : (n : ℕ) → range_with_len 0 (n + 1) ≡ range_with_len 0 n ++ n ∷ []
counting_more n = sym (map-id (range_with_len 0 (n + 1))) ∙ map-range_with_len_more (λ k. k) 0 n n (omega arith) ∙ ap (λ l. l ++ n ∷ []) (map-id (range_with_len 0 n))

pub joined_counting_grows : (f : ℕ → List ℕ) (n : ℕ) → Grows (λ i. flat_map f (range_with_len 0 i)) f n
joined_counting_grows f n i turn = ap (flat_map f) (counting_more i) ∙ sym (flat_map_more f [] (range_with_len 0 i) i)

pub map_grows : (f : ℕ → ℕ) (n : ℕ) → Grows (λ i. map f (range_with_len 0 i)) (λ i. f i ∷ []) n
map_grows f n i turn = map-range_with_len_more f 0 i i (omega arith)
