-- The first line of a text and the first word of a line.
use Rattle.std.proofs.Common.{◌≡◌, ℕ, zero, suc, ◌+◌, ◌<◌, ◌≤◌, Bool, true, false, cond, not, nat_lt, Some, None, length-drop, List, [], ◌∷◌, length, take, drop, sym, refl, ap, ◌∙◌, ap₂, one-add, arith}
use Rattle.std.specs.List.{position, position_or_len}
use Rattle.std.proofs.lemmas.List.{drop_more, drop_all, take_all, length-take-le}
use Rattle.std.proofs.lemmas.List.Sums.{prefix_len-le-length}
use Rattle.std.proofs.lemmas.Bool.{ltb-true, ltb-false}
use Rattle.std.proofs.lemmas.Option.{none-some}
use Rattle.thin.specs.Words.{put_first, pieces, full, ends_line, lines, is_blank, words}

-- The pieces that follow the first, of what follows its bytes.
abbrev pub later : (cuts : ℕ → Bool) → List ℕ → List (List ℕ)
later cuts [] = []
later cuts (byte ∷ bytes) = pieces cuts bytes

-- How many bytes the first piece has.
abbrev pub first : (cuts : ℕ → Bool) → List ℕ → ℕ
first cuts bytes = position_or_len cuts bytes

pub pieces_are : (cuts : ℕ → Bool) (bytes : List ℕ) → pieces cuts bytes ≡ take (first cuts bytes) bytes ∷ later cuts (drop (first cuts bytes) bytes)
pieces_are cuts [] = refl
pieces_are cuts (byte ∷ bytes) =
    elim (cuts byte) as (λ t. cond t ([] ∷ pieces cuts bytes) (put_first byte (pieces cuts bytes))
    ≡ take (cond (not t) (1 + first cuts bytes) 0) (byte ∷ bytes) ∷ later cuts (drop (cond (not t) (1 + first cuts bytes) 0) (byte ∷ bytes))) [
      | true ↦ refl
      | false ↦ rw one-add (ap (put_first byte) (pieces_are cuts bytes))
    ]

-- What an answer of `position` says of the bytes before the first that passes.
pub found : (p : ℕ → Bool) (bytes : List ℕ) {n : ℕ} → position p bytes ≡ Some n → (n ≡ position_or_len p bytes) × (n < length bytes)
found p bytes {n = n} e = by (nat_lt (position_or_len p bytes) (length bytes)) refl e
  where
    by : (t : Bool) → nat_lt (position_or_len p bytes) (length bytes) ≡ t → cond t (Some (position_or_len p bytes)) None ≡ Some n
        → (n ≡ position_or_len p bytes) × (n < length bytes)
    by true h e =
        let same : n ≡ position_or_len p bytes = cc in
        (same, omega (arith, same, ltb-true _ _ h))
    by false h e = absurd (none-some n e)

pub not_found : (p : ℕ → Bool) (bytes : List ℕ) → position p bytes ≡ None → length bytes ≤ position_or_len p bytes
not_found p bytes e = by (nat_lt (position_or_len p bytes) (length bytes)) refl e
  where
    by : (t : Bool) → nat_lt (position_or_len p bytes) (length bytes) ≡ t → cond t (Some (position_or_len p bytes)) None ≡ None
        → length bytes ≤ position_or_len p bytes
    by true h e = absurd (none-some _ (sym e))
    by false h e = ltb-false _ _ h

-- The first line ends at a 0A, or with the text.
module _ (text : List ℕ) where
  pub line_ended : {n : ℕ} → position ends_line text ≡ Some n → lines text ≡ take n text ∷ lines (drop (n + 1) text)
  line_ended {n = n} e =
      let end = found ends_line text e in
      pieces_are ends_line text ∙ ap (λ i. take i text ∷ later ends_line (drop i text)) (sym end.0)
      ∙ ap (λ l. take n text ∷ later ends_line l) (drop_more text n 0 end.1)

  pub line_last : position ends_line text ≡ None → lines text ≡ text ∷ []
  line_last e =
      let all = not_found ends_line text e in
      pieces_are ends_line text ∙ ap₂ (λ l m. l ∷ later ends_line m) (take_all _ text all) (drop_all _ text all)

-- A number that is not 0 is positive.
pos_of : {n : ℕ} → (n ≡ 0 → ⊥) → 0 < n
pos_of {n = zero} h = absurd (h refl)
pos_of {n = suc n} h = omega arith

-- How many blanks stand at the front.
abbrev pub blanks : List ℕ → ℕ
blanks line = position_or_len (λ b. not (is_blank b)) line

no_blank : (byte : ℕ) (line : List ℕ) → is_blank byte ≡ false → drop (blanks (byte ∷ line)) (byte ∷ line) ≡ byte ∷ line
no_blank byte line e = rw e

words_skip : (line : List ℕ) → words line ≡ words (drop (blanks line) line)
words_skip [] = refl
words_skip (byte ∷ line) = by (is_blank byte) refl (words_skip line)
  where
    by : (t : Bool) → is_blank byte ≡ t → words line ≡ words (drop (blanks line) line)
        → words (byte ∷ line) ≡ words (drop (blanks (byte ∷ line)) (byte ∷ line))
    by true e rest = rw (e, one-add) rest
    by false e rest = ap words (sym (no_blank byte line e))

-- What is left past the blanks is nothing, or begins with a word.
all_blank : (line : List ℕ) → first is_blank (drop (blanks line) line) ≡ 0 → drop (blanks line) line ≡ []
all_blank [] h = refl
all_blank (byte ∷ line) h = by (is_blank byte) refl (all_blank line) h
  where
    by : (t : Bool) → is_blank byte ≡ t → (first is_blank (drop (blanks line) line) ≡ 0 → drop (blanks line) line ≡ [])
        → first is_blank (drop (blanks (byte ∷ line)) (byte ∷ line)) ≡ 0 → drop (blanks (byte ∷ line)) (byte ∷ line) ≡ []
    by true e rest z = rw (e, one-add) (rest (rw (e, one-add) at z))
    by false e rest z =
        let none = sym (ap (first is_blank) (no_blank byte line e)) ∙ z in
        absurd (omega (arith, rw e at none))

-- The pieces after a word are empty, or words too.
later_words : (bytes : List ℕ) → full (later is_blank (drop (first is_blank bytes) bytes)) ≡ words (drop (first is_blank bytes) bytes)
later_words [] = refl
later_words (byte ∷ bytes) = by (is_blank byte) refl (later_words bytes)
  where
    by : (t : Bool) → is_blank byte ≡ t
        → full (later is_blank (drop (first is_blank bytes) bytes)) ≡ words (drop (first is_blank bytes) bytes)
        → full (later is_blank (drop (first is_blank (byte ∷ bytes)) (byte ∷ bytes))) ≡ words (drop (first is_blank (byte ∷ bytes)) (byte ∷ bytes))
    by true e rest =
        let blank : drop (first is_blank (byte ∷ bytes)) (byte ∷ bytes) ≡ byte ∷ bytes = rw e in
        let next : full (pieces is_blank bytes) ≡ words (byte ∷ bytes) = rw e in
        ap (λ l. full (later is_blank l)) blank ∙ next ∙ sym (ap words blank)
    by false e rest = rw (e, one-add) rest

full_some : (word : List ℕ) (others : List (List ℕ)) → 0 < length word → full (word ∷ others) ≡ word ∷ full others
full_some [] others h = absurd (omega arith)
full_some (byte ∷ word) others h = refl

first_word : (start : List ℕ) → 0 < first is_blank start
    → words start ≡ take (first is_blank start) start ∷ words (drop (first is_blank start) start)
first_word start some =
    let long = length-take-le (first is_blank start) start (prefix_len-le-length (λ b. not (is_blank b)) start) in
    ap full (pieces_are is_blank start) ∙ full_some (take (first is_blank start) start) _ (omega arith)
    ∙ ap (λ l. take (first is_blank start) start ∷ l) (later_words start)

pub no_word : (line : List ℕ) → position (λ b. not (is_blank b)) line ≡ None → words line ≡ []
no_word line e = words_skip line ∙ ap words (drop_all _ line (not_found (λ b. not (is_blank b)) line e))

-- A word begins past the k blanks of a line.
module _ (line : List ℕ) {k : ℕ} (at : position (λ b. not (is_blank b)) line ≡ Some k) where
  abbrev pub start : List ℕ
  start = drop k line

  word_here : words line ≡ take (first is_blank start) start ∷ words (drop (first is_blank start) start)
  word_here =
      let place = found (λ b. not (is_blank b)) line at in
      let long = length-drop k line in
      words_skip line ∙ ap (λ i. words (drop i line)) (sym place.0)
      ∙ first_word start (pos_of (λ none. omega (arith, place.1, long, ap length (ap (λ i. drop i line) place.0 ∙ all_blank line (sym (ap (λ i. first is_blank (drop i line)) place.0) ∙ none)))))

  pub word_ended : {n : ℕ} → position is_blank start ≡ Some n → words line ≡ take n start ∷ words (drop n start)
  word_ended {n = n} e =
      word_here ∙ ap (λ i. take i start ∷ words (drop i start)) (sym (found is_blank start e).0)

  pub word_last : position is_blank start ≡ None → words line ≡ start ∷ []
  word_last e =
      let all = not_found is_blank start e in
      word_here ∙ ap₂ (λ l m. l ∷ words m) (take_all _ start all) (drop_all _ start all)

put_first_length : (byte : ℕ) (others : List (List ℕ)) → 0 < length others → length (put_first byte others) ≡ length others
put_first_length byte [] h = absurd (omega arith)
put_first_length byte (piece ∷ others) h = refl

few_pieces : (cuts : ℕ → Bool) (bytes : List ℕ) → (0 < length (pieces cuts bytes)) × (length (pieces cuts bytes) ≤ length bytes + 1)
few_pieces cuts [] = (omega arith, omega arith)
few_pieces cuts (byte ∷ bytes) =
    let rest = few_pieces cuts bytes in
    let same = put_first_length byte (pieces cuts bytes) rest.0 in
    elim (cuts byte) as (λ t. let found = cond t ([] ∷ pieces cuts bytes) (put_first byte (pieces cuts bytes)) in (0 < length found) × (length found ≤ length (byte ∷ bytes) + 1)) [
      | true ↦ (omega arith, omega (arith, rest.1))
      | false ↦ (omega (arith, rest.0, same), omega (arith, rest.1, same))
    ]

pub few_lines : (text : List ℕ) → length (lines text) ≤ length text + 1
few_lines text = (few_pieces ends_line text).1
