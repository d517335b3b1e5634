-- The planes of a memory's copies, and the cells of its line, taken one after the other.
use Rattle.std.proofs.Common.{◌≡◌, ℕ, ◌+◌, ◌-◌, ◌*◌, ◌<◌, ◌≤◌, List, ◌∷◌, ◌++◌, length, get_or, take, drop, sym, ap, ◌∙◌, inl, inr, add-mul, arith}
use Rattle.std.proofs.Math.Nat.{lt_of_mul-lt-mul_right}
use Rattle.std.proofs.lemmas.Bool.{cases_lt}
use Rattle.std.proofs.lemmas.Nat.{mul-le}
use Rattle.std.proofs.lemmas.List.{length-append, length-drop, length-take-le, get_or-drop, get_or-take, drop-drop, drop-take, take-take, take_at, drop_at}
use Rattle.plate.specs.Board.{plane_of}
use Rattle.plate.specs.Layout.{line_at, size_of}
use Rattle.plate.proofs.Grids.{block_in}

-- What is left of a list whose element y comes at place i.
pub one_taken : {X : Type 0} (all rest later : List X) (i : ℕ) (y : X) → rest ≡ drop i all → rest ≡ y ∷ later
    → (i < length all) × (y ≡ get_or all i y) × (later ≡ drop (i + 1) all)
one_taken all rest later i y is first =
    let long : length rest ≡ length all - i = ap length is ∙ length-drop i all in
    let more : length rest ≡ length later + 1 = ap length first ∙ omega arith in
    let here : i + 0 ≡ i = omega arith in (
      omega arith,
      ap (λ xs. get_or xs 0 y) (sym first ∙ is) ∙ get_or-drop i all 0 y ∙ ap (λ k. get_or all k y) here,
      ap (drop 1) (sym first ∙ is) ∙ drop-drop 1 i all,
    )

pub area_some : (side : ℕ) → 2 ≤ side → 1 ≤ side * side
area_some side h = mul-le 1 1 side side (omega arith) (omega arith)

module _ {C : Type 0} (cells : List C) (n side : ℕ) where
  -- What is left of the copies after i planes.
  abbrev pub planes_left : ℕ → List C
  planes_left i = drop (i * (side * side)) (take (n * (side * side)) cells)

  abbrev pub line_of : List C
  line_of = take n (drop (2 * (n * (side * side))) cells)

  module _ (fits : size_of n side ≤ length cells) where
    copies_long : length (take (n * (side * side)) cells) ≡ n * (side * side)
    copies_long = length-take-le (n * (side * side)) cells (omega arith)

    left_long : (i : ℕ) → length (planes_left i) ≡ n * (side * side) - i * (side * side)
    left_long i = length-drop (i * (side * side)) (take (n * (side * side)) cells) ∙ ap (λ m. m - i * (side * side)) copies_long

    -- A whole chunk of the copies is a plane.
    pub chunk_is : (i : ℕ) → i * (side * side) + side * side ≤ n * (side * side)
        → take (side * side) (planes_left i) ≡ plane_of cells side i
    chunk_is i h =
        let from = i * (side * side) in
        let rest : n * (side * side) ≡ from + (n * (side * side) - from) = omega arith in
        ap (λ m. take (side * side) (drop from (take m cells))) rest
        ∙ ap (take (side * side)) (drop-take from (n * (side * side) - from) cells)
        ∙ take-take (side * side) (n * (side * side) - from) (drop from cells) (omega arith)

    -- One plane more.
    pub plane_taken : 1 ≤ side * side → (rest plane later : List C) (i : ℕ) → rest ≡ planes_left i → rest ≡ plane ++ later
        → length plane ≡ side * side → (i < n) × (plane ≡ plane_of cells side i) × (later ≡ planes_left (i + 1))
    plane_taken some rest plane later i is first long =
        let all : length rest ≡ n * (side * side) - i * (side * side) = ap length is ∙ left_long i in
        let parts : length rest ≡ length plane + length later = ap length first ∙ length-append plane later in
        let within : i * (side * side) + side * side ≤ n * (side * side) = omega arith in
        let next : i * (side * side) + side * side ≡ (i + 1) * (side * side) = omega (arith, add-mul i 1 (side * side)) in (
          lt_of_mul-lt-mul_right (side * side) (let less : i * (side * side) < n * (side * side) = omega arith in less),
          sym (take_at plane later (side * side) long) ∙ ap (take (side * side)) (sym first ∙ is) ∙ chunk_is i within,
          sym (drop_at plane later (side * side) long) ∙ ap (drop (side * side)) (sym first ∙ is)
              ∙ drop-drop (side * side) (i * (side * side)) (take (n * (side * side)) cells)
              ∙ ap (λ k. drop k (take (n * (side * side)) cells)) next,
        )

    -- No whole plane is left: all were taken.
    pub planes_taken : (rest : List C) (i : ℕ) → rest ≡ planes_left i → length rest < side * side → i ≤ n → i ≡ n
    planes_taken rest i is short le =
        elim (cases_lt i n) [
          | inl less ↦
              let all : length rest ≡ n * (side * side) - i * (side * side) = ap length is ∙ left_long i in
              let one : i * (side * side) + side * side ≤ n * (side * side) = block_in n (side * side) i less in
              absurd (omega arith)
          | inr more ↦ omega arith
        ]

    line_long : length line_of ≡ n
    line_long = length-take-le n (drop (2 * (n * (side * side))) cells) (omega (arith, length-drop (2 * (n * (side * side))) cells))

    -- One cell of the line more.
    pub line_taken : (rest later : List C) (i : ℕ) (y : C) → rest ≡ drop i line_of → rest ≡ y ∷ later
        → (y ≡ get_or cells (line_at n side i) y) × (later ≡ drop (i + 1) line_of)
    line_taken rest later i y is first =
        let one = one_taken line_of rest later i y is first in (
          one.1 ∙ get_or-take n (drop (2 * (n * (side * side))) cells) i y (omega (arith, line_long, one.0))
              ∙ get_or-drop (2 * (n * (side * side))) cells i y,
          one.2,
        )

    pub line_ends : (rest : List C) (i : ℕ) → rest ≡ drop i line_of → length rest ≡ 0 → i ≤ n → i ≡ n
    line_ends rest i is none le =
        let long : length rest ≡ length line_of - i = ap length is ∙ length-drop i line_of in omega (arith, line_long)
