-- Where the copies lie: two copies at one index have the same place, all copies lie before the line, and a plane lies within the memory.
use Rattle.std.proofs.Common.{◌≡◌, ℕ, ◌+◌, ◌*◌, ◌/◌, ◌%◌, ◌<◌, ◌≤◌, List, length, drop, sym, ap, ◌∙◌, mul_assoc, mul_comm, add-mul, arith}
use Rattle.std.proofs.lemmas.Nat.{div-mul-add, mod-mul-add, mul-add-lt, mul-le}
use Rattle.std.proofs.lemmas.List.{length-drop, length-take-le}
use Rattle.plate.specs.Board.{plane_of}
use Rattle.plate.specs.Layout.{copy_at, line_at, size_of}

-- Counted by rows, the copy is in row i * side + r of all planes.
by_rows : (side i r c : ℕ) → copy_at side i r c ≡ (i * side + r) * side + c
by_rows side i r c = omega (arith, add-mul (i * side) r side, mul_assoc i side side)

pub same_place : (side i r c j row column : ℕ) → r < side → c < side → row < side → column < side
    → copy_at side i r c ≡ copy_at side j row column → (r ≡ row) × (c ≡ column)
same_place side i r c j row column r< c< row< column< e =
    let flat : (i * side + r) * side + c ≡ (j * side + row) * side + column = sym (by_rows side i r c) ∙ e ∙ by_rows side j row column in
    let rows : i * side + r ≡ j * side + row =
    sym (div-mul-add (i * side + r) side c c<) ∙ ap (λ n. n / side) flat ∙ div-mul-add (j * side + row) side column column< in (
      sym (mod-mul-add i side r r<) ∙ ap (λ n. n % side) rows ∙ mod-mul-add j side row row<,
      sym (mod-mul-add (i * side + r) side c c<) ∙ ap (λ n. n % side) flat ∙ mod-mul-add (j * side + row) side column column<,
    )

pub before_line : (n side i j r c : ℕ) → j < n → r < side → c < side → copy_at side j r c < line_at n side i
before_line n side i j r c j< r< c< =
    omega (arith, mul-add-lt j (side * side) (r * side + c) n j< (mul-add-lt r side c side r< c<), mul_comm n (side * side))

-- In a memory that holds the shape, plane i is whole.
pub plane_whole : {C : Type 0} (cells : List C) (n side i : ℕ) → size_of n side ≤ length cells → i < n
    → length (plane_of cells side i) ≡ side * side
plane_whole cells n side i fits i< =
    let below : (i + 1) * (side * side) ≤ n * (side * side) = mul-le (i + 1) (side * side) n (side * side) (omega arith) (omega arith) in
    length-take-le (side * side) (drop (i * (side * side)) cells)
    (rw (length-drop (i * (side * side)) cells) (omega (arith, add-mul i 1 (side * side))))
