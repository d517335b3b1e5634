-- Four runs of blocks, copies, voted copies, line and earlier line, are a plate's cells.
use Rattle.std.proofs.Common.{◌≡◌, ℕ, ◌+◌, ◌*◌, ◌<◌, ◌≤◌, List, length, get_or, Some, Option, sym, ap, ◌∙◌, inl, inr, mul-one, arith}
use Rattle.plate.specs.LayCall.{CellsLaid}
use Rattle.plate.specs.Layout.{copy_at, voted_at, line_at, earlier_at, size_of}
use Rattle.plate.specs.Painted.{BlocksPainted}
use Rattle.plate.proofs.Grids.{place_in}

-- A place of a plane, and of all planes.
pub place_below : (side r c : ℕ) → r < side → c < side → r * side + c < side * side
place_below side r c h l = place_in side side r c h l

pub copy_below : (n side i r c : ℕ) → i < n → r < side → c < side → copy_at side i r c < n * (side * side)
copy_below n side i r c h k l = place_in n (side * side) i (r * side + c) h (place_below side r c k l)

module _ {C : Type 0} (named : ℕ → Option C) (n side : ℕ) (tape : List ℕ) (v₀ v₁ v₂ v₃ v₄ : List C)
    (copied : BlocksPainted named 0 n (side * side) tape v₀ v₁)
    (voted : BlocksPainted named (n * (side * side)) n (side * side) tape v₁ v₂)
    (lined : BlocksPainted named (2 * (n * (side * side))) n 1 tape v₂ v₃)
    (kept : BlocksPainted named (2 * (n * (side * side)) + n) n 1 tape v₃ v₄) where
  abbrev all : ℕ
  all = n * (side * side)

  -- What the last two runs and the run of voted copies leave below them.
  below_lines : (k : ℕ) (d : C) → k < 2 * all → get_or v₄ k d ≡ get_or v₂ k d
  below_lines k d h = kept.outside k d (inl (omega arith)) ∙ lined.outside k d (inl h)

  in_copies : (i r c : ℕ) (d : C) → i < n → r < side → c < side → Some (get_or v₄ (copy_at side i r c) d) ≡ named (get_or tape i 0)
  in_copies i r c d h k l =
      let at = copy_at side i r c in
      let below = copy_below n side i r c h k l in
      let same : 0 + at ≡ at = omega arith in
      ap Some (below_lines at d (omega arith) ∙ voted.outside at d (inl below)) ∙ sym (ap (λ m. Some (get_or v₁ m d)) same)
      ∙ copied.inside i (r * side + c) d h (place_below side r c k l)

  in_voted : (i r c : ℕ) (d : C) → i < n → r < side → c < side → Some (get_or v₄ (voted_at n side i r c) d) ≡ named (get_or tape i 0)
  in_voted i r c d h k l =
      ap Some (below_lines (voted_at n side i r c) d (omega (arith, copy_below n side i r c h k l)))
      ∙ voted.inside i (r * side + c) d h (place_below side r c k l)

  -- A block of one cell.
  one_cell : (from i : ℕ) (xs : List C) (d : C) → get_or xs (from + (i * 1 + 0)) d ≡ get_or xs (from + i) d
  one_cell from i xs d = let same : from + (i * 1 + 0) ≡ from + i = omega arith in ap (λ m. get_or xs m d) same

  in_line : (i : ℕ) (d : C) → i < n → Some (get_or v₄ (line_at n side i) d) ≡ named (get_or tape i 0)
  in_line i d h =
      ap Some (kept.outside (line_at n side i) d (inl (omega arith)) ∙ sym (one_cell (2 * all) i v₃ d)) ∙ lined.inside i 0 d h (omega arith)

  in_earlier : (i : ℕ) (d : C) → i < n → Some (get_or v₄ (earlier_at n side i) d) ≡ named (get_or tape i 0)
  in_earlier i d h = ap Some (sym (one_cell (2 * all + n) i v₄ d)) ∙ kept.inside i 0 d h (omega arith)

  past_all : (k : ℕ) (d : C) → size_of n side ≤ k → get_or v₄ k d ≡ get_or v₀ k d
  past_all k d h =
      let one = mul-one n in
      kept.outside k d (inr (omega arith)) ∙ lined.outside k d (inr (omega arith)) ∙ voted.outside k d (inr (omega arith))
      ∙ copied.outside k d (inr (omega arith))

  cells_laid : length v₄ ≡ length v₀ → CellsLaid named n side tape v₀ v₄
  cells_laid long = record { copies = in_copies; voted = in_voted; line = in_line; earlier = in_earlier; beyond = past_all; long = long }

-- The same, where the length of the tape, the area and the number of copies are at hand.
pub laid_of : {C : Type 0} (named : ℕ → Option C) (n side : ℕ) (tape : List ℕ) (long area copies : ℕ) (v₀ v₁ v₂ v₃ v₄ : List C)
    → long ≡ n → area ≡ side * side → copies ≡ n * (side * side) → BlocksPainted named 0 long area tape v₀ v₁
    → BlocksPainted named copies long area tape v₁ v₂ → BlocksPainted named (2 * copies) long 1 tape v₂ v₃
    → BlocksPainted named (2 * copies + n) long 1 tape v₃ v₄ → length v₄ ≡ length v₀ → CellsLaid named n side tape v₀ v₄
laid_of named n side tape long area copies v₀ v₁ v₂ v₃ v₄ l a k copied voted lined kept =
    cells_laid named n side tape v₀ v₁ v₂ v₃ v₄ (rw (l, a) at copied) (rw (l, a, k) at voted) (rw (l, k) at lined) (rw (l, k) at kept)
