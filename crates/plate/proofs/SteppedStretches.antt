-- A stretch of strands stepped in one sweep, as if they were one strand, and then the ends of each again.
use Rattle.std.proofs.Common.{◌≡◌, ℕ, ◌+◌, ◌-◌, ◌*◌, ◌<◌, ◌≤◌, ◌⊎◌, List, length, get_or, set, sym, refl, ap, ◌∙◌, inl, inr, mul-le-mul_right, add-mul, arith}
use Rattle.std.proofs.lemmas.Bool.{cases_eq, cases_lt}
use Rattle.toom.specs.declared.shadow.stretches.Stretch.{Stretch}
use Rattle.hosts.specs.Ring.{stepped}
use Rattle.plate.specs.Sweep.{HostAnswers, Swept}
use Rattle.plate.specs.Wounds.{AtPlace, InStretch, PlacesWritten, StrandsStepped, strand_at}
use Rattle.plate.proofs.Grids.{place_in}
use Rattle.plate.proofs.Rings.{Needed, final_block, first_block, inner_blocks}
use Rattle.plate.proofs.Sweeps.{three}
use Rattle.plate.proofs.SweptPlaces.{Among}
use Rattle.plate.proofs.WrittenPlaces.{steps_stay, strand_cell_written, strands_written, written_join}

abbrev pub IsEnd : (n i : ℕ) → Type 0
IsEnd n i = (i ≡ 0) ⊎ (i + 1 ≡ n)

abbrev pub IsInner : (n i : ℕ) → Type 0
IsInner n i = (0 < i) × (i + 1 < n)

end_cases : (n i : ℕ) → i < n → IsEnd n i ⊎ IsInner n i
end_cases n i hi =
    elim (cases_lt 0 i) [
      | inl some ↦ elim (cases_lt (i + 1) n) [ inl l ↦ inr (some, l) | inr g ↦ inl (inr (omega arith)) ]
      | inr none ↦ inl (inl (omega arith))
    ]

no_end : (n i : ℕ) → IsInner n i → IsEnd n i → ⊥
no_end n i inner end = elim end [ inl z ↦ omega (arith, inner.0) | inr z ↦ omega (arith, inner.1) ]

-- The sweep steps what is no end. Then the ends are stepped, a column after the other.
abbrev pub Done : (n column i r c : ℕ) → Type 0
Done n column i r c = (c < column) ⊎ IsInner n i

-- Of the strands of a stretch the cells that are done are stepped, and the others are anything. What is of no strand of the stretch stays.
pub record StretchStepped {C : Type 0} (host : C → C → C → C) (n side : ℕ) (x : Stretch) (done : Among) (before after : List C) : Type 0 where
  pub inside : (i r c : ℕ) (d : C) → i < n → r < side → c < side → InStretch x i r c → done i r c
      → get_or after (n * (side * side) + strand_at n side i r c) d ≡ stepped host n (λ k. get_or before (strand_at n side k r c) d) i
  pub others : (i r c : ℕ) (d : C) → i < n → r < side → c < side → (InStretch x i r c → ⊥)
      → get_or after (n * (side * side) + strand_at n side i r c) d ≡ get_or before (n * (side * side) + strand_at n side i r c) d
  pub outside : (k : ℕ) (d : C) → (k < n * (side * side)) ⊎ (n * (side * side) + n * (side * side) ≤ k) → get_or after k d ≡ get_or before k d

module _ {C : Type 0} (host : C → C → C → C) (n side : ℕ) where
  -- The host's answer to the three cells that a cell of a ring needs is its step.
  answered : (from i a b c : ℕ) (xs : List C) (d : C) → Needed from n 1 i 0 a b c
      → host (get_or xs a d) (get_or xs b d) (get_or xs c d) ≡ stepped host n (λ k. get_or xs (from + k) d) i
  answered from i a b c xs d at =
      three host (ap (λ m. get_or xs m d) (omega (arith, at.0))) (ap (λ m. get_or xs m d) (omega (arith, at.1)))
      (ap (λ m. get_or xs m d) (omega (arith, at.2)))

  module _ (more : 2 ≤ n) where
    -- The two ends of one strand.
    pub ends_written : (r c to first last : ℕ) → r < side → c < side → to ≡ n * (side * side) → first ≡ (r * side + c) * n → last ≡ first + (n - 1)
        → (old mid new : List C) (x y : C) → to + last < length old → length mid ≡ length old → mid ≡ set old (to + first) x → new ≡ set mid (to + last) y
        → ((d : C) → x ≡ host (get_or old last d) (get_or old first d) (get_or old (first + 1) d))
        → ((d : C) → y ≡ host (get_or old (last - 1) d) (get_or old last d) (get_or old first d))
        → StrandsStepped host n side (λ k p q. IsEnd n k × AtPlace r c k p q) old new
    ends_written r c to first last hr hc is-to is-first is-last old mid new x y within long put-x put-y x-is y-is =
        written_join n side (n * (side * side)) (strand_at n side) (value old) (value mid) _ _ _ old mid new one two
        (λ i p q d hi hp hq here. steps_stay host n side old mid one.outside i p q d hi hp hq) (λ i p q a b. omega (arith, a.0, b.0))
        (λ i p q hp hq here. elim here.0 [ inl z ↦ inl (z, here.1) | inr z ↦ inr (omega (arith, z), here.1) ])
        (λ i p q a. (inl a.0, a.1)) (λ i p q hp hq b. (inr (omega (arith, b.0)), b.1))
      where
        value : List C → (i p q : ℕ) → C → C
        value xs i p q d = stepped host n (λ k. get_or xs (strand_at n side k p q) d) i

        one : PlacesWritten n side (n * (side * side)) (strand_at n side) (λ i p q. (i ≡ 0) × AtPlace r c i p q) (value old) old mid
        one =
            let needs = first_block ((r * side + c) * n) n 1 more 0 0 0 (omega arith) (omega arith) (omega arith) (omega arith) in
            strand_cell_written n side (n * (side * side)) (value old) 0 r c (to + first) (omega arith) hr hc (omega (arith, is-to, is-first)) old mid (λ d. x)
            (omega (arith, within, is-last)) (λ d. put-x)
            (λ d.
            x-is d
            ∙ answered ((r * side + c) * n) 0 last first (first + 1) old d
            (omega (arith, needs.0, is-first, is-last), omega (arith, is-first), omega (arith, needs.2, is-first)))

        two : PlacesWritten n side (n * (side * side)) (strand_at n side) (λ i p q. (i ≡ n - 1) × AtPlace r c i p q) (value mid) mid new
        two =
            let needs = final_block ((r * side + c) * n) n 1 more 0 (n - 1) 0 (omega arith) (omega arith) (omega arith) (omega arith) in
            strand_cell_written n side (n * (side * side)) (value mid) (n - 1) r c (to + last) (omega arith) hr hc (omega (arith, is-to, is-first, is-last)) mid new (λ d. y)
            (omega (arith, within, long)) (λ d. put-y)
            (λ d.
            y-is d
            ∙ answered ((r * side + c) * n) (n - 1) (last - 1) last first old d
            (omega (arith, needs.0, is-first, is-last), omega (arith, is-first, is-last), omega (arith, needs.2, is-first))
            ∙ sym (steps_stay host n side old mid one.outside (n - 1) r c d (omega arith) hr hc))

    -- The sweep over a stretch.
    pub inner_stepped : (x : Stretch) → x.row < side → x.column + x.length ≤ side → 1 ≤ x.length → (to from : ℕ) → to ≡ n * (side * side) + from
        → from ≡ (x.row * side + x.column) * n → (old new : List C) → Swept (to + 1) (x.length * n - 2) (HostAnswers host from (from + 1) (from + 2) old) old new
        → StretchStepped host n side x (Done n x.column) old new
    inner_stepped x hr hc some to from is-to is-from old new s =
        record {
          inside = λ i r c d hi hr' hc' here done.
              elim done [
                | inl l ↦ absurd (omega (arith, l, here.1.0))
                | inr inner ↦
                    let q = c - x.column in
                    let j = q * n + (i - 1) in
                    let first = (r * side + c) * n in
                    let low : q < x.length = omega (arith, here.1.0, here.1.1) in
                    let strand : r * side + c ≡ x.row * side + x.column + q = omega (arith, here.1.0, ap (λ m. m * side) here.0) in
                    let split : first ≡ from + q * n = ap (λ m. m * n) strand ∙ add-mul (x.row * side + x.column) q n ∙ ap (λ m. m + q * n) (sym is-from) in
                    let place : n * (side * side) + strand_at n side i r c ≡ to + 1 + j = omega (arith, is-to, split, inner.0) in
                    let needs = inner_blocks first n 1 more (i - 1) i 0 (omega (arith, inner.0, inner.1)) hi (omega arith) (omega (arith, inner.0)) in
                    ap (λ m. get_or new m d) place ∙ s.inside j d (omega (arith, place_in x.length n q (i + 1) low inner.1, inner.0))
                    ∙ answered first i (from + j) (from + 1 + j) (from + 2 + j) old d
                    (omega (arith, needs.0, split), omega (arith, needs.1, split), omega (arith, needs.2, split))
              ];
          others = written.others;
          outside = written.outside;
        }
      where
        -- Whatever the strands of the stretch become, the sweep writes no others.
        written : PlacesWritten n side (n * (side * side)) (strand_at n side) (InStretch x) (λ i r c d. get_or new (n * (side * side) + strand_at n side i r c) d) old new
        written =
            strands_written n side (n * (side * side)) (λ i r c d. get_or new (n * (side * side) + strand_at n side i r c) d) x.row x.column x.length to hr hc
            (omega (arith, is-to, is-from)) (λ j d y. y ≡ get_or new (to + j) d) old new
            (record {
              inside = λ j d h. refl;
              outside = λ k d h. s.outside k d (elim h [ inl l ↦ inl (omega arith) | inr g ↦ inr (omega (arith, mul-le-mul_right {m = 1} {n = x.length} n some)) ]);
            })
            (λ q k d y hq hk is. is ∙ ap (λ m. get_or new m d) (omega (arith, is-to, is-from, add-mul (x.row * side + x.column) q n)))

  module _ (x : Stretch) (column : ℕ) where
    -- One strand's ends more.
    pub ends_stepped : x.column ≤ column → column < x.column + x.length → (old mid new : List C) → StretchStepped host n side x (Done n column) old mid
        → StrandsStepped host n side (λ k p q. IsEnd n k × AtPlace x.row column k p q) mid new → StretchStepped host n side x (Done n (column + 1)) old new
    ends_stepped low high old mid new a b =
        record {
          inside = λ i r c d hi hr hc here done.
              elim (end_cases n i hi) [
                | inl end ↦
                    elim (cases_eq c column) [
                      | inl same ↦ b.inside i r c d hi hr hc (end, (here.0, same)) ∙ steps_stay host n side old mid a.outside i r c d hi hr hc
                      | inr ne ↦ b.others i r c d hi hr hc (λ z. ne z.1.1) ∙ a.inside i r c d hi hr hc here (earlier i r c end ne done)
                    ]
                | inr inner ↦ b.others i r c d hi hr hc (λ z. no_end n i inner z.0) ∙ a.inside i r c d hi hr hc here (inr inner)
              ];
          others = λ i r c d hi hr hc out.
              b.others i r c d hi hr hc (λ z. out (z.1.0, (omega (arith, z.1.1), omega (arith, z.1.1)))) ∙ a.others i r c d hi hr hc out;
          outside = λ k d h. b.outside k d h ∙ a.outside k d h;
        }
      where
        earlier : (i r c : ℕ) → IsEnd n i → (c ≡ column → ⊥) → Done n (column + 1) i r c → Done n column i r c
        earlier i r c end ne done = elim done [ inl l ↦ inl (omega arith) | inr inner ↦ absurd (no_end n i inner end) ]

    -- After the last column all are done.
    pub all_stepped : x.column + x.length ≤ column → (old new : List C) → StretchStepped host n side x (Done n column) old new
        → StrandsStepped host n side (InStretch x) old new
    all_stepped last old new a = record {
      inside = λ i r c d hi hr hc here. a.inside i r c d hi hr hc here (inl (omega (arith, here.1.1)));
      others = a.others;
      outside = a.outside;
    }
