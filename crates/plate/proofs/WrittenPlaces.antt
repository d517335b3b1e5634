-- Places of the planes written one after another.
use Rattle.std.proofs.Common.{◌≡◌, ℕ, ◌+◌, ◌-◌, ◌*◌, ◌<◌, ◌≤◌, ◌≢◌, ◌⊎◌, Bool, true, false, List, length, get_or, set, get_or-set_other, get_or-set_same, sym, refl, ap, ◌∙◌, subst, inl, inr, add-mul, mul_comm, mul-le-mul_right, one-mul, arith}
use mathlib.Core.Bool.{cond}
use Rattle.std.proofs.lemmas.Bool.{cases_lt}
use Rattle.toom.specs.Torus.{Plane, next}
use Rattle.toom.specs.Vote.{vote_of, voted}
use Rattle.hosts.specs.Ring.{stepped}
use Rattle.plate.specs.BeatCall.{copies}
use Rattle.plate.specs.Layout.{copy_at, line_at, size_of}
use Rattle.plate.specs.Sweep.{Swept, Wanted}
use Rattle.plate.specs.Wounds.{PlacesWritten, kept_at, seen, seen_at, strand_at}
use Rattle.plate.proofs.Grids.{block_in, one_place, place_in}
use Rattle.plate.proofs.Sweeps.{three}
use Rattle.plate.proofs.SweptBeats.{stepped_same}
use Rattle.plate.proofs.SweptPlaces.{Among, copy_in, one_copy}

module _ {C : Type 0} (n side base : ℕ) (at : (i r c : ℕ) → ℕ) (value : (i r c : ℕ) → C → C) where
  pub none_written : (xs : List C) (A : Among) → ((i r c : ℕ) → i < n → r < side → c < side → A i r c → ⊥) → PlacesWritten n side base at A value xs xs
  none_written xs A none = record {
    inside = λ i r c d hi hr hc a. absurd (none i r c hi hr hc a);
    others = λ i r c d hi hr hc out. refl;
    outside = λ k d h. refl;
  }

  -- The same places, said another way.
  pub written_same : (A B : Among) (old new : List C) → PlacesWritten n side base at A value old new
      → ((i r c : ℕ) → i < n → r < side → c < side → A i r c → B i r c)
      → ((i r c : ℕ) → i < n → r < side → c < side → B i r c → A i r c) → PlacesWritten n side base at B value old new
  written_same A B old new a there back = record {
    inside = λ i r c d hi hr hc b. a.inside i r c d hi hr hc (back i r c hi hr hc b);
    others = λ i r c d hi hr hc out. a.others i r c d hi hr hc λ x. out (there i r c hi hr hc x);
    outside = a.outside;
  }

  -- Some places and then others.
  pub written_join : (later : (i r c : ℕ) → C → C) (A B D : Among) (old mid new : List C)
      → PlacesWritten n side base at A value old mid → PlacesWritten n side base at B later mid new
      → ((i r c : ℕ) (d : C) → i < n → r < side → c < side → B i r c → later i r c d ≡ value i r c d)
      → ((i r c : ℕ) → A i r c → B i r c → ⊥) → ((i r c : ℕ) → r < side → c < side → D i r c → A i r c ⊎ B i r c)
      → ((i r c : ℕ) → A i r c → D i r c) → ((i r c : ℕ) → r < side → c < side → B i r c → D i r c)
      → PlacesWritten n side base at D value old new
  written_join later A B D old mid new a b agree apart splits first second = record {
    inside = λ i r c d hi hr hc l.
        elim (splits i r c hr hc l) [
          | inl x ↦ b.others i r c d hi hr hc (apart i r c x) ∙ a.inside i r c d hi hr hc x
          | inr y ↦ b.inside i r c d hi hr hc y ∙ agree i r c d hi hr hc y
        ];
    others = λ i r c d hi hr hc out.
        b.others i r c d hi hr hc (λ y. out (second i r c hr hc y)) ∙ a.others i r c d hi hr hc λ x. out (first i r c x);
    outside = λ k d h. b.outside k d h ∙ a.outside k d h;
  }

  -- One more of the places with a property, counted by a plane, a row or a column.
  module _ (by : (i r c : ℕ) → ℕ) (X : Among) (j : ℕ) (old mid : List C)
      (a : PlacesWritten n side base at (λ i r c. (by i r c < j) × X i r c) value old mid) where
    pub each_more : (later : (i r c : ℕ) → C → C) (new : List C) → PlacesWritten n side base at (λ i r c. (by i r c ≡ j) × X i r c) later mid new
        → ((i r c : ℕ) (d : C) → i < n → r < side → c < side → (by i r c ≡ j) × X i r c → later i r c d ≡ value i r c d)
        → PlacesWritten n side base at (λ i r c. (by i r c < j + 1) × X i r c) value old new
    each_more later new b agree =
        written_join later _ _ _ old mid new a b agree (λ i r c x y. omega arith)
        (λ i r c hr hc x. elim (cases_lt (by i r c) j) [ inl l ↦ inl (l, x.1) | inr g ↦ inr (omega arith, x.1) ])
        (λ i r c x. (omega arith, x.1)) (λ i r c hr hc y. (omega arith, y.1))

-- One cell, where no two have the same place.
module _ {C : Type 0} (n side base : ℕ) (at : (i r c : ℕ) → ℕ) (value : (i r c : ℕ) → C → C)
    (one : (i r c k p q : ℕ) → i < n → r < side → c < side → k < n → p < side → q < side → at i r c ≡ at k p q → (i ≡ k) × ((r ≡ p) × (c ≡ q)))
    (within : (i r c : ℕ) → i < n → r < side → c < side → at i r c < n * (side * side)) where
  cell_written : (i r c to : ℕ) → i < n → r < side → c < side → to ≡ base + at i r c → (xs new : List C) (x : C → C) → to < length xs
      → ((d : C) → new ≡ set xs to (x d)) → ((d : C) → x d ≡ value i r c d)
      → PlacesWritten n side base at (λ k p q. (k ≡ i) × ((p ≡ r) × (q ≡ c))) value xs new
  cell_written i r c to hi hr hc is xs new x long written meant = record {
    inside = λ k p q d hk hp hq same.
        let place : base + at k p q ≡ to =
        (λ z. base + at (same.0 z) (same.1.0 z) (same.1.1 z)) ∙ sym is in
        ap (λ m. get_or new m d) place ∙ ap (λ ys. get_or ys to d) (written d) ∙ get_or-set_same xs to (x d) d long ∙ meant d
        ∙ (λ z. value (sym same.0 z) (sym same.1.0 z) (sym same.1.1 z) d);
    others = λ k p q d hk hp hq out.
        let ne : base + at k p q ≢ to =
        λ e.
        let same : at k p q ≡ at i r c = omega (arith, e, is) in
        out (one k p q i r c hk hp hq hi hr hc same) in
        ap (λ ys. get_or ys (base + at k p q) d) (written d) ∙ get_or-set_other xs to (base + at k p q) (x d) d ne;
    outside = λ k d h.
        let ne : k ≢ to =
        elim h [ inl l ↦ λ e. omega (arith, e, is) | inr g ↦ λ e. omega (arith, e, is, within i r c hi hr hc) ] in
        ap (λ ys. get_or ys k d) (written d) ∙ get_or-set_other xs to k (x d) d ne;
  }

module _ {C : Type 0} (n side base : ℕ) (value : (i r c : ℕ) → C → C) where
  -- One copy of one plane.
  pub copy_written : (i r c to : ℕ) → i < n → r < side → c < side → to ≡ base + copy_at side i r c → (xs new : List C) (x : C → C) → to < length xs
      → ((d : C) → new ≡ set xs to (x d)) → ((d : C) → x d ≡ value i r c d)
      → PlacesWritten n side base (copy_at side) (λ k p q. (k ≡ i) × ((p ≡ r) × (q ≡ c))) value xs new
  copy_written =
      cell_written n side base (copy_at side) value (λ i r c k p q hi hr hc hk hp hq e. one_copy side i r c k p q hr hc hp hq e) (copy_in n side)

-- A strand lies among the strands.
pub strand_in : (n side i r c : ℕ) → i < n → r < side → c < side → strand_at n side i r c < n * (side * side)
strand_in n side i r c hi hr hc =
    omega (arith, place_in (side * side) n (r * side + c) i (place_in side side r c hr hc) hi, mul_comm n (side * side))

-- And each of its cells is of one plane and one place.
one_strand : (n side i r c k p q : ℕ) → i < n → r < side → c < side → k < n → p < side → q < side → strand_at n side i r c ≡ strand_at n side k p q
    → (i ≡ k) × ((r ≡ p) × (c ≡ q))
one_strand n side i r c k p q hi hr hc hk hp hq e =
    let place = one_place n (r * side + c) i (p * side + q) k hi hk e in
    (place.1, one_place side r c p q hc hq place.0)

-- Strands of so many places from one on lie among the strands.
pub places_within : (n side at count : ℕ) → at + count ≤ side * side → at * n + count * n ≤ n * (side * side)
places_within n side at count h =
    omega (arith, add-mul at count n, mul_comm n (side * side), mul-le-mul_right {m = at + count} {n = side * side} n h)

pub strands_within : (n side r c count : ℕ) → r < side → c + count ≤ side → (r * side + c) * n + count * n ≤ n * (side * side)
strands_within n side r c count hr hc = places_within n side (r * side + c) count (omega (arith, block_in side side r hr))

pub strand_within : (n side r c : ℕ) → r < side → c < side → (r * side + c) * n + n ≤ n * (side * side)
strand_within n side r c hr hc = omega (arith, strands_within n side r c 1 hr (omega arith), one-mul n)

module _ {C : Type 0} (n side base : ℕ) (value : (i r c : ℕ) → C → C) where
  -- One cell of one strand.
  pub strand_cell_written : (i r c to : ℕ) → i < n → r < side → c < side → to ≡ base + strand_at n side i r c → (xs new : List C) (x : C → C) → to < length xs
      → ((d : C) → new ≡ set xs to (x d)) → ((d : C) → x d ≡ value i r c d)
      → PlacesWritten n side base (strand_at n side) (λ k p q. (k ≡ i) × ((p ≡ r) × (q ≡ c))) value xs new
  strand_cell_written = cell_written n side base (strand_at n side) value (one_strand n side) (strand_in n side)

  -- Strands of one row, one after another, in one sweep.
  pub strands_written : (r c count to : ℕ) → r < side → c + count ≤ side → to ≡ base + (r * side + c) * n → (wanted : Wanted C) (old new : List C)
      → Swept to (count * n) wanted old new
      → ((q k : ℕ) (d x : C) → q < count → k < n → wanted (q * n + k) d x → x ≡ value k r (c + q) d)
      → PlacesWritten n side base (strand_at n side) (λ k p q. (p ≡ r) × ((c ≤ q) × (q < c + count))) value old new
  strands_written r c count to hr hc is wanted old new s meant = record {
    inside = λ k p q d hk hp hq here.
        let q' = q - c in
        let low : q' < count = omega (arith, here.1.0, here.1.1) in
        let column : c + q' ≡ q = omega (arith, here.1.0) in
        let split : (r * side + q) * n ≡ (r * side + c) * n + q' * n =
        ap (λ m. m * n) (let sum : r * side + q ≡ r * side + c + q' = omega (arith, here.1.0) in sum) ∙ add-mul (r * side + c) q' n in
        let place : base + strand_at n side k p q ≡ to + (q' * n + k) =
        (λ z. base + strand_at n side k (here.0 z) q) ∙ omega (arith, is, split) in
        ap (λ m. get_or new m d) place ∙ meant q' k d _ low hk (s.inside (q' * n + k) d (place_in count n q' k low hk))
        ∙ (λ z. value k (sym here.0 z) (column z) d);
    others = λ k p q d hk hp hq out.
        let at = base + strand_at n side k p q in
        let far : (at < to) ⊎ (to + count * n ≤ at) =
        elim (cases_lt at to) [
          | inl l ↦ inl l
          | inr g ↦
              elim (cases_lt at (to + count * n)) [
                | inl l ↦ absurd (out (between k p q hk hp hq (omega (arith, is)) (omega (arith, is))))
                | inr far ↦ inr far
              ]
        ] in
        s.outside at d far;
    outside = λ k d h.
        s.outside k d (elim h [ inl l ↦ inl (omega (arith, is)) | inr g ↦ inr (omega (arith, is, strands_within n side r c count hr hc)) ]);
  }
    where
      -- A strand that lies among them is of one of their places.
      between : (k p q : ℕ) → k < n → p < side → q < side → (r * side + c) * n ≤ strand_at n side k p q
          → strand_at n side k p q < (r * side + c) * n + count * n → (p ≡ r) × ((c ≤ q) × (q < c + count))
      between k p q hk hp hq low high =
          elim (cases_lt (p * side + q) (r * side + c)) [
            | inl l ↦ absurd (omega (arith, low, block_in (r * side + c) n (p * side + q) l))
            | inr g ↦
                elim (cases_lt (p * side + q) (r * side + c + count)) [
                  | inl l ↦
                      let t = p * side + q - (r * side + c) in
                      let e : p * side + q ≡ r * side + (c + t) = omega arith in
                      let same = one_place side p q r (c + t) hq (omega arith) e in
                      (same.0, (omega (arith, same.1), omega (arith, same.1)))
                  | inr h ↦ absurd (omega (arith, high, add-mul (r * side + c) count n, mul-le-mul_right {m = (r * side + c + count)} {n = (p * side + q)} n h))
                ]
          ]

  -- One strand in one sweep.
  pub strand_written : (r c to : ℕ) → r < side → c < side → to ≡ base + (r * side + c) * n → (wanted : Wanted C) (old new : List C)
      → Swept to n wanted old new → ((j : ℕ) (d x : C) → j < n → wanted j d x → x ≡ value j r c d)
      → PlacesWritten n side base (strand_at n side) (λ k p q. (p ≡ r) × (q ≡ c)) value old new
  strand_written r c to hr hc is wanted old new s meant =
      written_same n side base (strand_at n side) value _ _ old new
      (strands_written r c 1 to hr (omega arith) is wanted old new (subst (λ m. Swept to m wanted old new) (sym (one-mul n)) s)
      (λ q k d x hq hk is'.
      let none : q * n + k ≡ k = omega (arith, ap (λ m. m * n) (let zero : q ≡ 0 = omega arith in zero)) in
      let here : c ≡ c + q = omega arith in
      meant k d x hk (subst (λ m. wanted m d x) none is') ∙ (λ z. value k r (here z) d)))
      (λ k p q hk hp hq x. (x.0, omega (arith, x.1.0, x.1.1))) (λ k p q hk hp hq y. (y.0, (omega (arith, y.1), omega (arith, y.1))))

-- Votes leave what they read.
module _ {C : Type 0} (equal : C → C → Bool) (n side : ℕ) (wounds : Plane Bool) (old mid : List C)
    (stays : (k : ℕ) (d : C) → (k < 0) ⊎ (0 + n * (side * side) ≤ k) → get_or mid k d ≡ get_or old k d) where
  pub seen_stays : (i r c : ℕ) (d : C) → seen wounds mid n side d i r c ≡ seen wounds old n side d i r c
  seen_stays i r c d =
      stays (seen_at wounds n side i r c) d (seen_apart (wounds r c))
    where
      seen_apart : (b : Bool) → let k = cond b (kept_at n side i r c) (line_at n side i) in (k < 0) ⊎ (0 + n * (side * side) ≤ k)
      seen_apart true = inr (omega arith)
      seen_apart false = inr (omega arith)

  pub votes_stay : (i r c : ℕ) (d : C) → voted equal side (seen wounds mid n side d i) r c ≡ voted equal side (seen wounds old n side d i) r c
  votes_stay i r c d =
      three (vote_of equal) (seen_stays i (next side r) c d) (seen_stays i r (next side c) d) (seen_stays i r c d)

-- What is seen lies in the memory, past the votes of the strands.
pub seen_in : (wounds : Plane Bool) (n side i r c : ℕ) → i < n → r < side → c < side
    → (n * (side * side) ≤ seen_at wounds n side i r c) × (seen_at wounds n side i r c < size_of n side)
seen_in wounds n side i r c hi hr hc =
    of_it (wounds r c)
  where
    of_it : (b : Bool) → let k = cond b (kept_at n side i r c) (line_at n side i) in (n * (side * side) ≤ k) × (k < size_of n side)
    of_it true = (omega arith, omega (arith, strand_in n side i r c hi hr hc))
    of_it false = (omega arith, omega arith)

-- So all that is seen of a place does, from the first plane to the last.
module _ (wounds : Plane Bool) (n side r c from : ℕ) (some : 1 ≤ n) (hr : r < side) (hc : c < side) (is : (i : ℕ) → from + i ≡ seen_at wounds n side i r c) where
  pub seen_first : n * (side * side) ≤ from
  seen_first = omega (arith, is 0, (seen_in wounds n side 0 r c (omega arith) hr hc).0)

  pub seen_last : from + n ≤ size_of n side
  seen_last = omega (arith, is (n - 1), (seen_in wounds n side (n - 1) r c (omega arith) hr hc).1)

-- The same values, said another way.
pub written_as : {C : Type 0} (n side base : ℕ) (at : (i r c : ℕ) → ℕ) (value other : (i r c : ℕ) → C → C) (A : Among) (old new : List C)
    → PlacesWritten n side base at A value old new
    → ((i r c : ℕ) (d : C) → i < n → r < side → c < side → A i r c → value i r c d ≡ other i r c d) → PlacesWritten n side base at A other old new
written_as n side base at value other A old new a same = record {
  inside = λ i r c d hi hr hc x. a.inside i r c d hi hr hc x ∙ same i r c d hi hr hc x;
  others = a.others;
  outside = a.outside;
}

-- Steps leave the votes that they read, and gathering the copies.
module _ {C : Type 0} (n side : ℕ) (old mid : List C)
    (stays : (k : ℕ) (d : C) → (k < n * (side * side)) ⊎ (n * (side * side) + n * (side * side) ≤ k) → get_or mid k d ≡ get_or old k d) where
  pub copies_stay : (i r c : ℕ) (d : C) → i < n → r < side → c < side → copies mid side d i r c ≡ copies old side d i r c
  copies_stay i r c d hi hr hc = stays (copy_at side i r c) d (inl (copy_in n side i r c hi hr hc))

pub steps_stay : {C : Type 0} (host : C → C → C → C) (n side : ℕ) (old mid : List C)
    → ((k : ℕ) (d : C) → (k < n * (side * side)) ⊎ (n * (side * side) + n * (side * side) ≤ k) → get_or mid k d ≡ get_or old k d)
    → (i r c : ℕ) (d : C) → i < n → r < side → c < side
    → stepped host n (λ k. get_or mid (strand_at n side k r c) d) i ≡ stepped host n (λ k. get_or old (strand_at n side k r c) d) i
steps_stay host n side old mid stays i r c d hi hr hc =
    stepped_same host n _ _ (λ k hk. stays (strand_at n side k r c) d (inl (strand_in n side k r c hk hr hc))) i hi
