-- The last columns and rows of all planes, and the sweep before them, which is wrong there.
use Rattle.std.proofs.Common.{◌≡◌, ℕ, ◌+◌, ◌-◌, ◌*◌, ◌<◌, ◌≤◌, ◌⊎◌, Bool, List, get_or, sym, ap, ◌∙◌, inl, inr, arith}
use Rattle.std.proofs.lemmas.Bool.{cases_lt}
use Rattle.toom.specs.Torus.{next}
use Rattle.toom.specs.Vote.{vote_of, voted}
use Rattle.plate.specs.Layout.{copy_at, voted_at}
use Rattle.plate.specs.Sweep.{Swept, HostAnswers, InColumn, InRow, OnEdge, PlacesVoted, PlanesVotes}
use Rattle.plate.proofs.Sweeps.{three}
use Rattle.plate.proofs.SweptPlaces.{next_more, next_last, next_below, copy_in, one_copy, voted_join}

module _ {C : Type 0} (equal : C → C → Bool) (n side : ℕ) (some : 2 ≤ side) where
  -- The last row of plane i in one sweep.
  pub row_voted : (old new : List C) (i : ℕ) → i < n → (to north own : ℕ) → to ≡ voted_at n side i (side - 1) 0 → north ≡ i * (side * side)
      → own ≡ copy_at side i (side - 1) 0 → Swept to (side - 1) (HostAnswers (vote_of equal) north (own + 1) own old) old new
      → PlacesVoted equal n side (λ k r c. (k ≡ i) × InRow side r c) old new
  row_voted old new i hi to north own is up here v =
      record {
        inside = λ k r c d hk hr hc a.
            let plane : k * (side * side) ≡ i * (side * side) = ap (λ m. m * (side * side)) a.0 in
            let row : r * side ≡ (side - 1) * side = ap (λ m. m * side) (let e : r ≡ side - 1 = omega arith in e) in
            let place : voted_at n side k r c ≡ to + c = omega (arith, plane, row, is) in
            let above : north + c ≡ copy_at side k (next side r) c = omega (arith, plane, up, ap (λ m. m * side) (next_last side r a.1.0)) in
            let right : own + 1 + c ≡ copy_at side k r (next side c) = omega (arith, plane, row, here, next_more side c a.1.1) in
            let at : own + c ≡ copy_at side k r c = omega (arith, plane, row, here) in
            ap (λ m. get_or new m d) place ∙ v.inside c d (omega arith)
            ∙ three (vote_of equal) (ap (λ m. get_or old m d) above) (ap (λ m. get_or old m d) right) (ap (λ m. get_or old m d) at);
        others = λ k r c d hk hr hc out.
            let far : (voted_at n side k r c < to) ⊎ (to + (side - 1) ≤ voted_at n side k r c) =
            elim (cases_lt (voted_at n side k r c) to) [
              | inl l ↦ inl l
              | inr g ↦
                  elim (cases_lt (voted_at n side k r c) (to + (side - 1))) [
                    | inl l ↦
                        let column : voted_at n side k r c - to < side = omega arith in
                        let e : copy_at side i (side - 1) (voted_at n side k r c - to) ≡ copy_at side k r c = omega (arith, is) in
                        let same = one_copy side i (side - 1) (voted_at n side k r c - to) k r c (omega arith) column hr hc e in
                        absurd (out (sym same.0, (omega (arith, same.1.0), omega (arith, same.1.1))))
                    | inr far ↦ inr far
                  ]
            ] in
            v.outside (voted_at n side k r c) d far;
        outside = λ k d h.
            let last : copy_at side i (side - 1) (side - 1) < n * (side * side) = copy_in n side i (side - 1) (side - 1) hi (omega arith) (omega arith) in
            v.outside k d (elim h [ inl l ↦ inl (omega (arith, is)) | inr g ↦ inr (omega (arith, is, last)) ]);
      }

  -- One more plane: its column and its row.
  pub along_more : (old mid then new : List C) (i : ℕ) → PlacesVoted equal n side (λ k r c. (k < i) × (InColumn side r c ⊎ InRow side r c)) old mid
      → PlacesVoted equal n side (λ k r c. (k ≡ i) × InColumn side r c) mid then → PlacesVoted equal n side (λ k r c. (k ≡ i) × InRow side r c) then new
      → PlacesVoted equal n side (λ k r c. (k < i + 1) × (InColumn side r c ⊎ InRow side r c)) old new
  along_more old mid then new i a b e =
      voted_join equal n side (λ k r c. ((k < i) × (InColumn side r c ⊎ InRow side r c)) ⊎ ((k ≡ i) × InColumn side r c)) _ _ old then new
      (voted_join equal n side _ _ _ old mid then a b (λ k r c x y. omega arith) (λ k r c hr hc x. x) (λ k r c x. inl x) λ k r c y. inr y) e
      (λ k r c x y. elim x [ inl x ↦ omega arith | inr x ↦ omega arith ])
      (λ k r c hr hc x.
      elim (cases_lt k i) [
        | inl l ↦ inl (inl (l, x.1))
        | inr g ↦ elim x.1 [ inl y ↦ inl (inr (omega arith, y)) | inr y ↦ inr (omega arith, y) ]
      ])
      (λ k r c x. elim x [ inl x ↦ (omega arith, x.1) | inr x ↦ (omega arith, inl x.1) ])
      λ k r c y. (omega arith, inr y.1)

  -- One more place of the column and of the row, in all planes.
  pub across_more : (old mid then new : List C) (j : ℕ) → j + 1 < side
      → PlacesVoted equal n side (λ i r c. ((r < j) × (c + 1 ≡ side)) ⊎ ((r + 1 ≡ side) × (c < j))) old mid
      → PlacesVoted equal n side (λ i r c. (r ≡ j) × (c ≡ side - 1)) mid then → PlacesVoted equal n side (λ i r c. (r ≡ side - 1) × (c ≡ j)) then new
      → PlacesVoted equal n side (λ i r c. ((r < j + 1) × (c + 1 ≡ side)) ⊎ ((r + 1 ≡ side) × (c < j + 1))) old new
  across_more old mid then new j h a b e =
      voted_join equal n side (λ i r c. ((r < j + 1) × (c + 1 ≡ side)) ⊎ ((r + 1 ≡ side) × (c < j))) _ _ old then new
      (voted_join equal n side _ _ _ old mid then a b (λ i r c x y. elim x [ inl x ↦ omega arith | inr x ↦ omega arith ])
      (λ i r c hr hc x.
      elim x [
        | inl x ↦ elim (cases_lt r j) [ inl l ↦ inl (inl (l, x.1)) | inr g ↦ inr (omega arith, omega arith) ]
        | inr x ↦ inl (inr x)
      ])
      (λ i r c x. elim x [ inl x ↦ inl (omega arith, x.1) | inr x ↦ inr x ]) λ i r c y. inl (omega arith, omega arith)) e
      (λ i r c x y. elim x [ inl x ↦ omega arith | inr x ↦ omega arith ])
      (λ i r c hr hc x.
      elim x [
        | inl x ↦ inl (inl x)
        | inr x ↦ elim (cases_lt c j) [ inl l ↦ inl (inr (x.0, l)) | inr g ↦ inr (omega arith, omega arith) ]
      ])
      (λ i r c x. elim x [ inl x ↦ inl x | inr x ↦ inr (x.0, omega arith) ])
      λ i r c y. inr (omega arith, omega arith)

  -- The corner, and then the rest of the column and of the row.
  pub edges_voted : (old mid new : List C) → PlacesVoted equal n side (λ i r c. (r ≡ side - 1) × (c ≡ side - 1)) old mid
      → PlacesVoted equal n side (λ i r c. InColumn side r c ⊎ InRow side r c) mid new → PlacesVoted equal n side (λ i r c. OnEdge side r c) old new
  edges_voted old mid new a b =
      voted_join equal n side _ _ _ old mid new a b (λ i r c x y. elim y [ inl y ↦ omega arith | inr y ↦ omega arith ])
      (λ i r c hr hc x.
      elim (cases_lt (r + 1) side) [
        | inl up ↦ inr (inl (up, elim x [ inl y ↦ omega arith | inr y ↦ y ]))
        | inr low ↦ elim (cases_lt (c + 1) side) [ inl l ↦ inr (inr (omega arith, l)) | inr g ↦ inl (omega arith, omega arith) ]
      ])
      (λ i r c x. inl (omega arith)) λ i r c y. elim y [ inl y ↦ inr y.1 | inr y ↦ inl y.0 ]

  -- The sweep over all planes, and then their edges.
  pub planes_voted : (old mid new : List C)
      → Swept (n * (side * side)) (n * (side * side) - side) (HostAnswers (vote_of equal) side 1 0 old) old mid
      → PlacesVoted equal n side (λ i r c. OnEdge side r c) mid new
      → Swept (n * (side * side)) (n * (side * side)) (PlanesVotes equal n side old) old new
  planes_voted old mid new a b =
      record {
        inside = λ j d h i r c hi hr hc e.
            ap (λ m. get_or new m d) (let place : n * (side * side) + j ≡ voted_at n side i r c = omega arith in place)
            ∙ elim (cases_lt (r + 1) side) [
              | inl up ↦
                  elim (cases_lt (c + 1) side) [
                    | inl l ↦ inner i r c d hi hr hc up l
                    | inr g ↦ edge i r c d hi hr hc (inr (omega arith))
                  ]
              | inr low ↦ edge i r c d hi hr hc (inl (omega arith))
            ];
        outside = λ k d h.
            let all : (k < n * (side * side)) ⊎ (2 * (n * (side * side)) ≤ k) = elim h [ inl l ↦ inl l | inr g ↦ inr (omega arith) ] in
            let out : (k < n * (side * side)) ⊎ (n * (side * side) + (n * (side * side) - side) ≤ k) =
            elim h [ inl l ↦ inl l | inr g ↦ inr (omega arith) ] in
            b.outside k d all ∙ a.outside k d out;
      }
    where
      still : (i p q : ℕ) → i < n → p < side → q < side → (d : C) → get_or mid (copy_at side i p q) d ≡ get_or old (copy_at side i p q) d
      still i p q hi hp hq d = a.outside (copy_at side i p q) d (inl (copy_in n side i p q hi hp hq))

      edge : (i r c : ℕ) (d : C) → i < n → r < side → c < side → OnEdge side r c
          → get_or new (voted_at n side i r c) d ≡ voted equal side (λ p q. get_or old (copy_at side i p q) d) r c
      edge i r c d hi hr hc at =
          b.inside i r c d hi hr hc at
          ∙ three (vote_of equal) (still i (next side r) c hi (next_below side r hr) hc d) (still i r (next side c) hi hr (next_below side c hc) d)
          (still i r c hi hr hc d)

      inner : (i r c : ℕ) (d : C) → i < n → r < side → c < side → r + 1 < side → c + 1 < side
          → get_or new (voted_at n side i r c) d ≡ voted equal side (λ p q. get_or old (copy_at side i p q) d) r c
      inner i r c d hi hr hc up l =
          let above : next side r * side ≡ (r + 1) * side = ap (λ m. m * side) (next_more side r up) in
          let within : copy_at side i (r + 1) c < n * (side * side) = copy_in n side i (r + 1) c hi up hc in
          let north : side + copy_at side i r c ≡ copy_at side i (next side r) c = omega (arith, above) in
          let east : 1 + copy_at side i r c ≡ copy_at side i r (next side c) = omega (arith, next_more side c l) in
          let own : 0 + copy_at side i r c ≡ copy_at side i r c = omega arith in
          b.others i r c d hi hr hc (λ at. elim at [ inl y ↦ omega arith | inr y ↦ omega arith ])
          ∙ a.inside (copy_at side i r c) d (omega (arith, within))
          ∙ three (vote_of equal) (ap (λ m. get_or old m d) north) (ap (λ m. get_or old m d) east) (ap (λ m. get_or old m d) own)
