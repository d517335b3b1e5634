-- Single places of the planes, voted one after another.
use Rattle.std.proofs.Common.{◌≡◌, ℕ, ◌+◌, ◌%◌, ◌*◌, ◌<◌, ◌≤◌, ◌≢◌, ◌⊎◌, Bool, List, get_or, sym, ap, ◌∙◌, subst, inl, inr, mod-eq_of_lt, mod-lt, arith}
use native.Mathlib.Nat.{mod_self}
use Rattle.std.proofs.lemmas.Bool.{cases_eq, cases_lt}
use Rattle.toom.specs.Torus.{next}
use Rattle.toom.specs.Vote.{vote_of, voted}
use Rattle.plate.specs.Layout.{copy_at, voted_at}
use Rattle.plate.specs.Sweep.{Swept, HostAnswers, PlacesVoted}
use Rattle.plate.proofs.Grids.{place_in, one_place}
use Rattle.plate.proofs.Sweeps.{three}

-- The place after one, and the place after the last.
pub next_more : (side j : ℕ) → j + 1 < side → next side j ≡ j + 1
next_more side j h = mod-eq_of_lt h

pub next_last : (side j : ℕ) → j + 1 ≡ side → next side j ≡ 0
next_last side j e = ap (λ n. n % side) e ∙ mod_self side

pub next_below : (side i : ℕ) → i < side → next side i < side
next_below side i h = mod-lt (i + 1) (omega arith)

-- A copy lies among the copies, and is one place.
pub copy_in : (n side i r c : ℕ) → i < n → r < side → c < side → copy_at side i r c < n * (side * side)
copy_in n side i r c hi hr hc = place_in n (side * side) i (r * side + c) hi (place_in side side r c hr hc)

pub one_copy : (side i r c k p q : ℕ) → r < side → c < side → p < side → q < side → copy_at side i r c ≡ copy_at side k p q
    → (i ≡ k) × ((r ≡ p) × (c ≡ q))
one_copy side i r c k p q hr hc hp hq e =
    let plane = one_place (side * side) i (r * side + c) k (p * side + q) (place_in side side r c hr hc) (place_in side side p q hp hq) e in
    (plane.0, one_place side r c p q hc hq plane.1)

abbrev pub Among : Type 1
Among = (i r c : ℕ) → Type 0

module _ {C : Type 0} (equal : C → C → Bool) (n side : ℕ) where
  abbrev pub plane : List C → ℕ → C → ℕ → ℕ → C
  plane xs i d p q = get_or xs (copy_at side i p q) d

  -- The votes read copies alone, which stay.
  pub vote_stays : (A : Among) (old mid : List C) → PlacesVoted equal n side A old mid → (i r c : ℕ) (d : C) → i < n → r < side → c < side
      → voted equal side (plane mid i d) r c ≡ voted equal side (plane old i d) r c
  vote_stays A old mid a i r c d hi hr hc =
      let still : (p q : ℕ) → p < side → q < side → plane mid i d p q ≡ plane old i d p q =
      λ p q hp hq. a.outside (copy_at side i p q) d (inl (copy_in n side i p q hi hp hq)) in
      three (vote_of equal) (still (next side r) c (next_below side r hr) hc) (still r (next side c) hr (next_below side c hc)) (still r c hr hc)

  -- One more place.
  pub place_more : (A B : Among) (old mid new : List C) → PlacesVoted equal n side A old mid
      → (i r c : ℕ) → i < n → r < side → c < side
      → (to north east own : ℕ) → to ≡ voted_at n side i r c → north ≡ copy_at side i (next side r) c
      → east ≡ copy_at side i r (next side c) → own ≡ copy_at side i r c
      → Swept to 1 (HostAnswers (vote_of equal) north east own mid) mid new
      → ((k p q : ℕ) → B k p q → A k p q ⊎ ((k ≡ i) × ((p ≡ r) × (q ≡ c)))) → ((k p q : ℕ) → A k p q → B k p q) → B i r c
      → PlacesVoted equal n side B old new
  place_more A B old mid new a i r c hi hr hc to north east own is up right here v splits more holds =
      record {
        inside = λ k p q d hk hp hq b.
            elim (cases_eq (copy_at side k p q) (copy_at side i r c)) [
              | inl e ↦
                  let same = one_copy side i r c k p q hr hc hp hq (sym e) in
                  subst (λ m. get_or new (voted_at n side k p q) d ≡ voted equal side (plane old m d) p q) same.0
                  (subst (λ m. get_or new (voted_at n side k p q) d ≡ voted equal side (plane old i d) m q) same.1.0
                  (subst (λ m. get_or new (voted_at n side k p q) d ≡ voted equal side (plane old i d) r m) same.1.1
                  (ap (λ m. get_or new m d) (let place : voted_at n side k p q ≡ to + 0 = omega (arith, e, is) in place)
                  ∙ v.inside 0 d (omega arith) ∙ right_vote d ∙ vote_stays A old mid a i r c d hi hr hc)))
              | inr ne ↦
                  v.outside (voted_at n side k p q) d (away k p q ne)
                  ∙ a.inside k p q d hk hp hq (elim (splits k p q b) [ inl l ↦ l | inr s ↦ absurd (ne (same_copy k p q s)) ])
            ];
        others = λ k p q d hk hp hq out.
            let ne : copy_at side k p q ≢ copy_at side i r c =
            λ e.
            let same = one_copy side i r c k p q hr hc hp hq (sym e) in
            out (subst (λ m. B m p q) same.0 (subst (λ m. B i m q) same.1.0 (subst (λ m. B i r m) same.1.1 holds))) in
            v.outside (voted_at n side k p q) d (away k p q ne) ∙ a.others k p q d hk hp hq λ l. out (more k p q l);
        outside = λ k d h.
            let far : (k < to) ⊎ (to + 1 ≤ k) = elim h [ inl l ↦ inl (omega arith) | inr g ↦ inr (omega (arith, placed)) ] in
            v.outside k d far ∙ a.outside k d h;
      }
    where
      placed : copy_at side i r c < n * (side * side)
      placed = copy_in n side i r c hi hr hc

      same_copy : (k p q : ℕ) → (k ≡ i) × ((p ≡ r) × (q ≡ c)) → copy_at side k p q ≡ copy_at side i r c
      same_copy k p q s z = copy_at side (s.0 z) (s.1.0 z) (s.1.1 z)

      away : (k p q : ℕ) → copy_at side k p q ≢ copy_at side i r c → (voted_at n side k p q < to) ⊎ (to + 1 ≤ voted_at n side k p q)
      away k p q ne = elim (cases_lt (voted_at n side k p q) to) [ inl l ↦ inl l | inr g ↦ inr (omega (arith, ne, is)) ]

      right_vote : (d : C) → vote_of equal (get_or mid (north + 0) d) (get_or mid (east + 0) d) (get_or mid (own + 0) d) ≡ voted equal side (plane mid i d) r c
      right_vote d =
          three (vote_of equal) (ap (λ k. get_or mid k d) (let e : north + 0 ≡ copy_at side i (next side r) c = omega (arith, up) in e))
          (ap (λ k. get_or mid k d) (let e : east + 0 ≡ copy_at side i r (next side c) = omega (arith, right) in e))
          (ap (λ k. get_or mid k d) (let e : own + 0 ≡ copy_at side i r c = omega (arith, here) in e))

  -- Some places and then others.
  pub voted_join : (A B D : Among) (old mid new : List C) → PlacesVoted equal n side A old mid → PlacesVoted equal n side B mid new
      → ((i r c : ℕ) → A i r c → B i r c → ⊥) → ((i r c : ℕ) → r < side → c < side → D i r c → A i r c ⊎ B i r c)
      → ((i r c : ℕ) → A i r c → D i r c) → ((i r c : ℕ) → B i r c → D i r c)
      → PlacesVoted equal n side D old new
  voted_join A B D old mid new a b apart splits first second =
      record {
        inside = λ i r c d hi hr hc l.
            elim (splits i r c hr hc l) [
              | inl x ↦ b.others i r c d hi hr hc (apart i r c x) ∙ a.inside i r c d hi hr hc x
              | inr y ↦ b.inside i r c d hi hr hc y ∙ vote_stays A old mid a i r c d hi hr hc
            ];
        others = λ i r c d hi hr hc out.
            b.others i r c d hi hr hc (λ y. out (second i r c y)) ∙ a.others i r c d hi hr hc λ x. out (first i r c x);
        outside = λ k d h. b.outside k d h ∙ a.outside k d h;
      }

  -- The same places, said another way.
  pub voted_same : (A B : Among) (old new : List C) → PlacesVoted equal n side A old new
      → ((i r c : ℕ) → i < n → r < side → c < side → A i r c → B i r c)
      → ((i r c : ℕ) → i < n → r < side → c < side → B i r c → A i r c) → PlacesVoted equal n side B old new
  voted_same A B old new a there back =
      record {
        inside = λ i r c d hi hr hc b. a.inside i r c d hi hr hc (back i r c hi hr hc b);
        others = λ i r c d hi hr hc out. a.others i r c d hi hr hc λ x. out (there i r c hi hr hc x);
        outside = a.outside;
      }
