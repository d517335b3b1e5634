-- The planes of side 2, whose four places are voted one after another.
use Rattle.std.proofs.Common.{◌≡◌, ℕ, ◌+◌, ◌*◌, ◌<◌, ◌≤◌, Bool, List, length, get_or, set, sym, ap, ◌∙◌, subst, inl, arith}
use Rattle.toom.specs.Torus.{next}
use Rattle.toom.specs.Vote.{vote_of, voted}
use Rattle.plate.specs.Layout.{copy_at}
use Rattle.plate.specs.Sweep.{Swept, PlanesVotes}
use Rattle.plate.proofs.Sweeps.{swept_more, three}
use Rattle.plate.proofs.SweptPlaces.{copy_in, one_copy}

module _ {C : Type 0} (equal : C → C → Bool) (n : ℕ) (old : List C) where
  -- The first m places are voted.
  abbrev pub Voted : ℕ → List C → Type 0
  Voted m new = Swept (n * (2 * 2)) m (PlanesVotes equal n 2 old) old new

  -- The cell at the place (r, c) of plane i.
  abbrev pub IsCell : (i r c : ℕ) → C → Type 0
  IsCell i r c x = (d : C) → x ≡ get_or old (copy_at 2 i r c) d

  -- What is read of a plane is old.
  pub cell_old : (i r c m : ℕ) (mid : List C) (x : C) → i < n → r < 2 → c < 2 → Voted m mid
      → (at : ℕ) → at ≡ copy_at 2 i r c → ((d : C) → x ≡ get_or mid at d) → IsCell i r c x
  cell_old i r c m mid x hi hr hc v at is read d =
      read d ∙ ap (λ k. get_or mid k d) is ∙ v.outside (copy_at 2 i r c) d (inl (copy_in n 2 i r c hi hr hc))

  -- One more vote.
  pub square_more : (i r c m : ℕ) (mid new : List C) {x north east own : C} → i < n → r < 2 → c < 2 → m ≡ copy_at 2 i r c
      → 2 * (n * (2 * 2)) ≤ length mid → Voted m mid → (to : ℕ) → to ≡ n * (2 * 2) + m → new ≡ set mid to x
      → x ≡ vote_of equal north east own → IsCell i (next 2 r) c north → IsCell i r (next 2 c) east → IsCell i r c own
      → Voted (m + 1) new
  square_more i r c m mid new {x} hi hr hc place room v to is put vote up right here =
      subst (Voted (m + 1)) (sym (put ∙ ap (λ k. set mid k x) is))
      (swept_more (n * (2 * 2)) m (PlanesVotes equal n 2 old) old mid x v (omega (arith, place, room, copy_in n 2 i r c hi hr hc))
      λ d j p q hj hp hq e.
      let same = one_copy 2 i r c j p q hr hc hp hq (sym place ∙ e) in
      subst (λ k. x ≡ voted equal 2 (λ s t. get_or old (copy_at 2 k s t) d) p q) same.0
      (subst (λ k. x ≡ voted equal 2 (λ s t. get_or old (copy_at 2 i s t) d) k q) same.1.0
      (subst (λ k. x ≡ voted equal 2 (λ s t. get_or old (copy_at 2 i s t) d) r k) same.1.1
      (vote ∙ three (vote_of equal) (up d) (right d) (here d)))))
