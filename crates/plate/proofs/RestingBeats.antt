-- While wounds rest: with the line written to the strands beside them, the strands as they lie are the planes as they are seen.
use Rattle.std.proofs.Common.{◌≡◌, ℕ, ◌<◌, Bool, true, List, length, get_or, sym, ap, ◌∙◌, inl, inr, arith}
use Rattle.std.proofs.lemmas.Bool.{both_ways, cond-true, cond-false}
use Rattle.toom.specs.Torus.{Plane, next}
use Rattle.toom.specs.Vote.{vote_of, voted}
use Rattle.plate.specs.Beside.{Beside, InEither, LineSpread}
use Rattle.plate.specs.Layout.{line_at}
use Rattle.plate.specs.Wounds.{Marked, StandFor, StrandsVoted, seen, strand_at}
use Rattle.plate.proofs.Sweeps.{three}
use Rattle.plate.proofs.SweptPlaces.{next_below}
use Rattle.plate.proofs.WrittenPlaces.{written_as}

module _ {C : Type 0} (n side : ℕ) (wounds beside : Plane Bool) (about : Beside side wounds beside) (cells lying : List C)
    (spread : LineSpread n side (Marked beside) cells lying) (long : length lying ≡ length cells) where
  -- No strand of a wound is lost.
  pub stand_spread : (whole : List C) → StandFor wounds n side cells whole → StandFor wounds n side lying whole
  stand_spread whole stand = record {
    within = stand.within;
    strands = λ i r c d hi hr hc wound.
        spread.others i r c d hi hr hc (λ b. both_ways _ (about.sound r c hr hc b) wound) ∙ stand.strands i r c d hi hr hc wound;
    rest = λ k d h. spread.outside k d (inr (omega arith)) ∙ stand.rest k d h;
    long = long ∙ stand.long;
  }

  -- What votes of wounds read lies in strands.
  lies : (i r c : ℕ) (d : C) → i < n → r < side → c < side → InEither wounds beside r c → seen (λ p q. true) lying n side d i r c ≡ seen wounds lying n side d i r c
  lies i r c d hi hr hc either =
      elim either [
        | inl wound ↦ sym (ap (λ k. get_or lying k d) (cond-true _ _ _ wound))
        | inr b ↦
            spread.inside i r c d hi hr hc b ∙ sym (spread.outside (line_at n side i) d (inr (omega arith)))
            ∙ sym (ap (λ k. get_or lying k d) (cond-false _ _ _ (about.sound r c hr hc b)))
      ]

  pub voted_lying : (equal : C → C → Bool) (new : List C) → StrandsVoted equal (λ p q. true) n side (Marked wounds) lying new
      → StrandsVoted equal wounds n side (Marked wounds) lying new
  voted_lying equal new a =
      written_as n side 0 (strand_at n side) _ (λ i r c d. voted equal side (seen wounds lying n side d i) r c) _ lying new a
      (λ i r c d hi hr hc wound.
      three (vote_of equal) (lies i (next side r) c d hi (next_below side r hr) hc (about.read r c hr hc wound).0)
      (lies i r (next side c) d hi hr (next_below side c hc) (about.read r c hr hc wound).1) (lies i r c d hi hr hc (inl wound)))
