-- The cells at hand stand for a whole memory, beat by beat: the wounds are voted as they are seen, the line steps, and the wounds step from their votes.
use Rattle.std.proofs.Common.{◌≡◌, ℕ, ◌+◌, ◌*◌, ◌<◌, ◌≤◌, Bool, true, false, List, length, get_or, sym, refl, ap, ◌∙◌, subst, add-one, inl, inr, arith}
use mathlib.Core.Bool.{beq}
use Rattle.std.proofs.lemmas.Bool.{cases_Bool, cond-true, cond-false}
use Rattle.toom.specs.declared.shadow.Shadow.{Shadow}
use Rattle.toom.specs.Shadow.{marks}
use Rattle.toom.specs.ShadowCalls.{Voted}
use Rattle.toom.specs.Torus.{Plane, next}
use Rattle.toom.specs.Vote.{HealsOutside, thinned, vote_of, voted}
use Rattle.hosts.specs.Ring.{stepped}
use Rattle.plate.specs.BeatCall.{CellsBeaten, copies, line, voted_copies}
use Rattle.plate.specs.BeatsCall.{CellsBeatenBy}
use Rattle.plate.specs.Layout.{copy_at, line_at, earlier_at, size_of}
use Rattle.plate.specs.Wounds.{BeatenFor, BeatenTimes, BeatenTo, BlocksOf, Clear, Covers, LineSteps, PlacesWritten, StandFor, LineOutside, seen, strand_at}
use Rattle.plate.specs.Sweep.{Swept}
use Rattle.plate.proofs.Existing.{beat_of}
use Rattle.plate.proofs.Grids.{place_in}
use Rattle.plate.proofs.PinnedCells.{by_place}
use Rattle.plate.proofs.Sweeps.{three}
use Rattle.plate.proofs.SweptBeats.{stepped_same}
use Rattle.plate.proofs.SweptPlaces.{copy_in, next_below}
use Rattle.plate.proofs.WrittenPlaces.{strand_in}

-- Where no place is wounded none is after a vote.
pub clear_stays : (side : ℕ) (wounds : Plane Bool) → Clear side wounds → Covers side wounds wounds
clear_stays side wounds clear r c hr hc _ =
    λ j. vote_of beq (clear (next side r) c (next_below side r hr) hc j) (clear r (next side c) hr (next_below side c hc) j) (clear r c hr hc j)

module _ {C : Type 0} (n side : ℕ) (wounds : Plane Bool) where
  -- A memory whose wounds' copies were gathered stands for what it was.
  pub stand_gathered : (start cells : List C) → LineOutside wounds n side start
      → PlacesWritten n side (n * (side * side)) (strand_at n side) (λ i r c. wounds r c ≡ true) (λ i r c d. copies start side d i r c) start cells
      → length cells ≡ length start → StandFor wounds n side cells start
  stand_gathered start cells within gathered long = record {
    within = within;
    strands = gathered.inside;
    rest = λ k d h. gathered.outside k d (inr (omega arith));
    long = long;
  }

  module _ (cells whole : List C) (stand : StandFor wounds n side cells whole) where
    pub same_line : (i : ℕ) (d : C) → i < n → line cells n side d i ≡ line whole n side d i
    same_line i d hi = stand.rest (line_at n side i) d (omega arith)

    -- The planes as they are seen are those of the whole memory.
    pub seen_whole : (i r c : ℕ) (d : C) → i < n → r < side → c < side → seen wounds cells n side d i r c ≡ copies whole side d i r c
    seen_whole i r c d hi hr hc =
        elim (cases_Bool (wounds r c)) [
          | inl wounded ↦ ap (λ k. get_or cells k d) (cond-true _ _ _ wounded) ∙ stand.strands i r c d hi hr hc wounded
          | inr out ↦ ap (λ k. get_or cells k d) (cond-false _ _ _ out) ∙ same_line i d hi ∙ sym (stand.within i r c d hi hr hc out)
        ]

    -- Where the copies are written as they are seen, they are those of the whole memory.
    pub settled : (half : List C) → PlacesWritten n side 0 (copy_at side) (λ i r c. r < side) (λ i r c d. seen wounds cells n side d i r c) cells half
        → (i r c : ℕ) (d : C) → i < n → r < side → c < side → copies half side d i r c ≡ copies whole side d i r c
    settled half written i r c d hi hr hc =
        let at : copy_at side i r c ≡ 0 + copy_at side i r c = omega arith in
        ap (λ m. get_or half m d) at ∙ written.inside i r c d hi hr hc hr ∙ seen_whole i r c d hi hr hc

-- A beat reads no vote: so it leaves of a memory what it leaves of one with the same copies and the same lines.
pub beaten_settled : {C : Type 0} (equal : C → C → Bool) (host : C → C → C → C) (n side : ℕ) (half whole after : List C)
    → ((i r c : ℕ) (d : C) → i < n → r < side → c < side → copies half side d i r c ≡ copies whole side d i r c)
    → ((k : ℕ) (d : C) → 2 * (n * (side * side)) ≤ k → get_or half k d ≡ get_or whole k d) → length half ≡ length whole
    → CellsBeaten equal host n side half after → CellsBeaten equal host n side whole after
beaten_settled equal host n side half whole after same rest long beaten = record {
  votes = λ i r c d hi hr hc.
      beaten.votes i r c d hi hr hc
      ∙ three (vote_of equal) (same i (next side r) c d hi (next_below side r hr) hc) (same i r (next side c) d hi hr (next_below side c hc))
      (same i r c d hi hr hc);
  steps = beaten.steps;
  earlier = λ i d hi. beaten.earlier i d hi ∙ rest (line_at n side i) d (omega arith);
  lines = λ i d hi. beaten.lines i d hi ∙ stepped_same host n _ _ (λ k hk. rest (line_at n side k) d (omega arith)) i hi;
  beyond = λ k d past. beaten.beyond k d past ∙ rest k d (omega arith);
  long = beaten.long ∙ long;
}

module _ {C : Type 0} (equal : C → C → Bool) (heals : HealsOutside equal) (host : C → C → C → C) (n side : ℕ) (wounds later : Plane Bool)
    (covers : Covers side wounds later) where
  -- Where no wound is later the vote is the line's.
  voted_line : (whole : List C) → LineOutside wounds n side whole → (i r c : ℕ) (d : C) → i < n → r < side → c < side → later r c ≡ false
      → voted equal side (copies whole side d i) r c ≡ line whole n side d i
  voted_line whole within i r c d hi hr hc out =
      heals side wounds (copies whole side d i) (line whole n side d i)
      (λ p q hp hq clear. within i p q d hi hp hq clear) r c hr hc (covers r c hr hc out)

  within_later : (before after : List C) → CellsBeaten equal host n side before after → LineOutside wounds n side before → LineOutside later n side after
  within_later before after beaten within i r c d hi hr hc out =
      beaten.steps i r c d hi hr hc
      ∙ stepped_same host n _ _ (λ k hk. beaten.votes k r c d hk hr hc ∙ voted_line before within k r c d hk hr hc out) i hi
      ∙ sym (beaten.lines i d hi)

  -- The strands of the later wounds are voted as they are seen, the line steps, and the strands step from their votes.
  module _ (cells ballots lined cells' : List C) (some : 1 ≤ n) (wide : 1 ≤ side) (room : size_of n side ≤ length cells) (long : length cells' ≡ length cells)
      (vote : PlacesWritten n side 0 (strand_at n side) (λ i r c. later r c ≡ true) (λ i r c d. voted equal side (seen wounds cells n side d i) r c) cells ballots)
      (step : LineSteps host n side ballots lined)
      (steps : PlacesWritten n side (n * (side * side)) (strand_at n side) (λ i r c. later r c ≡ true)
      (λ i r c d. stepped host n (λ k. get_or lined (strand_at n side k r c) d) i) lined cells') where
    module _ (whole : List C) (stand : StandFor wounds n side cells whole) (after : List C) (beaten : CellsBeaten equal host n side whole after) where
      lined_votes : (i r c : ℕ) (d : C) → i < n → r < side → c < side → later r c ≡ true
          → get_or lined (strand_at n side i r c) d ≡ voted_copies after n side d i r c
      lined_votes i r c d hi hr hc k =
          let at : strand_at n side i r c ≡ 0 + strand_at n side i r c = omega arith in
          step.others (strand_at n side i r c) d (inl (omega (arith, strand_in n side i r c hi hr hc)))
          ∙ ap (λ m. get_or ballots m d) at ∙ vote.inside i r c d hi hr hc k
          ∙ three (vote_of equal) (seen_whole n side wounds cells whole stand i (next side r) c d hi (next_below side r hr) hc)
          (seen_whole n side wounds cells whole stand i r (next side c) d hi hr (next_below side c hc))
          (seen_whole n side wounds cells whole stand i r c d hi hr hc)
          ∙ sym (beaten.votes i r c d hi hr hc)

      -- The line is still old when it steps.
      old_line : (i : ℕ) (d : C) → i < n → line ballots n side d i ≡ line whole n side d i
      old_line i d hi = vote.outside (line_at n side i) d (inr (omega arith)) ∙ same_line n side wounds cells whole stand i d hi

      -- What lies past the strands, after the line's step.
      lined_rest : (k : ℕ) (d : C) → 2 * (n * (side * side)) ≤ k → get_or lined k d ≡ get_or after k d
      lined_rest k d h =
          by_place n side wide (λ m. 2 * (n * (side * side)) ≤ m → (d : C) → get_or lined m d ≡ get_or after m d)
          (λ i r c hi hr hc low. absurd (omega (arith, copy_in n side i r c hi hr hc)))
          (λ i r c hi hr hc low. absurd (omega (arith, copy_in n side i r c hi hr hc)))
          (λ i hi _ d. step.lines i d hi ∙ stepped_same host n _ _ (λ m hm. old_line m d hm) i hi ∙ sym (beaten.lines i d hi))
          (λ i hi _ d. step.earlier i d hi ∙ old_line i d hi ∙ sym (beaten.earlier i d hi))
          (λ m past _ d. step.others m d (inr past) ∙ vote.outside m d (inr (omega arith)) ∙ stand.rest m d (omega arith) ∙ sym (beaten.beyond m d past))
          k h d

      pub stand_later : StandFor later n side cells' after
      stand_later = record {
        within = within_later whole after beaten stand.within;
        strands = λ i r c d hi hr hc k.
            steps.inside i r c d hi hr hc k
            ∙ stepped_same host n _ _ (λ m hm. lined_votes m r c d hm hr hc k) i hi ∙ sym (beaten.steps i r c d hi hr hc);
        rest = λ k d h. steps.outside k d (inr (omega arith)) ∙ lined_rest k d h;
        long = long ∙ stand.long ∙ sym beaten.long;
      }

    pub beaten_for : BeatenFor equal host n side wounds cells later cells'
    beaten_for whole stand =
        let beat = beat_of equal host n side whole some (omega (arith, stand.long)) in
        (beat.0, beat.1, stand_later whole stand beat.0 beat.1)

-- Where nothing is wounded, the line steps, and then the copies are the line's and the votes the earlier line's.
module _ {C : Type 0} (equal : C → C → Bool) (heals : HealsOutside equal) (host : C → C → C → C) (n side : ℕ) (wounds : Plane Bool)
    (clear : Clear side wounds) (cells lined half last whole : List C) (stand : StandFor wounds n side cells whole) (long : length last ≡ length cells)
    (step : LineSteps host n side cells lined)
    (first : Swept 0 (n * (side * side)) (BlocksOf (2 * (n * (side * side))) n (side * side) lined) lined half)
    (second : Swept (n * (side * side)) (n * (side * side)) (BlocksOf (2 * (n * (side * side)) + n) n (side * side) half) half last) where
  last_rest : (k : ℕ) (d : C) → 2 * (n * (side * side)) ≤ k → get_or last k d ≡ get_or lined k d
  last_rest k d h = second.outside k d (inr (omega arith)) ∙ first.outside k d (inr (omega arith))

  last_votes : (i r c : ℕ) (d : C) → i < n → r < side → c < side → voted_copies last n side d i r c ≡ line whole n side d i
  last_votes i r c d hi hr hc =
      second.inside (copy_at side i r c) d (copy_in n side i r c hi hr hc) i (r * side + c) hi (place_in side side r c hr hc) refl
      ∙ first.outside (earlier_at n side i) d (inr (omega arith)) ∙ step.earlier i d hi ∙ same_line n side wounds cells whole stand i d hi

  last_copies : (i r c : ℕ) (d : C) → i < n → r < side → c < side → copies last side d i r c ≡ line lined n side d i
  last_copies i r c d hi hr hc =
      let at : copy_at side i r c ≡ 0 + copy_at side i r c = omega arith in
      second.outside (copy_at side i r c) d (inl (copy_in n side i r c hi hr hc)) ∙ ap (λ m. get_or half m d) at
      ∙ first.inside (copy_at side i r c) d (copy_in n side i r c hi hr hc) i (r * side + c) hi (place_in side side r c hr hc) refl

  line_steps : (i : ℕ) (d : C) → i < n → line lined n side d i ≡ stepped host n (line whole n side d) i
  line_steps i d hi = step.lines i d hi ∙ stepped_same host n _ _ (λ k hk. same_line n side wounds cells whole stand k d hk) i hi

  pub quiet_beaten : CellsBeaten equal host n side whole last
  quiet_beaten = record {
    votes = λ i r c d hi hr hc.
        last_votes i r c d hi hr hc
        ∙ sym (voted_line equal heals host n side wounds wounds (clear_stays side wounds clear) whole stand.within i r c d hi hr hc (clear r c hr hc));
    steps = λ i r c d hi hr hc.
        last_copies i r c d hi hr hc ∙ line_steps i d hi ∙ stepped_same host n _ _ (λ k hk. sym (last_votes k r c d hk hr hc)) i hi;
    earlier = λ i d hi. last_rest (earlier_at n side i) d (omega arith) ∙ step.earlier i d hi ∙ same_line n side wounds cells whole stand i d hi;
    lines = λ i d hi. last_rest (line_at n side i) d (omega arith) ∙ line_steps i d hi;
    beyond = λ k d past. last_rest k d (omega arith) ∙ step.others k d (inr past) ∙ stand.rest k d (omega arith);
    long = long ∙ stand.long;
  }

module _ {C : Type 0} (equal : C → C → Bool) (host : C → C → C → C) (n side : ℕ) where
  pub to_starts : (start : List C) (wounds : Plane Bool) (cells : List C) → StandFor wounds n side cells start → BeatenTo equal host n side 0 start wounds cells
  to_starts start wounds cells stand = record { whole = start; beaten = refl; stand = stand }

  pub to_more : (j : ℕ) (start : List C) (wounds : Plane Bool) (cells : List C) (wounds' : Plane Bool) (cells' : List C)
      → BeatenTo equal host n side j start wounds cells → BeatenFor equal host n side wounds cells wounds' cells'
      → BeatenTo equal host n side (j + 1) start wounds' cells'
  to_more j start wounds cells wounds' cells' to more =
      let next = more to.whole to.stand in
      record {
        whole = next.0;
        beaten = subst (λ m. CellsBeatenBy equal host n side m start next.0) (sym (add-one j)) (to.whole, to.beaten, next.1);
        stand = next.2;
      }

  pub times_none : (wounds : Plane Bool) (cells : List C) → BeatenTimes equal host n side 0 wounds cells wounds cells
  times_none wounds cells j start to = let sum : j ≡ j + 0 = omega arith in subst (λ m. BeatenTo equal host n side m start wounds cells) sum to

  pub times_more : (m : ℕ) (wounds : Plane Bool) (cells : List C) (wounds' : Plane Bool) (cells' : List C) (wounds'' : Plane Bool) (cells'' : List C)
      → BeatenTimes equal host n side m wounds cells wounds' cells' → BeatenFor equal host n side wounds' cells' wounds'' cells''
      → BeatenTimes equal host n side (m + 1) wounds cells wounds'' cells''
  times_more m wounds cells wounds' cells' wounds'' cells'' times more j start to =
      let sum : j + m + 1 ≡ j + (m + 1) = omega arith in
      subst (λ k. BeatenTo equal host n side k start wounds'' cells'') sum (to_more (j + m) start wounds' cells' wounds'' cells'' (times j start to) more)

-- Wounds may become their own vote.
pub covers_vote : (side : ℕ) (s t : Shadow) → s.side ≡ side → Voted s t → Covers side (marks s) (marks t)
covers_vote side s t sides voted r c hr hc out =
    ap (λ m. thinned m (marks s) r c) (sym sides) ∙ sym (voted.places r c (omega (arith, sides)) (omega (arith, sides))) ∙ out
