-- A beaten plate follows the plain machine: the vote heals every plane outside the voted shadow, and there and in the line the host steps the run.
use Rattle.std.proofs.Common.{◌≡◌, ℕ, ◌<◌, ◌≤◌, Bool, false, length, Some, sym, ap, ◌∙◌, subst}
use Rattle.std.specs.Bool.{beq}
use Rattle.toom.specs.Shadow.{IsShadow, marks}
use Rattle.toom.specs.Vote.{thinned, HealsOutside, SameVotes}
use Rattle.hosts.specs.Ring.{left_of, right_of, stepped}
use Rattle.plate.specs.BeatCall.{Beats, CellsBeaten, copies, line, voted_copies}
use Rattle.plate.specs.Board.{Board, side_of}
use Rattle.plate.specs.Layout.{size_of}
use Rattle.plate.specs.Plain.{Plain, lifted}
use Rattle.plate.proofs.Follows.{Alike, Follows, shape_held, stood_alike}
use Rattle.hosts.proofs.Rings.{left_below, right_below}
use Rattle.plate.proofs.Standing.{some_same, stands_with}

module _ {C : Type 0} (equal : C → C → Bool) (heals_outside : HealsOutside equal) (same_votes : SameVotes beq)
    (host : C → C → C → C) (p : Plain C) (b b' : Board C) (follows : Follows p b) (beats : Beats equal host b b') where
  alike : Alike beats.stood p
  alike = stood_alike p b follows.agrees beats.stood beats.standing_before

  cells_beaten : CellsBeaten equal host p.n p.side b.cells b'.cells
  cells_beaten =
      subst (λ s. CellsBeaten equal host p.n s b.cells b'.cells) alike.sides
      (subst (λ n. CellsBeaten equal host n (side_of beats.stood) b.cells b'.cells) alike.planes beats.cells)

  shadow_voted : IsShadow beats.kept.shadow p.side (thinned p.side (marks beats.stood.shadow))
  shadow_voted =
      subst (λ s. IsShadow beats.kept.shadow s (thinned s (marks beats.stood.shadow))) alike.sides beats.shadow

  -- Outside the voted shadow a voted copy is the faultless run's cell.
  voted_heals : (i r c : ℕ) (d : C) → i < p.n → r < p.side → c < p.side → thinned p.side p.shadow r c ≡ false
      → Some (voted_copies b'.cells p.n p.side d i r c) ≡ p.run i
  voted_heals i r c d i< r< c< clear =
      let x = follows.runs i i< in
      let before = λ (r c : ℕ) (r< : r < p.side) (c< : c < p.side) (clear : p.shadow r c ≡ false).
      some_same (copies b.cells p.side d i r c) x.0 (follows.agrees.copies i r c d i< r< c< clear ∙ x.1) in
      ap Some
      (cells_beaten.votes i r c d i< r< c<
      ∙ heals_outside p.side p.shadow (copies b.cells p.side d i) x.0 before r c r< c< clear)
      ∙ sym x.1

  stepped_heals : (i r c : ℕ) (d : C) → i < p.n → r < p.side → c < p.side → thinned p.side p.shadow r c ≡ false
      → Some (copies b'.cells p.side d i r c) ≡ stepped (lifted host) p.n p.run i
  stepped_heals i r c d i< r< c< clear =
      let left = voted_heals (left_of p.n i) r c d (left_below p.n i i<) r< c< clear in
      let own = voted_heals i r c d i< r< c< clear in
      let right = voted_heals (right_of p.n i) r c d (right_below p.n i i<) r< c< clear in
      ap Some (cells_beaten.steps i r c d i< r< c<) ∙ (λ j. lifted host (left j) (own j) (right j))

  -- The line is the run before the beat, so the host steps it to the run after.
  stepped_lines : (i : ℕ) (d : C) → i < p.n → Some (line b'.cells p.n p.side d i) ≡ stepped (lifted host) p.n p.run i
  stepped_lines i d i< =
      let left = follows.agrees.lines (left_of p.n i) d (left_below p.n i i<) in
      let own = follows.agrees.lines i d i< in
      let right = follows.agrees.lines (right_of p.n i) d (right_below p.n i i<) in
      ap Some (cells_beaten.lines i d i<) ∙ (λ j. lifted host (left j) (own j) (right j))

  -- The host has three cells to answer to.
  run_steps : (i : ℕ) → i < p.n → (x : C) × (stepped (lifted host) p.n p.run i ≡ Some x)
  run_steps i i< =
      let left = follows.runs (left_of p.n i) (left_below p.n i i<) in
      let own = follows.runs i i< in
      let right = follows.runs (right_of p.n i) (right_below p.n i i<) in
      (host left.0 own.0 right.0, λ j. lifted host (left.1 j) (own.1 j) (right.1 j))

  room : size_of p.n p.side ≤ length b'.cells
  room = rw cells_beaten.long (shape_held p b follows.agrees)

  pub follows_beaten : Follows
      record { n = p.n; side = p.side; run = stepped (lifted host) p.n p.run; shadow = thinned p.side p.shadow } b'
  follows_beaten =
      let planes : beats.kept.planes ≡ p.n = beats.planes ∙ alike.planes in
      record {
        agrees = record {
          kept = beats.kept;
          stands = stands_with b' beats.kept p.n p.side beats.stands planes shadow_voted.sides room;
          planes = planes;
          sides = shadow_voted.sides;
          shadows = λ r c r< c<. shadow_voted.places r c r< c< ∙ same_votes p.side _ p.shadow alike.shadows r c r< c<;
          copies = stepped_heals;
          lines = stepped_lines;
        };
        runs = run_steps;
      }
