-- A laid plate under strikes and beats: it keeps its shape, and each beat makes it one older. While no question fails, none of them is refused.
use Rattle.std.proofs.Common.{◌≡◌, ℕ, ◌+◌, ◌≤◌, Bool, length, Some, None, Option, sym, ap, ◌∙◌, ap₂, arith}
use Rattle.std.proofs.lemmas.List.{length-set}
use Rattle.std.proofs.lemmas.Bool.{cond-true, le-leb}
use Rattle.plate.specs.declared.laid.Laid.{Laid}
use Rattle.plate.specs.BeatCall.{Beats}
use Rattle.plate.specs.BeatsCall.{beats_questions, beats_questions_of}
use Rattle.plate.specs.Board.{Board, side_of, standing}
use Rattle.plate.specs.Layout.{size_of}
use Rattle.plate.specs.StrikeCall.{Strikes, place_questions, strike_questions, strike_questions_of}
use Rattle.plate.proofs.Standing.{some_same, standing_holds, stands_with}

-- The plate is laid with this shape, at this age.
pub record LaidAs {C : Type 0} (n side age : ℕ) (b : Board C) : Type 0 where
  pub kept : Laid
  pub stands : standing b ≡ Some kept
  pub planes : kept.planes ≡ n
  pub sides : side_of kept ≡ side
  pub ages : kept.age ≡ age

module _ {C : Type 0} (n side age : ℕ) (b b' : Board C) (laid : LaidAs n side age b) where
  -- What stood before is what was laid.
  stood_kept : (l : Laid) → standing b ≡ Some l → laid.kept ≡ l
  stood_kept l stands = some_same laid.kept l (sym laid.stands ∙ stands)

  held : (m : ℕ) → m ≡ length b.cells → size_of n side ≤ m
  held m long =
      let sizes : size_of laid.kept.planes (side_of laid.kept) ≡ size_of n side = ap₂ size_of laid.planes laid.sides in
      rw long (rw sizes at (standing_holds b laid.kept laid.stands))

  -- A plate that keeps the shape over as many cells is laid with it.
  kept_on : (l m : Laid) (older : ℕ) → standing b ≡ Some l → b'.laid ≡ Some m → m.planes ≡ l.planes → side_of m ≡ side_of l
      → m.age ≡ l.age + older → length b'.cells ≡ length b.cells → LaidAs n side (age + older) b'
  kept_on l m older stood keeps planes sides ages long =
      let same = stood_kept l stood in
      let planes' : m.planes ≡ n = planes ∙ sym (ap (λ x. x.planes) same) ∙ laid.planes in
      let sides' : side_of m ≡ side = sides ∙ sym (ap side_of same) ∙ laid.sides in
      record {
        kept = m;
        stands = stands_with b' m n side keeps planes' sides' (held (length b'.cells) long);
        planes = planes';
        sides = sides';
        ages = ages ∙ ap (λ x. x + older) (sym (ap (λ x. x.age) same) ∙ laid.ages);
      }

  pub beaten_on : (equal : C → C → Bool) (host : C → C → C → C) → Beats equal host b b' → LaidAs n side (age + 1) b'
  beaten_on equal host beats =
      kept_on beats.stood beats.kept 1 beats.standing_before beats.stands beats.planes beats.shadow.sides beats.age
      beats.cells.long

  pub struck_on : (named : ℕ → Option C) (plane row column byte : ℕ) → Strikes named plane row column byte b b' → LaidAs n side (age + 0) b'
  struck_on named plane row column byte strikes =
      kept_on strikes.stood strikes.kept 0 strikes.standing_before strikes.stands strikes.planes strikes.shadow.sides
      (omega (arith, strikes.age)) (ap length strikes.cells ∙ length-set b.cells _ _)

  pub beats_pass : (m : ℕ) → age + m ≤ 1048575 → beats_questions b m ≡ None
  beats_pass m young =
      ap (λ o. beats_questions_of o m) laid.stands
      ∙ cond-true _ _ _ (le-leb (laid.kept.age + m) 1048575 (omega (arith, laid.ages, young)))

  pub strike_passes : (named : ℕ → Option C) (plane row column byte : ℕ) → place_questions named n side plane row column byte ≡ None
      → strike_questions named b plane row column byte ≡ None
  strike_passes named plane row column byte good =
      ap (λ o. strike_questions_of named o plane row column byte) laid.stands
      ∙ ap₂ (λ m s. place_questions named m s plane row column byte) laid.planes laid.sides ∙ good
