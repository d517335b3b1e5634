-- The worked examples, most of them by computation.
use Rattle.std.proofs.Common.{[], ◌∷◌, is_some, None, unwrap_or, refl, ap, arith}
use Rattle.std.specs.Option.{option_map}
use Rattle.std.specs.Bool.{beq}
use Rattle.toom.specs.Bit.{byte_of_bit}
use Rattle.toom.specs.Vote.{SameVotes}
use Rattle.hosts.specs.Refusal.{ask}
use Rattle.plate.specs.ReadCall.{read_refusal}
use Rattle.worked.specs.Worked.{WorkedExamples}
use Rattle.worked.proofs.Beavers.{beaver_there, beaver_does}
use Rattle.worked.proofs.Ones.{few, half, many}
use Rattle.worked.proofs.Places.{same_marks, stays}

pub worked_examples : SameVotes beq → WorkedExamples
worked_examples same_votes = record {
  bits_vote = refl;
  machine_cells_vote = refl;
  rule_110_once = refl;
  rule_110_twice = refl;
  rule_110_thrice = refl;
  beaver_in_order = refl;
  beaver_there = beaver_there;
  beaver_does = beaver_does;
  corner_once = same_marks 4 _ _ refl;
  corner_twice = same_marks 4 _ _ refl;
  row_stays = stays same_votes 4 _ (same_marks 4 _ _ refl);
  row_of_two = refl;
  record_read = refl;
  seven_ones = λ cells of.
      let zero = few 7 cells of (omega arith) in
      (zero, ap (λ o. unwrap_or (option_map byte_of_bit o) 0 ∷ []) zero);
  eight_ones = λ cells of.
      let none = half 8 cells of refl in
      (none, ap (λ o. ask (is_some o) (read_refusal 16 0) None) none);
  nine_ones = λ cells of.
      let one = many 9 cells of (omega arith) in
      (one, ap (λ o. unwrap_or (option_map byte_of_bit o) 0 ∷ []) one);
}
