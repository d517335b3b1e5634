-- What is known of a call that no question refused.
use Rattle.std.proofs.Common.{◌≡◌, ℕ, ◌<◌, ◌≤◌, true, List, length, get_or, is_some, None, Option, arith}
use Rattle.std.proofs.lemmas.Bool.Decides.{nat_tests}
use Rattle.hosts.specs.Refusal.{ask_each}
use Rattle.hosts.proofs.Questions.{ask_none, asked_each}
use Rattle.plate.specs.LayCall.{lay_questions, lay_refusal, tape_questions}
use Rattle.plate.specs.Layout.{size_of}
use Rattle.plate.specs.StrikeCall.{place_questions}

module _ {C : Type 0} (named : ℕ → Option C) (n side : ℕ) (tape : List ℕ) (memory : ℕ)
    (good : lay_questions named n side tape memory ≡ None) where
  pub lay_room : size_of n side ≤ memory
  lay_room = grind (arith, nat_tests)

  pub lay_long : length tape ≡ n
  lay_long = grind (arith, nat_tests)

  names_asked : ask_each (tape_questions named tape) n ≡ None
  names_asked = grind (arith, nat_tests)

  pub lay_names : (i : ℕ) → i < n → is_some (named (get_or tape i 0)) ≡ true
  lay_names i i< = (ask_none (is_some (named (get_or tape i 0))) (lay_refusal 5 i) None (asked_each (tape_questions named tape) n i names_asked i<)).0

module _ {C : Type 0} (named : ℕ → Option C) (n side plane row column byte : ℕ)
    (good : place_questions named n side plane row column byte ≡ None) where
  pub struck_plane : plane < n
  struck_plane = grind (arith, nat_tests)

  pub struck_row : row < side
  struck_row = grind (arith, nat_tests)

  pub struck_column : column < side
  struck_column = grind (arith, nat_tests)
