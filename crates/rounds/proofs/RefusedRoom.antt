-- The line of a refusal is at most 64 bytes long.
use Rattle.std.proofs.Common.{◌^◌, ◌<◌, ◌≤◌, [], ◌∷◌, ◌++◌, length, codes, decimal, arith}
use Rattle.std.proofs.lemmas.Fmt.{length-decimal-le}
use Rattle.std.proofs.lemmas.List.{length-append}
use Rattle.rounds.specs.declared.refusal.Refusal.{Refusal}
use Rattle.rounds.specs.declared.refusal.Word.{Word}
use Rattle.rounds.specs.RefusedCall.{refused_line}
use Rattle.rounds.specs.Told.{told, word_text}

word_short : (w : Word) → length (word_text w) ≤ 7
word_short w = grind arith

pub refused_fits : (r : Refusal) → r.number < 256 → r.place < 2 ^ 64 → length (refused_line (told r)) ≤ 64
refused_fits r small fits =
    let number = length-decimal-le 3 r.number (omega arith) (omega arith) (omega arith) in
    let place = length-decimal-le 20 r.place (omega arith) (omega arith) fits in
    let word = word_short r.word in
    let last = length-append (decimal r.place) (10 ∷ []) in
    let middle = length-append (word_text r.word) (codes " " ++ (decimal r.place ++ (10 ∷ []))) in
    let first = length-append (decimal r.number) (codes " " ++ (word_text r.word ++ (codes " " ++ (decimal r.place ++ (10 ∷ []))))) in
    omega arith
