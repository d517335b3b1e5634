-- What a refusal is told as tells the refusal: no two words have one text.
use Rattle.std.proofs.Common.{◌≡◌, ℕ, cond, eqb, List, get_or, refl, ap}
use Rattle.hosts.specs.Refusal as refusals
use Rattle.plate.proofs.PinnedFaults.{undone}
use Rattle.rounds.specs.declared.refusal.Refusal.{Refusal}
use Rattle.rounds.specs.declared.refusal.Word.{Word}
use Rattle.rounds.specs.declared.refusal.Word.TheVariants.{Lay, Strike, Beat, Run, Read, Map, Shadow, Report, Host, Round, Refused}
use Rattle.rounds.specs.PlayPins.{WordsPin}
use Rattle.rounds.specs.Told.{told, word_text}

-- The first letter tells a word, but of those with `s` and with `r` the third does.
word_back : List ℕ → Word
word_back text =
    let first = eqb (get_or text 0 0) in
    let third = eqb (get_or text 2 0) in
    cond (first 108) Lay
    (cond (first 98) Beat
    (cond (first 109) Map
    (cond (first 104) Host
    (cond (first 115) (cond (third 114) Strike Shadow)
    (cond (third 110) Run (cond (third 97) Read (cond (third 112) Report (cond (third 117) Round Refused))))))))

words_undone : (w : Word) → word_back (word_text w) ≡ w
unfolding word_back
words_undone Lay = refl
words_undone Strike = refl
words_undone Beat = refl
words_undone Run = refl
words_undone Read = refl
words_undone Map = refl
words_undone Shadow = refl
words_undone Report = refl
words_undone Host = refl
words_undone Round = refl
words_undone Refused = refl

told_back : refusals.Refusal → Refusal
told_back r = record { number = r.number; word = word_back r.word; place = r.place }

told_undone : (r : Refusal) → told_back (told r) ≡ r
unfolding told_back
told_undone r = ap (λ w. record { number = r.number; word = w; place = r.place }) (words_undone r.word)

pub words_pin : WordsPin
words_pin = undone told told_back told_undone
