-- The line of a refusal, written piece by piece: after each there is room for those that are left.
use Rattle.std.proofs.Common.{ℕ, List, [], ◌∷◌, ◌++◌, codes, decimal}
use Rattle.reports.specs.declared.text.Text.{Text}
use Rattle.reports.specs.Text.{Appends, Fits}
use Rattle.reports.proofs.Texts.{appends_more, fits_more}
use Rattle.rounds.specs.declared.refusal.Refusal.{Refusal}
use Rattle.rounds.specs.RefusedCall.{refused_line}
use Rattle.rounds.specs.Told.{told, word_text}

-- What is left to write.
abbrev pub after_place : List ℕ
after_place = 10 ∷ []

abbrev pub after_blank : Refusal → List ℕ
after_blank r = decimal r.place ++ after_place

abbrev pub after_word : Refusal → List ℕ
after_word r = codes " " ++ after_blank r

abbrev pub after_space : Refusal → List ℕ
after_space r = word_text r.word ++ after_word r

abbrev pub after_number : Refusal → List ℕ
after_number r = codes " " ++ after_space r

abbrev pub after_refused : Refusal → List ℕ
after_refused r = decimal r.number ++ after_number r

module _ (r : Refusal) {start refused : Text} (fits : Fits start (refused_line (told r)))
    (p : Appends start (codes "refused ") refused) where
  pub room_refused : Fits refused (after_refused r)
  room_refused = fits_more p (after_refused r) fits

  module _ {number : Text} (q : Appends refused (decimal r.number) number) where
    pub room_number : Fits number (after_number r)
    room_number = fits_more q (after_number r) room_refused

    module _ {space : Text} (s : Appends number (codes " ") space) where
      pub room_space : Fits space (after_space r)
      room_space = fits_more s (after_space r) room_number

      module _ {word : Text} (t : Appends space (word_text r.word) word) where
        pub room_word : Fits word (after_word r)
        room_word = fits_more t (after_word r) room_space

        module _ {blank : Text} (u : Appends word (codes " ") blank) where
          pub room_blank : Fits blank (after_blank r)
          room_blank = fits_more u (after_blank r) room_word

          module _ {place : Text} (v : Appends blank (decimal r.place) place) where
            pub room_place : Fits place after_place
            room_place = fits_more v after_place room_blank

            pub line_written : {end : Text} → Appends place after_place end → Appends start (refused_line (told r)) end
            line_written w =
                appends_more p (after_refused r) fits
                (appends_more q (after_number r) room_refused
                (appends_more s (after_space r) room_number
                (appends_more t (after_word r) room_space (appends_more u (after_blank r) room_word (appends_more v after_place room_blank w)))))
