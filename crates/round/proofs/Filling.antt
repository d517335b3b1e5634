-- A buffer that is filled read by read holds the front of its source.
use Rattle.std.proofs.Common.{◌≡◌, ℕ, ◌+◌, ◌≤◌, List, ◌++◌, Option, length, take, sym, ap, ◌∙◌, subst, length-take-le}
use Rattle.std.proofs.Math.Seq.{take-append-add}
use Rattle.std.proofs.lemmas.List.{take-append-le}
use Rattle.std.proofs.KnownBytes.{Consumes-trans}
use Rattle.std.specs.Io.KnownBytes.{Consumes}
use borrow.Rule.Slice.PartMut.{put_mid, post_of}

-- The bytes of a read into the rest of the buffer come after those that are there.
put_behind : (a k n : ℕ) (xs ys : List ℕ) → a ≤ length xs → n ≤ length ys → take (a + n) (put_mid a k xs ys) ≡ take a xs ++ take n ys
put_behind a k n xs ys within fits =
    let after = ys ++ post_of a k xs in
    ap (λ m. take (m + n) (take a xs ++ after)) (sym (length-take-le a xs within)) ∙ take-append-add (take a xs) after n
    ∙ ap (λ l. take a xs ++ l) (take-append-le n ys (post_of a k xs) fits)

pub read_on : (before middle after : Option (List ℕ)) (a k n : ℕ) (xs ys : List ℕ) → a ≤ length xs → n ≤ length ys
    → Consumes before middle (take a xs) → Consumes middle after (take n ys) → Consumes before after (take (a + n) (put_mid a k xs ys))
read_on before middle after a k n xs ys within fits first next =
    subst (Consumes before after) (sym (put_behind a k n xs ys within fits)) (Consumes-trans before middle after _ _ first next)
