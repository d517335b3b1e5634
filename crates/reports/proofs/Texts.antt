-- Appending to a text, one piece after another.
use Rattle.std.proofs.Common.{◌≡◌, ℕ, ◌+◌, List, [], ◌++◌, length, take, drop, sym, refl, ap, ◌∙◌, subst, ap₂, append_assoc, arith}
use Rattle.std.proofs.lemmas.List.{drop_at, drop-drop, length-append, length-drop, length-take-le, take-append-drop, take_at}
use Rattle.reports.specs.declared.text.Text.{Text}
use Rattle.reports.specs.Text.{Fits, Appends}

pub appends_none : (a : Text) → Appends a [] a
appends_none a = record {
  len = omega arith;
  bytes = sym (take-append-drop a.len a.bytes.now) ∙ ap (λ n. take a.len a.bytes.now ++ drop n a.bytes.now) (omega arith);
  same = refl;
}

pub appends_as : {a b : Text} {x y : List ℕ} → x ≡ y → Appends a x b → Appends a y b
appends_as {a} {b} same = subst (λ more. Appends a more b) same

-- There is room for the front of what there is room for.
pub fits_front : (a : Text) (x y : List ℕ) → Fits a (x ++ y) → Fits a x
fits_front a x y fits = omega (arith, length-append x y)

-- The text a with x appended is b; then y is appended.
module _ {a b : Text} {x : List ℕ} (first : Appends a x b) (y : List ℕ) (fits : Fits a (x ++ y)) where
  abbrev written : List ℕ
  written = take a.len a.bytes.now ++ x

  abbrev rest : List ℕ
  rest = drop (a.len + length x) a.bytes.now

  bytes : b.bytes.now ≡ written ++ rest
  bytes = first.bytes ∙ sym (append_assoc (take a.len a.bytes.now) x rest)

  written_long : length written ≡ b.len
  written_long =
      omega (arith, length-append (take a.len a.bytes.now) x, length-take-le a.len a.bytes.now (omega arith), first.len)

  pub fits_more : Fits b y
  fits_more =
      omega (
        arith,
        ap length bytes,
        length-append written rest,
        written_long,
        length-drop (a.len + length x) a.bytes.now,
        length-append x y,
        first.len,
      )

  past : drop (b.len + length y) b.bytes.now ≡ drop (a.len + length (x ++ y)) a.bytes.now
  past =
      sym (drop-drop (length y) b.len b.bytes.now) ∙ ap (drop (length y)) (ap (drop b.len) bytes ∙ drop_at written rest b.len written_long)
      ∙ drop-drop (length y) (a.len + length x) a.bytes.now ∙ ap (λ n. drop n a.bytes.now) (omega (arith, length-append x y))

  pub appends_more : {c : Text} → Appends b y c → Appends a (x ++ y) c
  appends_more {c} second = record {
    len = omega (arith, first.len, second.len, length-append x y);
    bytes = second.bytes
        ∙ ap₂ (λ p q. p ++ (y ++ q)) (ap (take b.len) bytes ∙ take_at written rest b.len written_long) past
        ∙ simp append_assoc;
    same = second.same ∙ first.same;
  }
