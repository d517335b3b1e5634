-- Offsets round the torus: one place has one offset below the side, and the next place the next.
use Rattle.std.proofs.Common.{◌≡◌, ℕ, zero, suc, ◌+◌, ◌*◌, ◌%◌, ◌<◌, sym, ap, ◌∙◌, mod-lt, mod-eq_of_lt, mul-suc, arith}
use native.Mathlib.Nat.{mod-add-mod, add-mul-mod_self_right}
use Rattle.toom.specs.Torus.{next}

pub next_below : (side i : ℕ) → i < side → next side i < side
next_below side i i< = mod-lt (i + 1) (omega arith)

-- Modulo p + 1, adding a * p undoes adding a: together they add a * (p + 1).
undo : (a p x : ℕ) → x < suc p → ((a + x) % suc p + a * p) % suc p ≡ x
undo a p x below =
    mod-add-mod (a + x) (suc p) (a * p)
    ∙ ap (λ n. n % suc p) (omega (arith, mul-suc a p))
    ∙ add-mul-mod_self_right x a (suc p)
    ∙ mod-eq_of_lt below

pub same_offset : (side a x y : ℕ) → x < side → y < side → (a + x) % side ≡ (a + y) % side → x ≡ y
same_offset zero a x y x< y< e = absurd (omega arith)
same_offset (suc p) a x y x< y< e = sym (undo a p x x<) ∙ ap (λ n. (n + a * p) % suc p) e ∙ undo a p y y<

-- The place after the one at offset x has offset x + 1.
pub next_offset : (side a i x y : ℕ) → x + 1 < side → y < side → i ≡ (a + x) % side → next side i ≡ (a + y) % side → x + 1 ≡ y
next_offset side a i x y x< y< here there =
    same_offset side a (x + 1) y x< y<
    (ap (λ n. n % side) (omega arith) ∙ sym (mod-add-mod (a + x) side 1) ∙ ap (next side) (sym here) ∙ there)
