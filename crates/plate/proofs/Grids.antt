-- Blocks of w places, one after another: place p of block i is i * w + p.
use Rattle.std.proofs.Common.{◌≡◌, ℕ, ◌+◌, ◌-◌, ◌*◌, ◌/◌, ◌%◌, ◌<◌, ◌≤◌, sym, ap, ◌∙◌, mul-le-mul_right, arith}
use Rattle.std.proofs.lemmas.Nat.{div-mul-add, mod-mul-add}

pub block_in : (n w i : ℕ) → i < n → i * w + w ≤ n * w
block_in n w i h = let all : (i + 1) * w ≤ n * w = mul-le-mul_right w (let le : i + 1 ≤ n = omega arith in le) in omega arith

pub place_in : (n w i p : ℕ) → i < n → p < w → i * w + p < n * w
place_in n w i p h l = omega (arith, block_in n w i h)

pub last_block : (n w : ℕ) → 1 ≤ n → (n - 1) * w + w ≡ n * w
last_block n w h = let same : (n - 1 + 1) * w ≡ n * w = ap (λ m. m * w) (omega arith) in omega arith

-- A place is in one block, once.
pub one_place : (w i p k q : ℕ) → p < w → q < w → i * w + p ≡ k * w + q → (i ≡ k) × (p ≡ q)
one_place w i p k q hp hq e = (
  sym (div-mul-add i w p hp) ∙ ap (λ n. n / w) e ∙ div-mul-add k w q hq,
  sym (mod-mul-add i w p hp) ∙ ap (λ n. n % w) e ∙ mod-mul-add k w q hq,
)
