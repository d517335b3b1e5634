use Rattle.std.proofs.Common.{◌≡◌, ◌-◌, ◌++◌, take, drop, ap, ◌∙◌, ap₂, arith}
use native.Mathlib.Nat.{sub-zero}
use Rattle.toom.specs.Shadow.{words_of}
use Rattle.toom.proofs.Shadows.{words_are}
use Rattle.toom.proofs.shadow.Shadow.write.Goals as goal

pub returns : goal.returns
returns c =
    let s = c.args.self.now in
    let out = c.args.out.now in
    let words : take (s.side - 0) s.rows ≡ words_of s = ap (λ n. take n s.rows) (sub-zero s.side) ∙ words_are s in
    let rest : drop (s.side - 0) out ≡ drop s.side out = ap (λ n. drop n out) (sub-zero s.side) in
    (omega arith, ap₂ ◌++◌ (c.copy_from_slice.ensures.after ∙ words) rest)
