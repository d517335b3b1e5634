use Rattle.std.proofs.Common.{◌≡◌, ◌&&◌, nat_eq, sym, ap, ◌∙◌, subst, eq-eqb}
use Rattle.std.specs.Bool.{Decides}
use Rattle.std.specs.Cmp.Lexicographic.{pointwise}
use Rattle.toom.specs.EqualShadows.{equal_shadows_decides}
use Rattle.toom.specs.Shadow.{equal_shadows}
use Rattle.toom.proofs.shadow.calls.ShadowPartialEq.eq.Goals as goal

pub returns : goal.returns
returns c =
    let s = c.args.self.now in
    let t = c.args.other.now in
    let value : c.eq.result ≡ equal_shadows s t =
    c.eq.ensures ∙ sym (ap (λ b. b && pointwise nat_eq s.rows t.rows) (eq-eqb s.side t.side c.if-self-other.false)) in
    record { value = value; decides = subst (λ r. Decides r (s ≡ t)) (sym value) (equal_shadows_decides s t) }
