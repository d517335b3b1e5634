use Rattle.std.proofs.Common.{◌≡◌, ap, eq-eqb, rules}
use Rattle.std.proofs.lemmas.Bool.{and_parts, eqb-true}
use Rattle.std.specs.Bool.{Decides}
use Rattle.std.specs.Cmp.Derive.{both_true}
use Rattle.hosts.specs.contracts.entry.Motion.{the_type}
use Rattle.hosts.specs.declared.entry.Motion.{Motion}
use Rattle.hosts.proofs.Entries.{entries_equal}
use denote.Enum.Bare.{sameb}
use Rattle.hosts.proofs.laws.sameness_is_equality.Goals as goal

motions : (m n : Motion) → Decides (sameb the_type m n) (m ≡ n)
motions = search rules

pub returns-clause-entries : goal.returns-clause-entries
returns-clause-entries c x y = (
  λ e.
      let next = and_parts _ _ e in
      let symbol = and_parts _ _ next.1 in
      entries_equal x y (eqb-true _ _ next.0) (eqb-true _ _ symbol.0) ((motions x.motion y.motion).0 symbol.1),
  λ e.
      both_true (eq-eqb _ _ (ap (λ z. z.next) e))
      (both_true (eq-eqb _ _ (ap (λ z. z.symbol) e)) ((motions x.motion y.motion).1 (ap (λ z. z.motion) e))),
)
