use Rattle.std.proofs.Common.{◌≡◌, ◌+◌, true, take, drop, length, subst, ap, ◌∙◌, arith}
use Rattle.std.proofs.lemmas.Grind.{common_steps}
use Rattle.rounds.specs.FileKind.{same_kind}
use Rattle.rounds.specs.RoundFile.{HeaderIn}
use Rattle.rounds.proofs.Headers.{header_in}
use Rattle.rounds.proofs.Parts.{host_cut, tape_cut, script_cut, passed}
use Rattle.rounds.proofs.round.Round.read.Goals as goal

pub returns : goal.returns
returns c =
    let file = c.args.file.now in
    let rest = c.in-Some.rest.now in
    let h = c.read_header-header.result in
    let is = header_in file h (subst (λ b. HeaderIn b h) c.in-Some.ensures.cases.0 c.read_header-header.ensures) in
    let after = c.in-Some.ensures.cases.1 in
    let long : length rest + 9 ≡ length file = c.in-Some.ensures.cases.2 in
    let kinds : same_kind h.kind c.args.kind ≡ true = grind (arith, common_steps, c.if-ne.ensures) in
    let tape = c.split_at.ensures.back in
    let script = c.split_at-2.ensures.back ∙ ap (drop h.planes) tape in
    let script_long : length c.split_at-2.result.1.now ≡ h.script = omega arith in (
      passed c.args.kind file rest h is long kinds c.if-rest-header.false c.if-file-gt-MAX_ROUND.false c.if-header-gt-MAX_COPIES.false,
      record {
        planes = is.planes;
        side = is.side;
        beats = is.beats;
        host = c.split_at.ensures.front ∙ host_cut file rest h is after;
        tape = c.split_at-2.ensures.front ∙ ap (take h.planes) tape ∙ tape_cut file rest h is after;
        script = script_cut file rest h is after _ script script_long;
      },
    )
