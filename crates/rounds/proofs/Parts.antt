-- The parts of a round's file, cut from what follows its header.
use Rattle.std.proofs.Common.{◌≡◌, ℕ, ◌+◌, ◌*◌, ◌≤◌, true, List, length, take, drop, None, sym, ap, ◌∙◌, arith}
use Rattle.std.proofs.lemmas.Bool.Decides.{nat_tests}
use Rattle.std.proofs.lemmas.List.{drop-drop, take_all}
use Rattle.rounds.specs.declared.file_kind.FileKind.{FileKind}
use Rattle.rounds.specs.declared.round.Header.{Header}
use Rattle.rounds.specs.FileKind.{same_kind}
use Rattle.rounds.specs.RoundFile.{HeaderIn, host_in, host_length, planes_in, round_questions, script_in, script_length, tape_in}

module _ (file rest : List ℕ) (h : Header) (is : HeaderIn file h) (after : rest ≡ drop 9 file) where
  pub host_cut : take h.host rest ≡ host_in file
  host_cut = cc

  from_tape : drop h.host rest ≡ drop (9 + host_length file) file
  from_tape = ap (drop h.host) after ∙ drop-drop h.host 9 file ∙ ap (λ n. drop (9 + n) file) is.host

  pub tape_cut : take h.planes (drop h.host rest) ≡ tape_in file
  tape_cut = cc from_tape

  from_script : drop h.planes (drop h.host rest) ≡ drop (9 + host_length file + planes_in file) file
  from_script = ap (drop h.planes) from_tape ∙ drop-drop h.planes (9 + host_length file) file ∙ ap (λ n. drop (9 + host_length file + n) file) is.planes

  pub script_cut : (script : List ℕ) → script ≡ drop h.planes (drop h.host rest) → length script ≡ h.script → script ≡ script_in file
  script_cut script cut long =
      sym (take_all h.script script (omega arith)) ∙ ap (λ n. take n script) is.script ∙ ap (take (script_length file)) (cut ∙ from_script)

pub passed : (kind : FileKind) (file rest : List ℕ) (h : Header) → HeaderIn file h → length rest + 9 ≡ length file → same_kind h.kind kind ≡ true
    → length rest ≡ h.host + h.planes + h.script → length file ≤ 65535 → h.planes * (h.side * h.side) ≤ 16384 → round_questions kind file ≡ None
passed kind file rest h is long kinds ends fits few = grind (arith, nat_tests)
