-- The header is read from the first nine bytes alone.
use Rattle.std.proofs.Common.{◌≡◌, ℕ, zero, suc, ◌+◌, ◌/◌, ◌%◌, ◌^◌, ◌≤◌, List, take, refl, ap, ◌∙◌, arith}
use Rattle.std.proofs.lemmas.List.{get_or-take}
use Rattle.runs.specs.Bytes.{number_at}
use Rattle.rounds.specs.declared.round.Header.{Header}
use Rattle.rounds.specs.FileKind.{file_kind}
use Rattle.rounds.specs.RoundFile.{HeaderIn, header}

number_at-take : (bytes : List ℕ) (n from count : ℕ) → from + count ≤ n → number_at (take n bytes) from count ≡ number_at bytes from count
number_at-take bytes n from zero within = refl
number_at-take bytes n from (suc count) within =
    let before = number_at-take bytes n from count (omega arith) in
    let here = get_or-take n bytes (from + count) 0 (omega arith) in
    cc

pub header_in : (file : List ℕ) (h : Header) → HeaderIn (take 9 file) h → HeaderIn file h
header_in file h is =
    let same : header (take 9 file) ≡ header file = number_at-take file 9 0 9 (omega arith) in
    record {
      kind = is.kind ∙ ap (λ n. file_kind (n / 2 ^ 70)) same;
      side = is.side ∙ ap (λ n. n / 2 ^ 64 % 2 ^ 6 + 1) same;
      planes = is.planes ∙ ap (λ n. n / 2 ^ 52 % 2 ^ 12 + 1) same;
      beats = is.beats ∙ ap (λ n. n / 2 ^ 32 % 2 ^ 20) same;
      host = is.host ∙ ap (λ n. n / 2 ^ 16 % 2 ^ 16) same;
      script = is.script ∙ ap (λ n. n % 2 ^ 16) same;
    }
