-- What is found by the play of one kind of cell is found of the files of that kind, and by that of bits of every file of another number too.
use Rattle.std.proofs.Common.{◌≡◌, ℕ, ◌⊎◌, Bool, List, sym, ◌∙◌, inl, inr, subst}
use Rattle.rounds.specs.declared.file_kind.FileKind.{FileKind}
use Rattle.rounds.specs.declared.file_kind.FileKind.TheVariants.{Bits, Other}
use Rattle.toom.specs.declared.bit.Bit.{Bit}
use Rattle.toom.specs.Bit.{bit_of_byte, byte_of_bit, equal_bits}
use Rattle.hosts.specs.declared.elementary.Elementary.{Elementary}
use Rattle.hosts.specs.Elementary.{wolfram}
use Rattle.plate.specs.Plates.{members}
use Rattle.rounds.specs.Hosts.{RuleIn, rule_questions}
use Rattle.rounds.specs.PlayCall.{Entrant, entrant}
use Rattle.rounds.specs.RoundFile.{kind_in}
use Rattle.kept.specs.Agreement.{BitsCompared, Compared, ComparedAs, ComparedOf}

abbrev pub bits_entrant : Entrant Bit Elementary
bits_entrant = entrant Bits rule_questions RuleIn (λ (host : Elementary). wolfram host.rule)

all_same : (equal : Bit → Bit → Bool) → ((x y : Bit) → equal x y ≡ equal_bits x y) → equal ≡ equal_bits
all_same equal same i x y = same x y i

module _ (file kept : List ℕ) (agrees : Bool) (kind : FileKind) (is : kind ≡ kind_in file) where
  pub compared_as : (k : FileKind) → kind ≡ k → ComparedOf k file kept agrees → Compared file kept agrees
  compared_as k same = subst (λ k. ComparedOf k file kept agrees) (sym same ∙ is)

  -- Bits are the same where `equal_bits` says so.
  with_equal_bits : (equal : Bit → Bit → Bool) → ((x y : Bit) → equal x y ≡ equal_bits x y)
      → ComparedAs (members equal byte_of_bit bit_of_byte) bits_entrant file kept agrees → BitsCompared file kept agrees
  with_equal_bits equal same =
      subst (λ (e : Bit → Bit → Bool). ComparedAs (members e byte_of_bit bit_of_byte) bits_entrant file kept agrees) (all_same equal same)

  pub compared_as_bits : (equal : Bit → Bit → Bool) → ((x y : Bit) → equal x y ≡ equal_bits x y)
      → (kind ≡ Bits) ⊎ ((number : ℕ) × (kind ≡ Other number))
      → ComparedAs (members equal byte_of_bit bit_of_byte) bits_entrant file kept agrees → Compared file kept agrees
  compared_as_bits equal same (inl bits) found = compared_as Bits bits (with_equal_bits equal same found)
  compared_as_bits equal same (inr other) found = compared_as (Other other.0) other.1 (with_equal_bits equal same found)
