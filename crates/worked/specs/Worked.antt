-- The worked examples. Bytes are in hexadecimal.
use Rattle.std.specs.Prelude.{◌≡◌, ℕ, List, [], ◌∷◌, length, Some, None}
use Rattle.toom.specs.declared.bit.Bit.{Bit}
use Rattle.toom.specs.declared.bit.Bit.TheVariants.{Zero, One}
use Rattle.toom.specs.declared.machine_cell.MachineCell.{MachineCell}
use Rattle.toom.specs.Bit.{equal_bits, byte_of_bit}
use Rattle.toom.specs.MachineCell.{equal_machine_cells, byte_of_machine_cell}
use Rattle.toom.specs.Rows.{row_word}
use Rattle.toom.specs.Torus.{SameOnTorus}
use Rattle.toom.specs.Vote.{vote_of, thinned_by}
use Rattle.hosts.specs.declared.machine.Machine.{Machine}
use Rattle.hosts.specs.Elementary.{wolfram}
use Rattle.hosts.specs.MachineFile.{machine_questions, MachineIn}
use Rattle.hosts.specs.MachineRule.{machine_rule}
use Rattle.plate.specs.Board.{plane_of}
use Rattle.plate.specs.ReadCall.{holders, majority_of, reading, plane_question, read_refusal}
use Rattle.runs.specs.Script.{record_in}
use Rattle.worked.specs.Named.{bit, machine_cell, bits_after, machine_cells_after, marked}

-- The machine file of the two-state busy beaver; its state 3 stands still.
abbrev pub beaver : List ℕ
beaver =
    0x31 ∷ 0x21 ∷ 0x80 ∷ 0x21 ∷ 0x40 ∷ 0x11 ∷ 0x40 ∷ 0x31 ∷ 0x80 ∷ 0x30 ∷ 0x00 ∷ 0x31 ∷ 0x00 ∷ []

-- What the busy beaver's host does.
pub record BeaverDoes (host : (left centre right : MachineCell) → MachineCell) : Type 0 where
  -- It takes the ring 00 00 00 10 00 00 00 in six steps to 00 01 01 31 01 00 00.
  pub six_steps : machine_cells_after host 6 (0x00 ∷ 0x00 ∷ 0x00 ∷ 0x10 ∷ 0x00 ∷ 0x00 ∷ 0x00 ∷ [])
      ≡ 0x00 ∷ 0x01 ∷ 0x01 ∷ 0x31 ∷ 0x01 ∷ 0x00 ∷ 0x00 ∷ []
  -- Between 10 and 20 a centre 00 becomes 20: of two heads that arrive the left one enters.
  pub left_enters : byte_of_machine_cell (host (machine_cell 0x10) (machine_cell 0x00) (machine_cell 0x20)) ≡ 0x20
  -- Centre 45 is foreign, and stays 45 whatever its neighbours are.
  pub foreign_stays : (left right : MachineCell) → byte_of_machine_cell (host left (machine_cell 0x45) right) ≡ 0x45

-- The copies of one plane of side 4, 16 bits; so many of them are 1, wherever these lie.
pub record OnesOfSixteen (ones : ℕ) (cells : List Bit) : Type 0 where
  pub sixteen : length cells ≡ 16
  pub count : holders equal_bits One cells ≡ ones

pub record WorkedExamples : Type 0 where
  -- A vote of bits: the own 00 gives way to 01, which is both north and east.
  pub bits_vote : byte_of_bit (vote_of equal_bits (bit 0x01) (bit 0x01) (bit 0x00)) ≡ 0x01
  -- A vote of machine cells: north 21 and east 30 differ, so the own 01 stays.
  pub machine_cells_vote :
      byte_of_machine_cell (vote_of equal_machine_cells (machine_cell 0x21) (machine_cell 0x30) (machine_cell 0x01)) ≡ 0x01
  -- Rule 110 takes the ring of eight bits 00000001 in one, two and three steps to 00000011, 00000111 and 00001101.
  pub rule_110_once : bits_after (wolfram 110) 1 (0 ∷ 0 ∷ 0 ∷ 0 ∷ 0 ∷ 0 ∷ 0 ∷ 1 ∷ []) ≡ 0 ∷ 0 ∷ 0 ∷ 0 ∷ 0 ∷ 0 ∷ 1 ∷ 1 ∷ []
  pub rule_110_twice : bits_after (wolfram 110) 2 (0 ∷ 0 ∷ 0 ∷ 0 ∷ 0 ∷ 0 ∷ 0 ∷ 1 ∷ []) ≡ 0 ∷ 0 ∷ 0 ∷ 0 ∷ 0 ∷ 1 ∷ 1 ∷ 1 ∷ []
  pub rule_110_thrice : bits_after (wolfram 110) 3 (0 ∷ 0 ∷ 0 ∷ 0 ∷ 0 ∷ 0 ∷ 0 ∷ 1 ∷ []) ≡ 0 ∷ 0 ∷ 0 ∷ 0 ∷ 1 ∷ 1 ∷ 0 ∷ 1 ∷ []
  -- The busy beaver's file is in order. There is a machine that it gives (and only one: OneMachineEach), and that does what is said above.
  pub beaver_in_order : machine_questions beaver ≡ None
  pub beaver_there : (m : Machine) × MachineIn beaver m
  pub beaver_does : (m : Machine) → MachineIn beaver m → BeaverDoes (machine_rule m)
  -- A shadow of side 4 with the places (0, 0), (0, 1) and (1, 0): after one vote it is (0, 0) alone, after two it is empty.
  pub corner_once : SameOnTorus 4 (thinned_by 1 4 (marked ((0, 0) ∷ (0, 1) ∷ (1, 0) ∷ []))) (marked ((0, 0) ∷ []))
  pub corner_twice : SameOnTorus 4 (thinned_by 2 4 (marked ((0, 0) ∷ (0, 1) ∷ (1, 0) ∷ []))) (marked [])
  -- The shadow of side 4 that is all of row 0 stays as it is, after any number of votes.
  pub row_stays : (j : ℕ)
      → SameOnTorus 4 (thinned_by j 4 (marked ((0, 0) ∷ (0, 1) ∷ (0, 2) ∷ (0, 3) ∷ []))) (marked ((0, 0) ∷ (0, 1) ∷ (0, 2) ∷ (0, 3) ∷ []))
  -- Row 0 of the shadow of side 4 with its columns 0 and 1 is the word C000000000000000.
  pub row_of_two : row_word 4 (marked ((0, 0) ∷ (0, 1) ∷ []) 0) ≡ 0xC000_0000_0000_0000
  -- The record 00 00 10 01 08 20 00 00 strikes plane 1 at (2, 2) with 00 after beat 1, and its spare bits are 0.
  pub record_read : record_in (0x00 ∷ 0x00 ∷ 0x10 ∷ 0x01 ∷ 0x08 ∷ 0x20 ∷ 0x00 ∷ 0x00 ∷ []) 0
      ≡ record { number = 1; strike = record { plane = 1; row = 2; column = 2; byte = 0x00 }; spare = 0 }
  -- Side 4, bits, one plane of 16 copies that should be 0. With seven copies 1 the majority is 0, and the plane reads 00.
  pub seven_ones : (cells : List Bit) → OnesOfSixteen 7 cells
      → (majority_of equal_bits (plane_of cells 4 0) ≡ Some Zero) × (reading equal_bits byte_of_bit 1 4 cells ≡ 0x00 ∷ [])
  -- With eight there is none, and the plane is refused: no majority, number 16, plane 0.
  pub eight_ones : (cells : List Bit) → OnesOfSixteen 8 cells
      → (majority_of equal_bits (plane_of cells 4 0) ≡ None) × (plane_question equal_bits cells 4 0 ≡ Some (read_refusal 16 0))
  -- With nine it is 1, and the plane reads 01.
  pub nine_ones : (cells : List Bit) → OnesOfSixteen 9 cells
      → (majority_of equal_bits (plane_of cells 4 0) ≡ Some One) × (reading equal_bits byte_of_bit 1 4 cells ≡ 0x01 ∷ [])
