use Rattle.std.proofs.Common.{arith}
use Rattle.hosts.proofs.Filling.{read_from}
use Rattle.hosts.proofs.machine.Machine.read.Goals as goal

pub invariant_of-result : goal.invariant_of-result
invariant_of-result c =
    let table = c.in_ok-table.ensures in
    let facts = read_from c.args.file.now c.in_ok-file.file _ (λ i. omega (arith, c.type_inv.file i)) c.in_ok-file.ensures table in
    record { sized = facts.filled.sized; whole = table.1; used = facts.filled.used; unused = facts.filled.unused; told = c.deeds_of.ensures.long; done = c.deeds_of.ensures.each }

pub returns : goal.returns
returns c =
    let table = c.in_ok-table.ensures in
    let facts = read_from c.args.file.now c.in_ok-file.file _ (λ i. omega (arith, c.type_inv.file i)) c.in_ok-file.ensures table in
    (facts.good, record { states = facts.states_read; symbols = facts.symbols_read; entries = facts.filled.entries })
