-- What stands in expressions and statements, as it is counted.
use Rattle.std.specs.Prelude.{◌≡◌, ◌+◌, ◌++◌, ◌||◌, Bool, Some, None, true, false}
use Rattle.sp_tree.specs.PlainStatement.{PlainStmtKind}
use Rattle.sp_tree.specs.Tallies as plain
use Rattle.sp_counts.specs.declared.tally.Tally.{Tally}

-- the same, without where it lies in memory
abbrev pub tally_of : Tally → plain.Tally
tally_of t = record { nodes = t.nodes; operations = t.operations; reads = t.reads.items; writes = t.writes.items; puts = t.puts.items; takes = t.takes.items; arrays = t.arrays }

-- an expression without its operands
abbrev pub an_expression : plain.Tally
an_expression = record plain.nothing { nodes = 1 }

-- the second has what the first has, and then what is added
pub record Grows (one two : Tally) (added : plain.Tally) : Type 0 where
  pub nodes : two.nodes ≡ one.nodes + added.nodes
  pub operations : two.operations ≡ one.operations + added.operations
  pub reads : two.reads.items ≡ one.reads.items ++ added.reads
  pub writes : two.writes.items ≡ one.writes.items ++ added.writes
  pub puts : two.puts.items ≡ one.puts.items ++ added.puts
  pub takes : two.takes.items ≡ one.takes.items ++ added.takes
  pub arrays : two.arrays ≡ (one.arrays || added.arrays)

-- whether a statement is neither a controller nor a transfer, and what then stands in it
abbrev pub is_primitive : PlainStmtKind → Bool
is_primitive kind = elim (plain.primitive kind) [ Some t ↦ true | None ↦ false ]

abbrev pub primitive_tally : PlainStmtKind → plain.Tally
primitive_tally kind = elim (plain.primitive kind) [ Some t ↦ t | None ↦ plain.nothing ]
