-- The typed program that a tree without refusals spells.
use Rattle.std.specs.Prelude.{◌++◌}
use Rattle.sp_reader.specs.PlainStatement.{PlainSyntax, body}
use Rattle.sp_tree.specs.Invariant.{ports_of}
use Rattle.sp_tree.specs.PlainProgram.{PlainProgram}
use Rattle.sp_typed.specs.Declarations.{ports_declared, mems_declared, vals_declared, counters_declared, at_block}
use Rattle.sp_typed.specs.Statements.{body_typed}

-- its memories are those before the block and those of its statements, and its ports those of them that are
-- arguments, outputs and DRAMs
abbrev pub program_of : PlainSyntax → PlainProgram
program_of s = record {
  ports = ports_of (ports_declared s.decls ++ mems_declared (body s.body));
  mems = ports_declared s.decls ++ mems_declared (body s.body);
  vals = vals_declared (body s.body);
  counters = counters_declared (body s.body);
  body = body_typed (at_block s.decls) (body s.body);
}
