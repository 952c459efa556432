-- The canonical text of a program: its ports, one a line, and its block.
use Rattle.std.specs.Prelude.{ℕ, List, [], ◌∷◌, ◌++◌, codes, if◌then◌else◌}
use Rattle.sp_tree.specs.Counts.{is_port}
use Rattle.sp_tree.specs.PlainProgram.{PlainMem, PlainProgram}
use Rattle.sp_tree.specs.PlainStatement.{PlainStmts}
use Rattle.sp_printer.specs.Body.{body_text}
use Rattle.sp_printer.specs.Names.{Names, names_in}
use Rattle.sp_printer.specs.Pieces.{mem_text}

-- the lines of the arguments, outputs and DRAMs
abbrev pub ports_text : List PlainMem → List ℕ
ports_text [] = []
ports_text (m ∷ rest) = if is_port m.kind then mem_text m ++ (codes "\n" ++ ports_text rest) else ports_text rest

abbrev pub text_of_parts : Names → PlainStmts → List ℕ
text_of_parts names body = ports_text names.mems ++ (codes "Accel {" ++ (codes "\n" ++ (body_text names (codes "  ") body ++ (codes "}" ++ codes "\n"))))

abbrev pub canonical_text : PlainProgram → List ℕ
canonical_text p = text_of_parts (names_in p) p.body
