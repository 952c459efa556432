-- What a tree declares, as lists in the order of the text.
use Rattle.std.specs.Prelude.{ℕ, List, [], ◌++◌, map, string_bytes}
use Rattle.sp_words.specs.Ports.{PlainPorts}
use Rattle.sp_reader.specs.PlainTree.{PlainIdent}
use Rattle.sp_reader.specs.PlainStatement.{PlainStmtKind, PlainStmts, PlainSyntax, body}
use Rattle.sp_tree.specs.Plain.{plain_mem}
use Rattle.sp_tree.specs.PlainProgram.{PlainMem}
use Rattle.sp_typed.specs.Declarations.{ports_declared, mems_declared, mems_in, vals_declared, vals_in, counters_declared, counters_in, texts}
use Rattle.sp_check.specs.declared.declared.Declared.{Declared}

-- memories, and the names of values and of counters
pub record Lists : Type 0 where
  pub mems : List PlainMem
  pub vals : List (List ℕ)
  pub counters : List (List ℕ)

abbrev pub lists_of : Declared → Lists
lists_of d = record { mems = map plain_mem d.mems.items; vals = map string_bytes d.vals.items; counters = map string_bytes d.counters.items }

abbrev pub nothing : Lists
nothing = record { mems = []; vals = []; counters = [] }

-- what is declared first, and then
abbrev pub joined : Lists → Lists → Lists
joined a b = record { mems = a.mems ++ b.mems; vals = a.vals ++ b.vals; counters = a.counters ++ b.counters }

-- in the statements of a body
abbrev pub of_body : PlainStmts → Lists
of_body ss = record { mems = mems_declared ss; vals = vals_declared ss; counters = counters_declared ss }

-- of a loop with these binders
abbrev pub of_loop : List PlainIdent → PlainStmts → Lists
of_loop binds ss = record { mems = mems_declared ss; vals = vals_declared ss; counters = texts binds ++ counters_declared ss }

-- in one statement
abbrev pub of_stmt : ℕ → PlainStmtKind → Lists
of_stmt place kind = record { mems = mems_in place kind; vals = vals_in kind; counters = counters_in kind }

-- in a whole tree
abbrev pub of_tree : PlainSyntax → Lists
of_tree s = record (of_body (body s.body)) { mems = ports_declared s.decls ++ mems_declared (body s.body) }

-- ---- ports

abbrev pub joined_ports : PlainPorts → PlainPorts → PlainPorts
joined_ports a b = record { args = a.args ++ b.args; outs = a.outs ++ b.outs; drams = a.drams ++ b.drams }
