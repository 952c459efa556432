-- The file that a `MemFile` is.
use Rattle.std.specs.Prelude.{ℕ, List}
use Rattle.std.specs.String.{string_bytes}
use Rattle.sp_edges.specs.declared.memory_input.MemFile.{MemFile}

-- its name and its bytes
abbrev pub file_of : MemFile → List ℕ × List ℕ
file_of file = (string_bytes file.name, file.bytes.items)
