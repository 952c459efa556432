-- A file that is found among the declared ones is the one that is found among their names and bytes.
use Rattle.std.proofs.Common.{◌≡◌, ℕ, List, [], ◌∷◌, map, find, true, false, Some, refl, cond, Option}
use Rattle.std.specs.Option.{option_map}
use Rattle.std.specs.String.{string_bytes}
use Rattle.std.specs.Str.{bytes_eq}
use Rattle.sp_edges.specs.declared.memory_input.MemFile.{MemFile}
use Rattle.sp_edges.specs.Files.{file_of}
use Rattle.sp_edges.specs.Memory.{file_named}

pub file_named-map : (files : List MemFile) (name : List ℕ) →
    file_named (map file_of files) name ≡ option_map file_of (find (λ file. bytes_eq (string_bytes file.name) name) files)
file_named-map [] name = refl
file_named-map (file ∷ files) name =
    elim (bytes_eq (string_bytes file.name) name) as (λ b. cond b (Some (file_of file)) (file_named (map file_of files) name) ≡ option_map file_of (cond b (Some file) (find (λ file. bytes_eq (string_bytes file.name) name) files))) [ true ↦ refl | false ↦ file_named-map files name ]

pub file_named-found : (files slice : List MemFile) (name : List ℕ) (found : Option MemFile) → slice ≡ files → found ≡ find (λ file. bytes_eq (string_bytes file.name) name) slice →
    file_named (map file_of files) name ≡ option_map file_of found
file_named-found files slice name found same is = rw (is, same) (file_named-map files name)
