-- The nets of the arguments of a core by the numbers of its memories.
use Rattle.std.specs.Prelude.{ℕ, true, false, List, [], ◌∷◌}
use Rattle.sp_core.specs.Meaning.{is_arg}
use Rattle.sp_core.specs.PlainCore.{PlainMem}

-- the first of a list of nets, and the others; net 0 where there is none
abbrev pub first_net : List ℕ → ℕ
first_net [] = 0
first_net (net ∷ nets) = net

abbrev pub other_nets : List ℕ → List ℕ
other_nets [] = []
other_nets (net ∷ nets) = nets

-- of each memory, in order: the arguments have the ports, one after the other, and any other memory has net 0
abbrev pub nets_of_arguments : List PlainMem → (ports : List ℕ) → List ℕ
nets_of_arguments [] ports = []
nets_of_arguments (m ∷ mems) ports = elim (is_arg m.kind) [ true ↦ first_net ports ∷ nets_of_arguments mems (other_nets ports) | false ↦ 0 ∷ nets_of_arguments mems ports ]
