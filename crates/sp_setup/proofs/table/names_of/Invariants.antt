use Rattle.std.proofs.Common.{◌≡◌, ℕ, ◌||◌, List, map, drop}
use Rattle.std.specs.List.{list_any}
use Rattle.sp_words.specs.Ports.{plain_port}
use Rattle.sp_setup.specs.Checks.{is_port}
use Rattle.sp_setup.proofs.NameSets.{is_name}
use Rattle.sp_setup.proofs.table.names_of.Given as goal

abbrev pub invariant-loop-port : goal.invariant-loop-port
invariant-loop-port l = (key : List ℕ) → (list_any (is_name key) l.names.keys || is_port (map plain_port (drop l.port-index l.ports)) key) ≡ is_port (map plain_port l.ports) key
