use Rattle.std.proofs.Common.{◌≡◌, ◌++◌, map, drop}
use Rattle.sp_words.specs.Ports.{plain_port}
use Rattle.sp_setup.specs.Checks.{arguments_check, argument_word}
use Rattle.sp_setup.specs.Table.{option_table}
use Rattle.sp_setup.proofs.settings.read_arguments.Given as goal

abbrev pub invariant-loop-port : goal.invariant-loop-port
invariant-loop-port l = record {
  check : arguments_check (option_table l.args) (map plain_port (drop l.port-index l.ports)) ≡ arguments_check (option_table l.args) (map plain_port l.ports);
  words : l.words.items ++ map (argument_word (option_table l.args)) (map plain_port (drop l.port-index l.ports)) ≡ map (argument_word (option_table l.args)) (map plain_port l.ports);
}
