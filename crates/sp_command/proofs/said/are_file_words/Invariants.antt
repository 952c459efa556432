use Rattle.std.proofs.Common.{All, string_bytes, take}
use Rattle.sp_command.specs.Commands.{IsFileWord}
use Rattle.sp_command.proofs.said.are_file_words.Given as goal

abbrev pub invariant-loop-word : goal.invariant-loop-word
invariant-loop-word l = All (λ word. IsFileWord (string_bytes word)) (take l.word-index l.words)
