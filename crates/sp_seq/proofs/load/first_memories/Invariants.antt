use Rattle.std.proofs.Common.{ℕ, List, ◌++◌, map, drop}
use Rattle.sp_tree.specs.Invariant.{ports_of}
use Rattle.sp_tree.specs.Plain.{plain_mem}
use Rattle.sp_words.specs.Ports.{plain_input}
use Rattle.sp_seq.specs.declared.memory.Memory.{Memory}
use Rattle.sp_seq.specs.Loading.{AllBegin}
use Rattle.sp_seq.specs.Progress.{InputFits}
use Rattle.sp_seq.proofs.load.first_memories.Given as goal

abbrev pub invariant-loop-number : goal.invariant-loop-number
invariant-loop-number l =
    let mems = map plain_mem l.decls in
    let drams : List (List ℕ) = map (λ words. words.items) l.drams in
    ((rest : List Memory) → AllBegin mems l.roomy l.number (drop l.number mems) l.args drams rest → AllBegin mems l.roomy 0 mems (plain_input l.input).args (plain_input l.input).drams (l.memories.items ++ rest))
    × InputFits (ports_of (drop l.number mems)) (record { args = l.args; drams = drams })
