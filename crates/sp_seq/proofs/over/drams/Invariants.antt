use Rattle.std.proofs.Common.{◌≡◌, ◌++◌, map, drop}
use Rattle.sp_tree.specs.Meaning.{numbers_of, is_dram}
use Rattle.sp_tree.specs.Plain.{plain_mem}
use Rattle.sp_tree.specs.Store.{words_of}
use Rattle.sp_seq.specs.States.{store_of}
use Rattle.sp_seq.proofs.over.drams.Given as goal

abbrev pub invariant-loop-number : goal.invariant-loop-number
invariant-loop-number l =
    map (λ words. words.items) l.drams.items ++ map (λ m. words_of ((store_of l.state).held m)) (numbers_of is_dram l.number (drop l.number (map plain_mem l.decls)))
    ≡ map (λ m. words_of ((store_of l.state).held m)) (numbers_of is_dram 0 (map plain_mem l.decls))
