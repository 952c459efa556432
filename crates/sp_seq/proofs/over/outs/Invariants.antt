use Rattle.std.proofs.Common.{◌≡◌, ◌++◌, map, drop}
use Rattle.std.specs.Prelude.{slice_index}
use Rattle.sp_tree.specs.Meaning.{numbers_of, is_out}
use Rattle.sp_tree.specs.Plain.{plain_mem}
use Rattle.sp_tree.specs.Store.{words_of}
use Rattle.sp_seq.specs.States.{store_of}
use Rattle.sp_seq.proofs.over.outs.Given as goal

abbrev pub invariant-loop-number : goal.invariant-loop-number
invariant-loop-number l =
    l.outs.items ++ map (λ m. slice_index (words_of ((store_of l.state).held m)) 0) (numbers_of is_out l.number (drop l.number (map plain_mem l.decls)))
    ≡ map (λ m. slice_index (words_of ((store_of l.state).held m)) 0) (numbers_of is_out 0 (map plain_mem l.decls))
