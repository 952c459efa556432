use Rattle.sp_typing.proofs.TreeLemmas.{no_first, tree_right}
use Rattle.sp_typing.proofs.laws.right_trees_are_programs.Goals as goal

pub returns : goal.returns
returns c = λ s read none limits.
    let right = c.declarations_are_right.ensures s read in
    let numbered = c.declarations_are_numbered.ensures s read (no_first s none) in
    let tree = tree_right s read none right in
    record {
      declarations = right.declarations;
      val_names = right.val_names;
      counter_names = right.counter_names;
      mem_numbers = numbered.mems;
      val_numbers = numbered.vals;
      counter_numbers = numbered.counters;
      ports = right.ports;
      port_names = tree.port_names;
      typed = tree.typed;
      nested = right.nested;
      limits = limits;
    }
