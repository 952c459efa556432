-- What a loop that adds up has still to add.
use Rattle.std.proofs.Common.{◌≡◌, ℕ, ◌+◌, ◌<◌, ◌++◌, ◌||◌, List, ◌∷◌, length, drop, get_or, sym, ◌∙◌, ap}
use Rattle.std.proofs.lemmas.List.{drop_more}
use Rattle.sp_tree.specs.Tallies as plain
use Rattle.sp_counts.specs.declared.tally.Tally.{Tally}

-- one with all added has what two has with the rest added
pub record Remains (one two : Tally) (all rest : plain.Tally) : Type 0 where
  pub nodes : two.nodes + rest.nodes ≡ one.nodes + all.nodes
  pub operations : two.operations + rest.operations ≡ one.operations + all.operations
  pub reads : two.reads.items ++ rest.reads ≡ one.reads.items ++ all.reads
  pub writes : two.writes.items ++ rest.writes ≡ one.writes.items ++ all.writes
  pub puts : two.puts.items ++ rest.puts ≡ one.puts.items ++ all.puts
  pub takes : two.takes.items ++ rest.takes ≡ one.takes.items ++ all.takes
  pub arrays : (two.arrays || rest.arrays) ≡ (one.arrays || all.arrays)

-- what is left begins with the next
pub next_of : {A : Type 0} (xs : List A) (i : ℕ) (x : A) → i < length xs → x ≡ get_or xs i x → drop i xs ≡ x ∷ drop (i + 1) xs
next_of xs i x lt is = drop_more xs i x lt ∙ ap (λ y. y ∷ drop (i + 1) xs) (sym is)
