-- What a program means for an input, with a number of turns.
use Rattle.std.specs.Prelude.{ℕ, suc, ◌-◌, Bool, true, false, List, [], ◌∷◌, ◌++◌, map, slice_index, None, if◌then◌else◌}
use Rattle.sp_words.specs.declared.kind.Kind.{Kind}
use Rattle.sp_words.specs.declared.kind.Kind.TheVariants.{Dram, ArgIn, ArgOut}
use Rattle.sp_words.specs.Memory.{words}
use Rattle.sp_tree.specs.declared.statement.FaultKind.{FaultKind}
use Rattle.sp_words.specs.Ports.{PlainInput}
use Rattle.sp_tree.specs.PlainProgram.{PlainMem, PlainProgram}
use Rattle.sp_tree.specs.Sequential.{run_all}
use Rattle.sp_tree.specs.Shape.{Shape, ran, shapes}
use Rattle.sp_tree.specs.Step.{Step, Went, went, faulted, more, ◌>>◌, turn}
use Rattle.sp_tree.specs.Store.{Store, hold, words_of}
use Rattle.sp_tree.specs.Streams.{roomy_in}

-- how a program ends: with the words of its outputs and of its DRAMs, the turns that were taken, and what was run;
-- at its first fault, of a kind and at a place of the text; or not within its turns
pub data Outcome : Type 0 where
  ended : (outs : List ℕ) → (drams : List (List ℕ)) → (turns : ℕ) → Shape → Outcome
  stopped : FaultKind → (place : ℕ) → Outcome
  unfinished : Outcome

abbrev pub is_arg : Kind → Bool
is_arg ArgIn = true
is_arg _ = false

abbrev pub is_out : Kind → Bool
is_out ArgOut = true
is_out _ = false

abbrev pub is_dram : Kind → Bool
is_dram Dram = true
is_dram _ = false

-- the numbers of the memories of a kind, in order, where the first memory has this number
abbrev pub numbers_of : (Kind → Bool) → ℕ → List PlainMem → List ℕ
numbers_of is first [] = []
numbers_of is first (m ∷ rest) = (if is m.kind then first ∷ [] else []) ++ numbers_of is (suc first) rest

-- the arguments, outputs and DRAMs of a program
abbrev pub args_of : PlainProgram → List ℕ
args_of p = numbers_of is_arg 0 p.mems

abbrev pub outs_of : PlainProgram → List ℕ
outs_of p = numbers_of is_out 0 p.mems

abbrev pub drams_of : PlainProgram → List ℕ
drams_of p = numbers_of is_dram 0 p.mems

-- each memory holds its words
abbrev pub hold_each : List ℕ → List (List ℕ) → Store → Store
hold_each (m ∷ mems) (ws ∷ all) s = hold_each mems all (hold s m (words ws))
hold_each _ _ s = s

-- before the program begins arguments and DRAMs hold the words of the input, and outputs hold 0
abbrev pub first_store : PlainProgram → PlainInput → Store
first_store p input =
    hold_each (args_of p) (map (λ w. w ∷ []) input.args)
    (hold_each (drams_of p) input.drams
    (hold_each (outs_of p) (map (λ m. 0 ∷ []) (outs_of p))
    (record { held = λ m. None; values = λ v. 0; counts = λ c. 0 })))

-- the entry takes a turn
unfoldable pub run_program : PlainProgram → Step (List Shape)
run_program p = do
  turn
  run_all p.mems (roomy_in p.mems p.body) p.body

-- the words of the outputs, and those of the DRAMs, as they stand
abbrev pub out_words : PlainProgram → Store → List ℕ
out_words p s = map (λ m. slice_index (words_of (s.held m)) 0) (outs_of p)

abbrev pub dram_words : PlainProgram → Store → List (List ℕ)
dram_words p s = map (λ m. words_of (s.held m)) (drams_of p)

-- what is answered, by how the run went with n turns
abbrev pub outcome : PlainProgram → (n : ℕ) → Went (List Shape) → Outcome
outcome p n (went inner left s) = ended (out_words p s) (dram_words p s) (n - left) (ran (shapes inner))
outcome p n (faulted kind place) = stopped kind place
outcome p n more = unfinished

-- the sequential meaning, with at most n turns
unfoldable pub seq : (n : ℕ) → PlainProgram → PlainInput → Outcome
seq n p input = outcome p n (run_program p n (first_store p input))
