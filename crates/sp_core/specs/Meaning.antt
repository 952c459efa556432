-- What a core means for an input, in a reading and with a number of turns.
use Rattle.std.specs.Prelude.{ℕ, suc, Bool, true, false, List, [], ◌∷◌, ◌++◌, map, length, slice_index, None, if◌then◌else◌}
use Rattle.sp_words.specs.declared.kind.Kind.{Kind}
use Rattle.sp_words.specs.declared.kind.Kind.TheVariants.{ArgIn, ArgOut}
use Rattle.sp_words.specs.Memory.{words}
use Rattle.sp_words.specs.Ports.{PlainInput}
use Rattle.sp_core.specs.Declarations.{dram_number}
use Rattle.sp_core.specs.Elements.{numbers_below}
use Rattle.sp_core.specs.History.{History}
use Rattle.sp_core.specs.PlainCore.{PlainMem, PlainCore}
use Rattle.sp_core.specs.Scope.{Reading, no_scope}
use Rattle.sp_core.specs.Sequential.{run}
use Rattle.sp_core.specs.Step.{Went, went, stopped, more}
use Rattle.sp_core.specs.Store.{Store, hold, words_of}

abbrev pub is_arg : Kind → Bool
is_arg ArgIn = true
is_arg _ = false

abbrev pub is_out : Kind → Bool
is_out ArgOut = true
is_out _ = false

-- the numbers of the memories of a kind, in order, where the first memory has this number
abbrev pub numbers_of : (Kind → Bool) → ℕ → List PlainMem → List ℕ
numbers_of is first [] = []
numbers_of is first (m ∷ rest) = (if is m.kind then first ∷ [] else []) ++ numbers_of is (suc first) rest

-- the arguments and outputs of a core, and where its DRAMs stand
abbrev pub args_of : PlainCore → List ℕ
args_of core = numbers_of is_arg 0 core.mems

abbrev pub outs_of : PlainCore → List ℕ
outs_of core = numbers_of is_out 0 core.mems

abbrev pub drams_of : PlainCore → List ℕ
drams_of core = map (dram_number core) (numbers_below (length core.ports.drams))

-- each memory holds its words
abbrev pub hold_each : List ℕ → List (List ℕ) → Store → Store
hold_each (m ∷ mems) (ws ∷ all) s = hold_each mems all (hold s m (words ws))
hold_each _ _ s = s

-- before a core begins arguments and DRAMs hold the words of the input, and outputs hold 0
abbrev pub first_store : PlainCore → PlainInput → Store
first_store core input =
    hold_each (args_of core) (map (λ w. w ∷ []) input.args)
    (hold_each (drams_of core) input.drams
    (hold_each (outs_of core) (map (λ m. 0 ∷ []) (outs_of core)) (λ m. None)))

-- how a run of a core goes, each FSM with at most n turns in each of its runs
unfoldable pub run_core : Reading → (n : ℕ) → PlainCore → PlainInput → Went History
run_core reading n core input = run core reading n core.root no_scope (first_store core input)

-- how it ends: with the words of its outputs and of its DRAMs and what was done, or not at all; or it needs more turns
pub data Outcome : Type 0 where
  ended : (outs : List ℕ) → (drams : List (List ℕ)) → History → Outcome
  failed : Outcome
  unfinished : Outcome

-- the words of the outputs, and those of the DRAMs, as they stand
abbrev pub out_words : PlainCore → Store → List ℕ
out_words core s = map (λ m. slice_index (words_of (s m)) 0) (outs_of core)

abbrev pub dram_words : PlainCore → Store → List (List ℕ)
dram_words core s = map (λ m. words_of (s m)) (drams_of core)

abbrev pub outcome : PlainCore → Went History → Outcome
outcome core (went h s) = ended (out_words core s) (dram_words core s) h
outcome core stopped = failed
outcome core more = unfinished

unfoldable pub meaning : Reading → (n : ℕ) → PlainCore → PlainInput → Outcome
meaning reading n core input = outcome core (run_core reading n core input)
