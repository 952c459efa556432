-- Which cores have a netlist so far.
use Rattle.std.specs.Prelude.{◌≡◌, ℕ, ◌&&◌, not, Bool, true, false, List, [], ◌∷◌, Option, Some, None}
use Rattle.std.specs.List.{list_all}
use Rattle.sp_words.specs.declared.kind.Kind.{Kind}
use Rattle.sp_words.specs.declared.kind.Kind.TheVariants.{Reg, Sram, Fifo, ArgIn, ArgOut}
use Rattle.sp_tree.specs.PlainProgram.{PlainProgram}
use Rattle.sp_core.specs.declared.operation.OpKind.{OpKind}
use Rattle.sp_core.specs.declared.operation.OpKind.TheVariants.{Read}
use Rattle.sp_core.specs.Declarations.{mem, is_stream}
use Rattle.sp_core.specs.Meaning.{is_arg}
use Rattle.sp_core.specs.PlainCore.{PlainOp, PlainCounter, PlainSpan, single, range, PlainNode, PlainStages, inner, outer, fsm, branch, load, store, sparse, no_stage, more_stage, PlainMem, PlainCore}
use Rattle.sp_compile.specs.Choices.{built_core}

-- a register, an argument, an output, an SRAM or a FIFO
abbrev pub is_stored : Kind → Bool
is_stored Reg = true
is_stored Sram = true
is_stored Fifo = true
is_stored ArgIn = true
is_stored ArgOut = true
is_stored _ = false

abbrev pub is_stored_mem : PlainMem → Bool
is_stored_mem m = is_stored m.kind

module _ (core : PlainCore) where
  -- an operation that reads reads an argument
  abbrev pub is_argument : Option ℕ → Bool
  is_argument None = true
  is_argument (Some m) = is_arg (mem core m).kind

  abbrev pub reads_argument : OpKind → Option ℕ → Bool
  reads_argument Read mem = is_argument mem
  reads_argument _ mem = true

  abbrev pub is_early : PlainOp → Bool
  is_early op = reads_argument op.kind op.mem

  -- a counter's bounds read arguments alone
  abbrev pub has_early_bounds : PlainCounter → Bool
  has_early_bounds c = list_all is_early c.from && list_all is_early c.until

  -- so do the ends of a slice
  abbrev pub has_early_ends : PlainSpan → Bool
  has_early_ends (single ops) = list_all is_early ops
  has_early_ends (range a b) = list_all is_early a && list_all is_early b

  -- no transfer but loads and stores, no `Stream` block, and such bounds and slices
  abbrev mutual
    pub is_node_buildable : PlainNode → Bool
    is_node_buildable (inner counters owned ops comb) = list_all has_early_bounds counters
    is_node_buildable (outer counters style owned stages) = (not (is_stream style) && list_all has_early_bounds counters) && are_buildable stages
    is_node_buildable (fsm start state test body next) = is_node_buildable body
    is_node_buildable (branch test first second) = is_node_buildable first && is_node_buildable second
    is_node_buildable (load r m spans) = list_all has_early_ends spans
    is_node_buildable (store r m spans) = list_all has_early_ends spans
    is_node_buildable (sparse kind r m places spans count par) = false

    pub are_buildable : PlainStages → Bool
    are_buildable no_stage = true
    are_buildable (more_stage first last comb node rest) = is_node_buildable node && are_buildable rest

-- a part that isn't a loop of counters
abbrev pub is_uncounted_by : List PlainCounter → Bool
is_uncounted_by [] = true
is_uncounted_by (c ∷ counters) = false

abbrev pub is_uncounted : PlainNode → Bool
is_uncounted (inner counters owned ops comb) = is_uncounted_by counters
is_uncounted (outer counters style owned stages) = is_uncounted_by counters
is_uncounted (fsm start state test body next) = true
is_uncounted (branch test first second) = true
is_uncounted _ = false

-- A core all of whose memories are of these kinds, whose parts are such, and whose root has no counters.
abbrev pub is_buildable : PlainCore → Bool
is_buildable core = list_all is_stored_mem core.mems && (is_node_buildable core core.root && is_uncounted core.root)

-- so is the core that is built of a program
abbrev pub CanBeBuilt : PlainProgram → Type 0
CanBeBuilt p = is_buildable (built_core p) ≡ true

-- or it isn't
abbrev pub IsUnbuilt : PlainProgram → Type 0
IsUnbuilt p = is_buildable (built_core p) ≡ false
