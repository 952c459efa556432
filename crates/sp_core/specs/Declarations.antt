-- What a core declares: its memories and DRAMs, and how many words its FIFOs hold.
use Rattle.std.specs.Prelude.{ℕ, ◌+◌, ◌-◌, ◌==◌, max, nat_lt, Bool, true, false, ◌||◌, List, [], ◌∷◌, ◌++◌, length, slice_index_or, if◌then◌else◌}
use Rattle.sp_words.specs.declared.kind.Kind.{Kind}
use Rattle.sp_words.specs.declared.kind.Kind.TheVariants.{Dram}
use Rattle.sp_words.specs.declared.kind.Style.{Style}
use Rattle.sp_words.specs.declared.kind.Style.TheVariants.{Stream}
use Rattle.sp_words.specs.Interface.{word_count}
use Rattle.sp_words.specs.Memory.{Contents, fresh_of}
use Rattle.sp_words.specs.Ports.{PlainPort}
use Rattle.sp_core.specs.PlainCore.{PlainNode, PlainStages, outer, fsm, branch, no_stage, more_stage, PlainMem, no_mem, no_port, PlainCore}

abbrev pub mem : PlainCore → ℕ → PlainMem
mem core m = slice_index_or core.mems m no_mem

abbrev pub dram : PlainCore → ℕ → PlainPort
dram core r = slice_index_or core.ports.drams r no_port

-- where a DRAM stands among the memories
abbrev pub dram_number : PlainCore → ℕ → ℕ
dram_number core r = length core.mems + r

-- what the memory of a number is; all after the memories are DRAMs
abbrev pub kind_of : PlainCore → ℕ → Kind
kind_of core m = if nat_lt m (length core.mems) then (mem core m).kind else Dram

-- its dimensions
abbrev pub dims : PlainCore → ℕ → List ℕ
dims core m = if nat_lt m (length core.mems) then (mem core m).dims else (dram core (m - length core.mems)).dims

-- the owner of FIFOs that a `Stream` block joins its stages by is of that style
abbrev pub is_stream : Style → Bool
is_stream Stream = true
is_stream _ = false

abbrev mutual
  -- the memories that a `Stream` block owns
  pub streamed : PlainNode → List ℕ
  streamed (outer counters style owned stages) = (if is_stream style then owned else []) ++ streamed_in stages
  streamed (fsm start state test body next) = streamed body
  streamed (branch test first second) = streamed first ++ streamed second
  streamed _ = []

  pub streamed_in : PlainStages → List ℕ
  streamed_in no_stage = []
  streamed_in (more_stage first last comb node rest) = streamed node ++ streamed_in rest

abbrev pub is_among : ℕ → List ℕ → Bool
is_among n [] = false
is_among n (m ∷ rest) = (n == m) || is_among n rest

-- a FIFO's depth
abbrev pub depth : PlainCore → ℕ → ℕ
depth core m = word_count (mem core m).dims

-- how many words it holds: its depth, and in a `Stream` block, while that runs, at least 65,536
abbrev pub room : PlainCore → ℕ → ℕ
room core m = if is_among m (streamed core.root) then max (depth core m) 65536 else depth core m

-- what a memory holds that is made fresh
abbrev pub fresh : PlainCore → ℕ → Contents
fresh core m = fresh_of (mem core m).kind (mem core m).dims (mem core m).start []
