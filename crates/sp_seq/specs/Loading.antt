-- What an interpreter holds before and after its run.
use Rattle.std.specs.Prelude.{◌≡◌, ℕ, suc, ◌<◌, ◌≤◌, Bool, true, false, List, [], ◌∷◌, length, drop, slice_index, slice_index_or, All, Option, Some, None, Result, Ok, Err}
use Rattle.sp_words.specs.declared.kind.Kind.{Kind}
use Rattle.sp_words.specs.declared.kind.Kind.TheVariants.{Dram, ArgIn, ArgOut}
use Rattle.sp_words.specs.Interface.{word_count}
use Rattle.sp_words.specs.Memory.{Contents, words}
use Rattle.sp_words.specs.Ports.{PlainInput}
use Rattle.sp_words.specs.Words.{IsWord}
use Rattle.sp_tree.specs.Counts.{is_port}
use Rattle.sp_tree.specs.Expressions.{mem}
use Rattle.sp_tree.specs.Invariant.{IsProgram, outer_scope}
use Rattle.sp_tree.specs.Meaning.{first_store, out_words, dram_words, run_program, seq, ended, is_arg, is_dram}
use Rattle.sp_tree.specs.PlainProgram.{PlainMem, PlainProgram}
use Rattle.sp_tree.specs.Shape.{Shape}
use Rattle.sp_tree.specs.Step.{went}
use Rattle.sp_tree.specs.Streams.{room, roomy_in}
use Rattle.sp_tree.specs.Structure.{mems_declared, vals_declared, counters_declared}
use Rattle.sp_seq.specs.declared.end.Run as declared
use Rattle.sp_seq.specs.declared.end.SeqEnd.{SeqEnd}
use Rattle.sp_seq.specs.declared.end.SeqEnd.TheVariants.{Ended}
use Rattle.sp_seq.specs.declared.memory.Memory.{Memory}
use Rattle.sp_seq.specs.declared.memory.Storage.TheVariants.{Words}
use Rattle.sp_seq.specs.declared.state.State.{State}
use Rattle.sp_seq.specs.declared.state.Stop.{Stop}
use Rattle.sp_seq.specs.Progress.{Run}
use Rattle.sp_seq.specs.Rows.{WordRow}
use Rattle.sp_seq.specs.Running.{Numbered, BodyTold}
use Rattle.sp_seq.specs.States.{IsStorage, halted, held_of, memory_of, Sees, store_of}

-- the run, if there was one
abbrev pub run_of : Option declared.Run → Option Run
run_of None = None
run_of (Some run) = Some (record { given = run.given; end = run.end })

-- all, or all but the first
abbrev pub after : {A : Type 0} → Bool → List A → List A
after true xs = drop 1 xs
after false xs = xs

-- what a memory holds at first, by what is left of the input: an argument the next word, a DRAM the next words, an output 0
abbrev pub given_contents : Kind → (args : List ℕ) → (drams : List (List ℕ)) → Option Contents
given_contents ArgIn (w ∷ args) drams = Some (words (w ∷ []))
given_contents Dram args (ws ∷ drams) = Some (words ws)
given_contents ArgOut args drams = Some (words (0 ∷ []))
given_contents _ args drams = None

-- there are such words, as many as the memory has, and each of its type
abbrev pub HasWords : PlainMem → Kind → (args : List ℕ) → (drams : List (List ℕ)) → Type 0
HasWords d ArgIn args drams = (1 ≤ length args) × IsWord d.ty (slice_index args 0)
HasWords d Dram args drams = (1 ≤ length drams) × (length (slice_index_or drams 0 []) ≡ word_count d.dims) × All (IsWord d.ty) (slice_index_or drams 0 [])
HasWords d _ args drams = Unit {0}

-- a memory stands as it is declared, and arguments, outputs and DRAMs are live
pub record Begins (d : PlainMem) (room : ℕ) (args : List ℕ) (drams : List (List ℕ)) (m : Memory) : Type 0 where
  pub stored : IsStorage d room d.kind m.storage
  pub live : m.live ≡ is_port d.kind
  pub held : held_of m ≡ given_contents d.kind args drams

-- so do the memories from a number on
abbrev pub AllBegin : (mems : List PlainMem) → (roomy : List ℕ) → (first : ℕ) → List PlainMem → (args : List ℕ) → (drams : List (List ℕ)) → List Memory → Type 0
AllBegin mems roomy first [] args drams [] = Unit {0}
AllBegin mems roomy first (d ∷ ds) args drams (m ∷ ms) =
    Begins d (room mems roomy first) args drams m × AllBegin mems roomy (suc first) ds (after (is_arg d.kind) args) (after (is_dram d.kind) drams) ms
AllBegin mems roomy first _ args drams _ = ⊥

-- a memory that is live, of words, with one at least
pub record HasWord (m : Memory) : Type 0 where
  pub words : WordRow
  pub live : m.live ≡ true
  pub is : m.storage ≡ Words words
  pub some : 0 < length words.words

-- so it is with arguments, outputs and DRAMs
pub record PortsStand (mems : List PlainMem) (s : State) : Type 0 where
  pub all_there : length s.memories.items ≡ length mems
  pub each : (m : ℕ) → m < length mems → is_port (mem mems m).kind ≡ true → HasWord (memory_of s m)

module _ (p : PlainProgram) (input : PlainInput) where
  -- the state stands for what the program has before it begins, with room for all that its block declares
  pub record IsLoaded (s : State) : Type 0 where
    pub is_program : IsProgram p
    pub sees : Sees p.mems (roomy_in p.mems p.body) (outer_scope p) s
    pub numbered : Numbered p.mems s (mems_declared p.body) (vals_declared p.body) (counters_declared p.body)
    pub told : BodyTold p.mems (roomy_in p.mems p.body) p.body
    pub store : store_of s ≡ first_store p input

  -- the program ends, with so many turns, and the state stands for what it leaves
  pub record IsOver (given turns : ℕ) (s : State) : Type 0 where
    pub ports : PortsStand p.mems s
    pub shape : Shape
    pub ends : seq given p input ≡ ended (out_words p (store_of s)) (dram_words p (store_of s)) turns shape

  -- by the run, if there was one
  abbrev pub HasRun : (given : ℕ) → SeqEnd → State → Type 0
  HasRun given (Ended turns) s = IsOver given turns s
  HasRun given end s = Unit {0}

  abbrev pub IsSeq : Option Run → State → Type 0
  IsSeq None s = IsLoaded s
  IsSeq (Some run) s = HasRun run.given run.end s

  -- how a run went that was given so many turns, and what the state stands for after its end
  abbrev pub RanWhole : (given : ℕ) → Result (Unit {0}) Stop → State → Type 0
  RanWhole given (Ok u) s = (inner : List Shape) × (run_program p given (first_store p input) ≡ went inner s.left (store_of s)) × PortsStand p.mems s × (s.left ≤ given)
  RanWhole given (Err stop) s = run_program p given (first_store p input) ≡ halted stop
