-- What a caller sees of an interpreter: what it runs, and how that ended.
use Rattle.std.specs.Prelude.{◌≡◌, ℕ, List, length, Option, Some, None}
use Rattle.std.specs.List.{All, AllZip}
use Rattle.sp_words.specs.Interface.{word_count}
use Rattle.sp_words.specs.Ports.{PlainPort, PlainPorts, PlainInput}
use Rattle.sp_words.specs.Words.{IsWord}
use Rattle.sp_tree.specs.Meaning.{Outcome, ended, stopped, unfinished, seq}
use Rattle.sp_tree.specs.PlainProgram.{PlainProgram}
use Rattle.sp_tree.specs.ProgramParts.{ProgramParts, plain_program}
use Rattle.sp_tree.specs.Shape.{Shape}
use Rattle.sp_seq.specs.declared.end.SeqEnd.{SeqEnd}
use Rattle.sp_seq.specs.declared.end.SeqEnd.TheVariants.{Ended, Fault, TurnsSpent}

-- a word for each argument, and for each DRAM as many words as it has, each of its type
pub record InputFits (ports : PlainPorts) (input : PlainInput) : Type 0 where
  pub args : AllZip (λ (port : PlainPort) word. IsWord port.ty word) ports.args input.args
  pub drams : AllZip (λ (port : PlainPort) words. (length words ≡ word_count port.dims) × All (IsWord port.ty) words) ports.drams input.drams

-- a run: the turns that it was given, and how it ended
pub record Run : Type 0 where
  pub given : ℕ
  pub end : SeqEnd

-- the program, its input, and the run, if there was one
pub record Progress : Type 0 where
  pub program : ProgramParts
  pub input : PlainInput
  pub ran : Option Run

-- how a program ends, without what it leaves
abbrev pub end_of : Outcome → SeqEnd
end_of (ended outs drams turns shape) = Ended turns
end_of (stopped kind place) = Fault kind place
end_of unfinished = TurnsSpent

-- the program has run, to its end
abbrev pub IsEnd : SeqEnd → Type 0
IsEnd (Ended turns) = Unit {0}
IsEnd end = ⊥

abbrev pub HasEnded : Option Run → Type 0
HasEnded (Some run) = IsEnd run.end
HasEnded None = ⊥

-- with the turns that it was given the program ends so, with these words in its outputs and DRAMs
abbrev pub EndsWith : PlainProgram → PlainInput → (given : ℕ) → SeqEnd → (outs : List ℕ) → (drams : List (List ℕ)) → Type 0
EndsWith p input given (Ended turns) outs drams = (shape : Shape) × (seq given p input ≡ ended outs drams turns shape)
EndsWith p input given end outs drams = ⊥

abbrev pub RanWith : PlainProgram → PlainInput → Option Run → (outs : List ℕ) → (drams : List (List ℕ)) → Type 0
RanWith p input (Some run) outs drams = EndsWith p input run.given run.end outs drams
RanWith p input None outs drams = ⊥

-- its run ended with these words
abbrev pub Leaves : Progress → (outs : List ℕ) → (drams : List (List ℕ)) → Type 0
Leaves p outs drams = RanWith (plain_program p.program) p.input p.ran outs drams
