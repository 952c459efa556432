-- `compile P` and `verilog P`: the listing, and the Verilog text, of a netlist that carries program P.
use Rattle.std.specs.Prelude.{◌≡◌, ◌≢◌, ℕ, suc, List, [], ◌∷◌, count_by}
use Rattle.sp_edges.specs.Standing.{Standing}
use Rattle.sp_edges.specs.Calls.{Call, given}
use Rattle.sp_netlist.specs.Cells.{PlainCell}
use Rattle.sp_netlist.specs.Rules.{IsNetlist}
use Rattle.sp_listing.specs.Text.{listing_text}
use Rattle.sp_verilog.specs.Text.{IsVerilog}
use Rattle.sp_tree.specs.Counts.{is_port}
use Rattle.sp_tree.specs.PlainProgram.{PlainMem, PlainProgram}
use Rattle.sp_source.specs.declared.error.SourceError.TheVariants as source
use Rattle.sp_source.specs.Texts.{Spells, IsCauseOf}
use Rattle.sp_build.specs.Buildable.{IsUnbuilt}
use Rattle.sp_build.specs.Carries.{Carries, CostIsKept}
use Rattle.sp_top.specs.Check.{CheckRefuses}
use Rattle.sp_top.specs.Programs.{longest_program}
use Rattle.sp_top.specs.Reads.{GivesText}
use Rattle.sp_top.specs.Status.{PlainStatus, memory, unbuilt, source_refused}

-- the bytes spell a program, and a netlist of these cells carries it, and is done within its cost
abbrev pub CarriesText : List ℕ → List PlainCell → Type 0
CarriesText bytes cells = (program : PlainProgram) × Spells bytes program × IsNetlist cells × Carries program cells × CostIsKept program cells

-- the text is the listing of such a netlist
abbrev pub ListsProgram : (bytes text : List ℕ) → Type 0
ListsProgram bytes text = (cells : List PlainCell) × CarriesText bytes cells × (text ≡ listing_text cells)

-- it is the Verilog text of one
abbrev pub PrintsProgram : (bytes text : List ℕ) → Type 0
PrintsProgram bytes text = (cells : List PlainCell) × CarriesText bytes cells × IsVerilog cells text

-- the line of a program's canonical text with which its block begins: each argument, output and DRAM has a line above it
abbrev pub block_line : PlainProgram → ℕ
block_line p = suc (count_by (λ (m : PlainMem). is_port m.kind) p.mems)

-- the bytes spell a program whose core can't be built so far, and its block begins at this line
pub record IsUnbuiltAt (bytes : List ℕ) (line : ℕ) : Type 0 where
  pub program : PlainProgram
  pub spells : Spells bytes program
  pub unbuilt : IsUnbuilt program
  pub at : line ≡ block_line program

-- why these bytes give no netlist: they spell no program, or one that can't be built so far, or memory ran out
abbrev pub RefusesProgram : List ℕ → PlainStatus → Type 0
RefusesProgram bytes memory = Unit {0}
RefusesProgram bytes (unbuilt line) = IsUnbuiltAt bytes line
RefusesProgram bytes (source_refused error) = IsCauseOf bytes error × (error ≢ source.Memory)
RefusesProgram bytes status = ⊥

-- the program that was asked for can't be built
pub record IsNotBuilt (told : List ℕ → Standing) (asked : List Call → Type 0) (program : List ℕ) (line : ℕ) : Type 0 where
  pub bytes : List ℕ
  pub asks : asked (given program ∷ [])
  pub gives : GivesText (told program) longest_program bytes
  pub is_unbuilt : IsUnbuiltAt bytes line

-- The statuses in which either command refuses, each with its cause.
abbrev pub CompileRefuses : (List ℕ → Standing) → (failed : List ℕ → Type 0) → (asked : List Call → Type 0) → (program : List ℕ) → PlainStatus → Type 0
CompileRefuses told failed asked program (unbuilt line) = IsNotBuilt told asked program line
CompileRefuses told failed asked program status = CheckRefuses told failed asked program status
