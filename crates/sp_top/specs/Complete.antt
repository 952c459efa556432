-- What `simulate` and `waves` don't refuse, and what the status of `seq` tells.
use Rattle.std.specs.Prelude.{◌≡◌, ℕ, ◌≤◌, List, length, Contains}
use Rattle.sp_edges.specs.Standing.{Standing, Holds}
use Rattle.sp_netlist.specs.Cells.{PlainCell}
use Rattle.sp_netlist.specs.Ports.{ports_of}
use Rattle.sp_netlist.specs.Cycle.{Ends, done_in}
use Rattle.sp_setup.specs.Setup.{PlainSetup, IsSetup, files_named}
use Rattle.sp_setup.specs.Laws.{AreTold}
use Rattle.sp_source.specs.Texts.{Spells}
use Rattle.sp_tree.specs.Meaning.{ended, seq}
use Rattle.sp_tree.specs.PlainProgram.{PlainProgram}
use Rattle.sp_tree.specs.Shape.{Shape}
use Rattle.sp_top.specs.Programs.{longest_program}
use Rattle.sp_top.specs.Seq.{input_of, Stops}
use Rattle.sp_top.specs.Simulate.{GivesNetlist, longest_setup, setting_of}
use Rattle.sp_top.specs.Status.{PlainStatus, done, write_fault}

-- The listing of a netlist and a setup for its ports stand under these names. They, and the files that the setup names,
-- are told and can be read.
pub record IsRunnable (told : List ℕ → Standing) (sure : List ℕ → Type 0) (listing setup : List ℕ) (cells : List PlainCell) (plain : PlainSetup) : Type 0 where
  pub listing_sure : sure listing
  pub listing_bytes : List ℕ
  pub listing_told : told listing ≡ Holds listing_bytes
  pub netlist : GivesNetlist (told listing) cells
  pub setup_sure : sure setup
  pub setup_bytes : List ℕ
  pub setup_told : told setup ≡ Holds setup_bytes
  pub setup_not_long : length setup_bytes ≤ longest_setup
  pub is_setup : IsSetup told (ports_of cells) setup_bytes plain
  pub files_sure : (name : List ℕ) → Contains (files_named (ports_of cells) setup_bytes) name → sure name
  pub files_told : AreTold told (files_named (ports_of cells) setup_bytes)

-- the netlist is done within the setup's cycles
pub record IsDoneInTime (cells : List PlainCell) (plain : PlainSetup) : Type 0 where
  pub cycle : ℕ
  pub outs : List ℕ
  pub drams : List (List ℕ)
  pub ends : Ends (setting_of cells plain) plain.cycles (done_in cycle outs drams)

-- The text of a program and a setup for its ports stand under these names. They, and the files that the setup names, are
-- told and can be read.
pub record CanBeRun (told : List ℕ → Standing) (sure : List ℕ → Type 0) (name setup : List ℕ) (program : PlainProgram) (plain : PlainSetup) : Type 0 where
  pub name_sure : sure name
  pub text : List ℕ
  pub text_told : told name ≡ Holds text
  pub text_not_long : length text ≤ longest_program
  pub spells : Spells text program
  pub setup_sure : sure setup
  pub setup_bytes : List ℕ
  pub setup_told : told setup ≡ Holds setup_bytes
  pub setup_not_long : length setup_bytes ≤ longest_setup
  pub is_setup : IsSetup told program.ports setup_bytes plain
  pub files_sure : (file : List ℕ) → Contains (files_named program.ports setup_bytes) file → sure file
  pub files_told : AreTold told (files_named program.ports setup_bytes)

-- the program has an end within the setup's turns
pub record EndsInTime (program : PlainProgram) (plain : PlainSetup) : Type 0 where
  pub outs : List ℕ
  pub drams : List (List ℕ)
  pub turns : ℕ
  pub shape : Shape
  pub ends : seq plain.turns program (input_of plain) ≡ ended outs drams turns shape

-- the status tells how the program ends with the setup's turns, where neither memory nor a sink was wanting
abbrev pub TellsEnd : PlainProgram → PlainSetup → PlainStatus → Type 0
TellsEnd program plain done = EndsInTime program plain
TellsEnd program plain (write_fault which) = Unit {0}
TellsEnd program plain status = Stops program plain status
