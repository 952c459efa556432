use Rattle.std.specs.Prelude.{ℕ, List}
use Rattle.sp_tree.specs.PlainProgram.{PlainProgram}
use Rattle.sp_tree.specs.PlainStatement.{PlainStmtKind, load_sram, load_line, store, gather, scatter}
use Rattle.sp_core.specs.PlainCore.{PlainCore}
use Rattle.sp_same.specs.Laws.{IsTransferFollowed}
use Rattle.sp_same.proofs.PickNodes.{gather_goes, scatter_goes}
use Rattle.sp_same.proofs.LineNodes.{line_goes}
use Rattle.sp_same.proofs.SliceNodes.{load_goes, store_goes}
use Rattle.sp_same.proofs.laws.transfers_are_followed.Goals as goal

followed : (p : PlainProgram) (roomy : List ℕ) (core : PlainCore) (kind : PlainStmtKind) → IsTransferFollowed p roomy core kind
followed p roomy core (load_sram sram dram spans) most view b n place s after t left rest did h ports is typed a ready goes = load_goes p core h ports roomy most view b s t left a spans place rest after did n ready sram dram typed goes
followed p roomy core (load_line line dram spans) most view b n place s after t left rest did h ports rows typed a ready goes = line_goes p core h ports roomy most view b s t left a spans place rest after did n ready line dram typed rows goes
followed p roomy core (store dram spans sram) most view b n place s after t left rest did h ports is typed a ready goes = store_goes p core h ports roomy most view b s t left a spans place rest after did n ready dram sram typed goes
followed p roomy core (gather sram dram places e) most view b n place s after t left rest did h ports is typed a ready goes = gather_goes p core h ports roomy most view b s t left a e place rest after did n ready sram dram places typed goes
followed p roomy core (scatter dram places e sram) most view b n place s after t left rest did h ports is typed a ready goes = scatter_goes p core h ports roomy most view b s t left a e place rest after did n ready dram places sram typed goes
followed p roomy core _ most view b n place s after t left rest did h ports is typed a ready goes = absurd is

pub returns : goal.returns
returns c = followed
