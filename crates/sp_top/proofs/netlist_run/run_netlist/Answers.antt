use Rattle.std.proofs.Common.{string_bytes}
use Rattle.sp_setup.specs.Setup.{plain_setup}
use Rattle.sp_tree.specs.ProgramParts.{plain_program}
use Rattle.sp_top.specs.Seq.{input_of}
use Rattle.sp_top.proofs.NetlistRunLemmas.{netlist_ran}
use Rattle.sp_top.proofs.netlist_run.run_netlist.Goals as goal

-- src/netlist_run.rt:40:1
pub returns-in-Ok-clause-texts : goal.returns-in-Ok-clause-texts
returns-in-Ok-clause-texts c =
    let p = plain_program c.args.program.now in
    let plain = plain_setup c.args.setup.now in
    let takes = c.in_ok-ends_in_time.ensures.takes in
    netlist_ran c.ending_kept.ensures c.one_ending.ensures p plain (c.turns_decide.ensures p (input_of plain)) c.requires takes.0 takes.1 c.in-Some.netlist
    (rw c.in-Some.is at c.in_ok-netlist.ensures.netlist) (rw c.in-Some.is at c.in_ok-netlist.ensures.carries) (rw c.in-Some.is at c.in_ok-netlist.ensures.cost)
    18446744073709551615 (string_bytes c.in-Ok.out) (string_bytes c.in_ok-listing.listing) c.in_ok-listing.ensures c.in-Ok.ensures.text
