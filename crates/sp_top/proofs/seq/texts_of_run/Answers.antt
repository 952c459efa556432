use Rattle.sp_top.proofs.seq.texts_of_run.Goals as goal

-- src/seq.rt:95:1
pub returns-in_ok-run_text-in-Sequential-clause-texts : goal.returns-in_ok-run_text-in-Sequential-clause-texts
returns-in_ok-run_text-in-Sequential-clause-texts c =
    rw c.in-Sequential.is (record { leaves = c.in_ok-run_text-in-Sequential.ensures.text; nothing_aside = c.new.ensures.bytes })

-- src/seq.rt:95:1
pub returns-in-Netlist-clause-texts : goal.returns-in-Netlist-clause-texts
returns-in-Netlist-clause-texts c = rw c.in-Netlist.is c.run_netlist.ensures.texts
