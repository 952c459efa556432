use Rattle.std.proofs.Common.{◌≡◌, ℕ, List, refl, subst}
use Rattle.sp_tree.specs.Meaning as sequential
use Rattle.sp_tree.specs.ProgramParts.{plain_program}
use Rattle.sp_tree.specs.Shape.{Shape}
use Rattle.sp_seq.specs.Progress.{Progress}
use Rattle.sp_top.proofs.SeqLemmas.{ended_told, fault_told, spent_told}
use Rattle.sp_top.proofs.netlist_run.ends_in_time.Goals as goal

pub returns-in-Ended-clause-takes : goal.returns-in-Ended-clause-takes
returns-in-Ended-clause-takes c =
    let Q : Progress → Type 0 =
    λ q. (outs : List ℕ) × (drams : List (List ℕ)) × (shape : Shape) × (sequential.seq c.args.setup.now.turns (plain_program q.program) q.input ≡ sequential.ended outs drams c.in-Ended.turns shape) in
    let left = subst Q c.in_ok-interpreter.ensures (ended_told _ c.in-Ended.turns c.in-Ended.ensures.end) in
    (c.in-Ended.turns, record { outs = left.0; drams = left.1; shape = left.2; ends = left.3 })

pub returns-in-Fault-clause-refused : goal.returns-in-Fault-clause-refused
returns-in-Fault-clause-refused c =
    let Q : Progress → Type 0 = λ q. sequential.seq c.args.setup.now.turns (plain_program q.program) q.input ≡ sequential.stopped c.in-Fault.kind c.in-Fault.at in
    subst Q c.in_ok-interpreter.ensures (fault_told _ c.in-Fault.kind c.in-Fault.at c.in-Fault.ensures.end)

pub returns-clause-refused : goal.returns-clause-refused
returns-clause-refused c =
    let Q : Progress → Type 0 = λ q. sequential.seq c.args.setup.now.turns (plain_program q.program) q.input ≡ sequential.unfinished in
    (refl, subst Q c.in_ok-interpreter.ensures (spent_told _ c.in-TurnsSpent.ensures.end))
