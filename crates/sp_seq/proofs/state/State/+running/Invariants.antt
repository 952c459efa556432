use Rattle.std.proofs.Common.{map, drop}
use Rattle.sp_tree.specs.Plain.{plain_expr, plain_mem}
use Rattle.sp_tree.specs.PlainTree.{plain_counter, plain_stmts}
use Rattle.sp_tree.specs.Sequential.{run_all}
use Rattle.sp_tree.specs.Typing.{after_all}
use Rattle.sp_seq.specs.Running.{CanRunAll}
use Rattle.sp_seq.specs.States.{store_of}
use Rattle.sp_seq.proofs.BodyLemmas.{BodyGo}
use Rattle.sp_seq.proofs.ControlLemmas.{ForeachGo, ReduceGo, MemReduceGo, TurnsGo}
use Rattle.sp_seq.proofs.state.State.+running.Given as goal

abbrev pub invariant-body-loop-s : goal.invariant-body-loop-s
invariant-body-loop-s l =
    let mems = map plain_mem l.decls in
    let start = l.fn.self in
    (can : CanRunAll mems (plain_stmts l.body) start)
    → BodyGo mems can.setting.roomy (after_all can.setting.scope (plain_stmts l.body)) (run_all mems can.setting.roomy (plain_stmts l.body) start.left (store_of start)) start l.self (plain_stmts (drop l.s-index l.body))

abbrev pub invariant-foreach-rounds : goal.invariant-foreach-rounds
invariant-foreach-rounds l = ForeachGo (map plain_mem l.decls) (map plain_counter l.counters) (plain_stmts l.body) l.fn.self l.initial.self l.initial.digits l.self l.digits l.more

abbrev pub decreases-foreach-rounds : goal.decreases-foreach-rounds
decreases-foreach-rounds l = l.self.left

abbrev pub invariant-reduce-rounds : goal.invariant-reduce-rounds
invariant-reduce-rounds l = ReduceGo (map plain_mem l.decls) (map plain_counter l.counters) (plain_stmts l.body) l.into.comb l.into.acc l.into.at (plain_expr l.value) l.fold l.fn.self l.initial.self l.initial.digits l.self l.digits l.more l.combines

abbrev pub decreases-reduce-rounds : goal.decreases-reduce-rounds
decreases-reduce-rounds l = l.self.left

abbrev pub invariant-mem_reduce-rounds : goal.invariant-mem_reduce-rounds
invariant-mem_reduce-rounds l = MemReduceGo (map plain_mem l.decls) (map plain_counter l.counters) (plain_stmts l.body) l.into.comb l.into.acc l.into.at l.part l.fn.self l.initial.self l.initial.digits l.self l.digits l.more l.combines

abbrev pub decreases-mem_reduce-rounds : goal.decreases-mem_reduce-rounds
decreases-mem_reduce-rounds l = l.self.left

abbrev pub invariant-fsm-turns : goal.invariant-fsm-turns
invariant-fsm-turns l = TurnsGo (map plain_mem l.decls) (plain_expr l.start) l.binders.tested (plain_expr l.test) l.binders.state (plain_stmts l.body) l.binders.last (plain_expr l.next) l.fn.self l.initial.self l.initial.state l.self l.state

abbrev pub decreases-fsm-turns : goal.decreases-fsm-turns
decreases-fsm-turns l = l.self.left
