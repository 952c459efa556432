use Rattle.sp_tree.specs.ProgramParts.{plain_program}
use Rattle.sp_words.specs.Ports.{plain_input}
use Rattle.sp_seq.proofs.StartLemmas.{given_turns, over, ends_over, ends_faulted, ends_unfinished}
use Rattle.sp_seq.proofs.start.go.Goals as goal

pub enter-requires : goal.enter-requires
enter-requires c = given_turns (plain_program c.args.program.now) (plain_input c.args.input.now) c.args.state.now c.args.turns c.requires

pub returns-in-Ok-clause-end : goal.returns-in-Ok-clause-end
returns-in-Ok-clause-end c = ends_over (plain_program c.args.program.now) (plain_input c.args.input.now) c.args.turns c.enter.new.state c.in-Ok.ensures

pub returns-in-Ok-clause-left : goal.returns-in-Ok-clause-left
returns-in-Ok-clause-left c = over (plain_program c.args.program.now) (plain_input c.args.input.now) c.args.turns c.enter.new.state c.in-Ok.ensures

pub returns-in-Err-Fault-clause-end : goal.returns-in-Err-Fault-clause-end
returns-in-Err-Fault-clause-end c = ends_faulted (plain_program c.args.program.now) (plain_input c.args.input.now) c.args.turns c.enter.new.state _ _ (rw c.in-Err-Fault.field-0-is at c.in-Err-Fault.ensures)

pub returns-in-Err-Turns-clause-end : goal.returns-in-Err-Turns-clause-end
returns-in-Err-Turns-clause-end c = ends_unfinished (plain_program c.args.program.now) (plain_input c.args.input.now) c.args.turns c.enter.new.state (rw c.in-Err-Turns.field-0-is at c.in-Err-Turns.ensures)
