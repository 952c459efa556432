use Rattle.std.proofs.Common.{◌≡◌, ℕ, List, map, refl, subst, string_bytes}
use Rattle.std.specs.Global.{Vec}
use Rattle.sp_words.specs.Ports.{PlainPorts}
use Rattle.sp_tree.specs.Meaning as sequential
use Rattle.sp_tree.specs.ProgramParts.{plain_program}
use Rattle.sp_seq.specs.Progress.{Progress}
use Rattle.sp_top.specs.ResultText.{result_text, turns_line}
use Rattle.sp_top.proofs.SeqLemmas.{fault_told, spent_told, has_ended, left_words}
use Rattle.sp_top.proofs.seq.run_text.Goals as goal

pub outputs-requires : goal.outputs-requires
outputs-requires c = has_ended c.in_ok-interpreter.interpreter.program c.in_ok-interpreter.interpreter.input c.run.new.self c.args.setup.now.turns c.in-Ended.turns c.in-Ended.ensures.ran

pub returns-in-Ended-clause-text : goal.returns-in-Ended-clause-text
returns-in-Ended-clause-text c =
    let outs = c.in_ok-output-in-Ended.output.outs.items in
    let drams : List (List ℕ) = map (λ (words : Vec ℕ). words.items) c.in_ok-output-in-Ended.output.drams.items in
    let left = left_words c.in_ok-interpreter.interpreter.program c.in_ok-interpreter.interpreter.input c.run.new.self c.args.setup.now.turns c.in-Ended.turns c.in-Ended.ensures.ran outs drams c.in_ok-output-in-Ended.ensures in
    let P : PlainPorts → Type 0 = λ ports. string_bytes c.in_ok-text-in-Ended.text ≡ result_text ports outs drams (turns_line c.in-Ended.turns) in
    let Q : Progress → Type 0 = λ q. sequential.seq c.args.setup.now.turns (plain_program q.program) q.input ≡ sequential.ended outs drams c.in-Ended.turns left.0 in record {
      outs = outs;
      drams = drams;
      turns = c.in-Ended.turns;
      shape = left.0;
      ends = subst Q c.in_ok-interpreter.ensures left.1;
      is = subst P c.ports.ensures.ports c.in_ok-text-in-Ended.ensures;
    }

pub returns-in-Fault-clause-refused : goal.returns-in-Fault-clause-refused
returns-in-Fault-clause-refused c =
    let Q : Progress → Type 0 = λ q. sequential.seq c.args.setup.now.turns (plain_program q.program) q.input ≡ sequential.stopped c.in-Fault.kind c.in-Fault.at in
    subst Q c.in_ok-interpreter.ensures (fault_told _ c.in-Fault.kind c.in-Fault.at c.in-Fault.ensures.end)

pub returns-clause-refused : goal.returns-clause-refused
returns-clause-refused c =
    let Q : Progress → Type 0 = λ q. sequential.seq c.args.setup.now.turns (plain_program q.program) q.input ≡ sequential.unfinished in
    (refl, subst Q c.in_ok-interpreter.ensures (spent_told _ c.in-TurnsSpent.ensures.end))
