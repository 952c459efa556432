use Rattle.std.proofs.Common.{◌≡◌, ℕ, IfOk, OnOk, sym, subst}
use Rattle.sp_netlist.specs.Signals.{Signals}
use Rattle.sp_gates.specs.Runs.{RunsOn}
use Rattle.sp_gates.specs.Tested.{is_on}
use Rattle.sp_sequence.specs.Fits.{WantedFits}
use Rattle.sp_sequence.specs.Members.{IsAfter, goes, is_past}
use Rattle.sp_sequence.proofs.members.run_member.Goals as goal

pub run_wanted-requires-clause-wanted : goal.run_wanted-requires-clause-wanted
run_wanted-requires-clause-wanted c = subst (WantedFits c.args.builder.now) c.in-Some.is c.requires.member.wanted

pub returns-in-None-clause-starts : goal.returns-in-None-clause-starts
returns-in-None-clause-starts c = subst (λ w. OnOk c.run_always.result ((s : Signals) → RunsOn s c.run_always.new.builder.cells → IsAfter (is_on s c.args.member.now.child.start) (goes s (is_on s c.args.cause) w))) (sym c.in-None.is) c.run_always.ensures.starts

pub returns-in-None-clause-over : goal.returns-in-None-clause-over
returns-in-None-clause-over c = subst (λ w. IfOk c.run_always.result (λ over. (s : Signals) → RunsOn s c.run_always.new.builder.cells → (t : ℕ) → is_on s over t ≡ is_past s (is_on s c.args.cause) c.args.member.now.child.done w t)) (sym c.in-None.is) c.run_always.ensures.over

pub returns-in-Some-clause-starts : goal.returns-in-Some-clause-starts
returns-in-Some-clause-starts c = subst (λ w. OnOk c.run_wanted.result ((s : Signals) → RunsOn s c.run_wanted.new.builder.cells → IsAfter (is_on s c.args.member.now.child.start) (goes s (is_on s c.args.cause) w))) (sym c.in-Some.is) c.run_wanted.ensures.starts

pub returns-in-Some-clause-over : goal.returns-in-Some-clause-over
returns-in-Some-clause-over c = subst (λ w. IfOk c.run_wanted.result (λ over. (s : Signals) → RunsOn s c.run_wanted.new.builder.cells → (t : ℕ) → is_on s over t ≡ is_past s (is_on s c.args.cause) c.args.member.now.child.done w t)) (sym c.in-Some.is) c.run_wanted.ensures.over
