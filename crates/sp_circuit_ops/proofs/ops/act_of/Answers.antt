use Rattle.std.proofs.Common.{sym, subst}
use Rattle.sp_pipe.specs.declared.part.Act.TheVariants as act
use Rattle.sp_part_runs.specs.ActsCircuits.{IsActOf, of_word, of_count, of_live, of_read, of_write, of_enq, of_deq, of_reset, of_one, of_two, of_shift, of_mux, of_cast}
use Rattle.sp_circuit_ops.proofs.ops.act_of.Goals as goal

pub returns-in-Word-clause-of : goal.returns-in-Word-clause-of
returns-in-Word-clause-of c = subst (λ k. IsActOf k (act.Word c.in-Word.word)) (sym c.in-Word.is) (of_word c.in-Word.word)

pub returns-in-Count-clause-of : goal.returns-in-Count-clause-of
returns-in-Count-clause-of c = subst (λ k. IsActOf k (act.Given c.args.net.net)) (sym c.in-Count.is) (of_count c.in-Count.field-0 c.in-Count.field-1 c.args.net.net)

pub returns-in-Live-clause-of : goal.returns-in-Live-clause-of
returns-in-Live-clause-of c = subst (λ k. IsActOf k (act.Given c.args.net.net)) (sym c.in-Live.is) (of_live c.in-Live.field-0 c.in-Live.field-1 c.in-Live.field-2 c.args.net.net)

pub returns-in-Read-clause-of : goal.returns-in-Read-clause-of
returns-in-Read-clause-of c = subst (λ k. IsActOf k (act.Read c.args.net.net c.args.net.after)) (sym c.in-Read.is) (of_read c.args.net.net c.args.net.after)

pub returns-in-Write-clause-of : goal.returns-in-Write-clause-of
returns-in-Write-clause-of c = subst (λ k. IsActOf k (act.Write)) (sym c.in-Write.is) (of_write)

pub returns-in-Enq-clause-of : goal.returns-in-Enq-clause-of
returns-in-Enq-clause-of c = subst (λ k. IsActOf k (act.Enq)) (sym c.in-Enq.is) (of_enq)

pub returns-in-Deq-clause-of : goal.returns-in-Deq-clause-of
returns-in-Deq-clause-of c = subst (λ k. IsActOf k (act.Deq c.args.net.net c.args.net.after)) (sym c.in-Deq.is) (of_deq c.args.net.net c.args.net.after)

pub returns-in-Reset-clause-of : goal.returns-in-Reset-clause-of
returns-in-Reset-clause-of c = subst (λ k. IsActOf k (act.Reset)) (sym c.in-Reset.is) (of_reset)

pub returns-in-One-clause-of : goal.returns-in-One-clause-of
returns-in-One-clause-of c = subst (λ k. IsActOf k (act.One c.in-One.op)) (sym c.in-One.is) (of_one c.in-One.op)

pub returns-in-Two-clause-of : goal.returns-in-Two-clause-of
returns-in-Two-clause-of c = subst (λ k. IsActOf k (act.Two c.in-Two.op)) (sym c.in-Two.is) (of_two c.in-Two.op)

pub returns-in-Shift-clause-of : goal.returns-in-Shift-clause-of
returns-in-Shift-clause-of c = subst (λ k. IsActOf k (act.Shift c.in-Shift.left c.in-Shift.by)) (sym c.in-Shift.is) (of_shift c.in-Shift.left c.in-Shift.by)

pub returns-in-Mux-clause-of : goal.returns-in-Mux-clause-of
returns-in-Mux-clause-of c = subst (λ k. IsActOf k (act.Mux)) (sym c.in-Mux.is) (of_mux)

pub returns-in-Cast-clause-of : goal.returns-in-Cast-clause-of
returns-in-Cast-clause-of c = subst (λ k. IsActOf k (act.Cast c.in-Cast.to)) (sym c.in-Cast.is) (of_cast c.in-Cast.to)
