use Rattle.sp_listing.proofs.DeclaredLemmas.{declared_no_cell, declared_begun_otherwise}
use Rattle.sp_listing.proofs.declared_lines.DeclaredLines.add_line.Goals as goal

pub returns-then-not-may_declare : goal.returns-then-not-may_declare
returns-then-not-may_declare c = λ lines k. declared_begun_otherwise lines c.args.line.now c.args.self.now (c.may_declare.ensures c.if-not-may_declare.true) k

pub returns-in_default : goal.returns-in_default
returns-in_default c = λ lines k. declared_no_cell lines c.args.line.now c.args.self.now (rw c.in_default.is at c.in_ok-cell.ensures) k
