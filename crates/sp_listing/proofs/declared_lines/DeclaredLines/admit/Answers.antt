use Rattle.sp_listing.proofs.declared_lines.DeclaredLines.admit.Goals as goal

pub returns-in-LoadUnit : goal.returns-in-LoadUnit
returns-in-LoadUnit c = rw c.in-LoadUnit.is (λ lines k. rw c.contains-in-LoadUnit.ensures (k.drams c.in-LoadUnit.dram))

pub returns-in-StoreUnit : goal.returns-in-StoreUnit
returns-in-StoreUnit c = rw c.in-StoreUnit.is (λ lines k. rw c.contains-in-StoreUnit.ensures (k.drams c.in-StoreUnit.dram))
