use Rattle.std.proofs.Common.{refl, string_bytes}
use Rattle.sp_listing.proofs.DeclaredLemmas.{declared_bank, declared_dram, declared_none}
use Rattle.sp_listing.proofs.declared_lines.DeclaredLines.add.Goals as goal

pub returns-in_ok-insert-in-Bank : goal.returns-in_ok-insert-in-Bank
returns-in_ok-insert-in-Bank c = rw c.in-Bank.is (λ lines formed k.
    declared_bank lines c.in-Bank.bank c.in-Bank.field-1 c.in-Bank.field-2 c.args.self.now (record { banks = c.insert.new.self; drams = c.args.self.now.drams }) formed c.in_ok-insert-in-Bank.ensures.updates refl k)

pub returns-in_ok-insert-in-Dram : goal.returns-in_ok-insert-in-Dram
returns-in_ok-insert-in-Dram c = rw c.in-Dram.is (λ lines formed k.
    declared_dram lines c.in-Dram.dram (string_bytes c.in-Dram.field-1) c.in-Dram.field-2 c.in-Dram.field-3.items c.args.self.now (record { banks = c.args.self.now.banks; drams = c.insert-in-Dram.new.self }) formed
    c.in_ok-insert-in-Dram.ensures.updates refl k)

pub returns-in_default : goal.returns-in_default
returns-in_default c = λ lines formed k. declared_none c.args.cell.now c.in_default.not-Bank c.in_default.not-Dram lines c.args.self.now formed k
