use Rattle.std.proofs.Common.{◌≢◌}
use Rattle.std.proofs.lemmas.Result.{IfOk-weaker}
use Rattle.sp_listing.specs.Reading.{IsFormed}
use Rattle.sp_listing.specs.Readers.{texts, parts_of, ReadsParts}
use Rattle.sp_listing.specs.declared.kind.Kind.TheVariants.{Dram, Done, Const, Op, Not, Shift, Cast, Mux, Reg, Bank, Read, Write, Load, Store}
use Rattle.sp_listing.proofs.KindLemmas.{reads_kind, of_memory, of_done, of_constant, of_operator, of_not, of_shift, of_cast, of_mux, of_register, of_bank, of_read_tap, of_write_tap, of_load, of_store}
use Rattle.sp_listing.proofs.cells.cell_of_kind.Goals as goal

pub returns-in-Done : goal.returns-in-Done
returns-in-Done c = rw c.in-Done.is (reads_kind Done (texts c.args.parts.now) _ c.done.result (of_done (λ cell. IsFormed cell → texts c.args.parts.now ≢ parts_of cell)) c.done.ensures)

pub returns-in-Const : goal.returns-in-Const
returns-in-Const c = rw c.in-Const.is (reads_kind Const (texts c.args.parts.now) _ c.constant.result (of_constant (λ cell. IsFormed cell → texts c.args.parts.now ≢ parts_of cell)) c.constant.ensures)

pub returns-in-Op : goal.returns-in-Op
returns-in-Op c = rw c.in-Op.is (reads_kind Op (texts c.args.parts.now) _ c.operator.result (of_operator (λ cell. IsFormed cell → texts c.args.parts.now ≢ parts_of cell)) c.operator.ensures)

pub returns-in-Not : goal.returns-in-Not
returns-in-Not c = rw c.in-Not.is (reads_kind Not (texts c.args.parts.now) _ c.not.result (of_not (λ cell. IsFormed cell → texts c.args.parts.now ≢ parts_of cell)) c.not.ensures)

pub returns-in-Shift : goal.returns-in-Shift
returns-in-Shift c = rw c.in-Shift.is (reads_kind Shift (texts c.args.parts.now) _ c.shift.result (of_shift (λ cell. IsFormed cell → texts c.args.parts.now ≢ parts_of cell)) c.shift.ensures)

pub returns-in-Cast : goal.returns-in-Cast
returns-in-Cast c = rw c.in-Cast.is (reads_kind Cast (texts c.args.parts.now) _ c.cast.result (of_cast (λ cell. IsFormed cell → texts c.args.parts.now ≢ parts_of cell)) c.cast.ensures)

pub returns-in-Mux : goal.returns-in-Mux
returns-in-Mux c = rw c.in-Mux.is (reads_kind Mux (texts c.args.parts.now) _ c.mux.result (of_mux (λ cell. IsFormed cell → texts c.args.parts.now ≢ parts_of cell)) c.mux.ensures)

pub returns-in-Reg : goal.returns-in-Reg
returns-in-Reg c = rw c.in-Reg.is (reads_kind Reg (texts c.args.parts.now) _ c.register.result (of_register (λ cell. IsFormed cell → texts c.args.parts.now ≢ parts_of cell)) c.register.ensures)

pub returns-in-Bank : goal.returns-in-Bank
returns-in-Bank c = rw c.in-Bank.is (reads_kind Bank (texts c.args.parts.now) _ c.bank.result (of_bank (λ cell. IsFormed cell → texts c.args.parts.now ≢ parts_of cell)) c.bank.ensures)

pub returns-in-Read : goal.returns-in-Read
returns-in-Read c = rw c.in-Read.is (reads_kind Read (texts c.args.parts.now) _ c.read_tap.result (of_read_tap (λ cell. IsFormed cell → texts c.args.parts.now ≢ parts_of cell)) c.read_tap.ensures)

pub returns-in-Write : goal.returns-in-Write
returns-in-Write c = rw c.in-Write.is (reads_kind Write (texts c.args.parts.now) _ c.write_tap.result (of_write_tap (λ cell. IsFormed cell → texts c.args.parts.now ≢ parts_of cell)) c.write_tap.ensures)

pub returns-in-Load : goal.returns-in-Load
returns-in-Load c = rw c.in-Load.is (reads_kind Load (texts c.args.parts.now) _ c.load.result (of_load (λ cell. IsFormed cell → texts c.args.parts.now ≢ parts_of cell)) c.load.ensures)

pub returns-in-Store : goal.returns-in-Store
returns-in-Store c = rw c.in-Store.is (reads_kind Store (texts c.args.parts.now) _ c.store.result (of_store (λ cell. IsFormed cell → texts c.args.parts.now ≢ parts_of cell)) c.store.ensures)

pub returns-in-Dram : goal.returns-in-Dram
returns-in-Dram c =
    rw c.in-Dram.is
    (IfOk-weaker c.memory.result _ (ReadsParts Dram (texts c.args.parts.now))
    (λ r h. reads_kind Dram (texts c.args.parts.now) _ r (of_memory (λ cell. IsFormed cell → texts c.args.parts.now ≢ parts_of cell)) h) c.memory.ensures)
