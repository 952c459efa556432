use Rattle.std.proofs.Common.{[], ◌∷◌}
use Rattle.sp_gates.proofs.Growing.{Fills-join, IsOne-stays}
use Rattle.sp_gates.proofs.Running.{runs_earlier}
use Rattle.sp_bank_ports.proofs.Served.{served}
use Rattle.sp_bank_ports.proofs.serving.serve.Goals as goal

pub connect_read-requires-clause-one : goal.connect_read-requires-clause-one
connect_read-requires-clause-one c = IsOne-stays _ _ _ c.in_ok-connect_write.ensures.fills.grows c.requires.one

pub returns-clause-fills : goal.returns-clause-fills
returns-clause-fills c =
    Fills-join _ _ _ (c.args.store.now.write ∷ c.args.store.now.write_at ∷ c.args.store.now.word ∷ []) (c.args.store.now.read ∷ c.args.store.now.read_at ∷ []) c.in_ok-connect_write.ensures.fills c.in_ok-connect_read.ensures.fills

pub returns-clause-runs : goal.returns-clause-runs
returns-clause-runs c = λ bank len is s run.
    let middle = runs_earlier _ _ s c.in_ok-connect_read.ensures.fills.grows run in
    let first = runs_earlier _ _ s c.in_ok-connect_write.ensures.fills.grows middle in
    served s bank len c.args.store.now c.args.write.now c.args.read.now (is.runs s first) (c.in_ok-connect_write.ensures.runs s middle) (c.in_ok-connect_read.ensures.runs s run)
