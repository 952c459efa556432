use Rattle.std.proofs.Common.{ap, ◌∙◌, List, ℕ, map}
use Rattle.sp_types.proofs.ScopeLemmas.{take_shown}
use Rattle.sp_typed.specs.Named.{Meant, Here}
use Rattle.sp_typed.proofs.ScopeLemmas.{entry_of}
use Rattle.sp_typed.proofs.scope.Scope.leave.Goals as goal

pub returns : goal.returns
returns c =
    let old = c.args.self.now in
    let shown : List (List ℕ × Meant) → Here = λ ns. record { names = ns; mems = old.mems; vals = old.vals; counters = old.counters } in
    ap shown (ap (map entry_of) c.truncate.ensures.entries ∙ take_shown entry_of c.args.mark old.names.entries)
