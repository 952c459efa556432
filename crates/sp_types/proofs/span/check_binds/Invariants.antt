use Rattle.std.proofs.Common.{◌≡◌, drop}
use Rattle.sp_reader.specs.PlainProgram.{plain_idents}
use Rattle.sp_types.specs.First.{notes}
use Rattle.sp_types.specs.Plain.{visible_of}
use Rattle.sp_types.specs.Spans.{binds_refusals, with_binds}
use Rattle.sp_types.proofs.span.check_binds.Given as goal

abbrev pub invariant-loop-name : goal.invariant-loop-name
invariant-loop-name l = (with_binds (visible_of l.scope) (plain_idents (drop l.name-index l.binds)) ≡ with_binds (visible_of l.fn.scope) (plain_idents l.binds))
    × (notes l.finding.first (binds_refusals (visible_of l.scope) (plain_idents (drop l.name-index l.binds))) ≡ notes l.fn.finding.first (binds_refusals (visible_of l.fn.scope) (plain_idents l.binds)))
