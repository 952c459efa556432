use Rattle.std.proofs.Common.{◌≡◌, drop, map}
use Rattle.std.specs.List.{list_any}
use Rattle.sp_core.specs.Declarations.{is_among}
use Rattle.sp_core.specs.Plain.{plain_span}
use Rattle.sp_plan.specs.Named.{spans_names}
use Rattle.sp_plan.proofs.naming.spans_use.Given as goal

abbrev pub invariant-loop-span : goal.invariant-loop-span
invariant-loop-span l = list_any (is_among l.m) (spans_names (map plain_span (drop l.span-index l.spans))) ≡ list_any (is_among l.m) (spans_names (map plain_span l.spans))
