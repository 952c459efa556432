use Rattle.std.proofs.Common.{sym, ◌∙◌, ap}
use Rattle.std.specs.Option.{option_copied}
use Rattle.sp_core.proofs.SpanLemmas.{ends-last}
use Rattle.sp_core.proofs.node_rules.ends_in_range.Goals as goal

pub returns-in-Some : goal.returns-in-Some
returns-in-Some c = c.is_range.ensures ∙ sym (ends-last c.args.spans.now c.in-Some.span.now (sym c.last.ensures.value ∙ ap option_copied c.in-Some.is))
