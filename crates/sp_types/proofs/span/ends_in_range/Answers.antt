use Rattle.std.proofs.Common.{sym, ap, ◌∙◌}
use Rattle.std.specs.Option.{option_copied}
use Rattle.sp_types.proofs.SpanLemmas.{last_in_range}
use Rattle.sp_types.proofs.span.ends_in_range.Goals as goal

pub returns-in-Some : goal.returns-in-Some
returns-in-Some c = c.is_range.ensures ∙ sym (last_in_range c.args.spans.now c.in-Some.span.now (sym c.last.ensures.value ∙ ap option_copied c.in-Some.is))
