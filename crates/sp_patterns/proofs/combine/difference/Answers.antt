use Rattle.std.proofs.Common.{◌∙◌, ap, length, Err}
use Rattle.sp_affine.specs.Combination.{difference_of}
use Rattle.sp_patterns.specs.Forms.{difference_symbol}
use Rattle.sp_patterns.proofs.Held.{is_held, none_by_width, none_by_symbols}
use Rattle.sp_patterns.proofs.Symbols.{tells_difference}
use Rattle.sp_patterns.proofs.Values.{length_differences}
use Rattle.sp_patterns.proofs.combine.difference.Goals as goal

pub returns-in-Ok-clause-form : goal.returns-in-Ok-clause-form
returns-in-Ok-clause-form c = is_held (difference_symbol c.args.a.now.symbol c.args.b.now.symbol) (difference_of c.args.a.now c.args.b.now) c.in-Ok.f (tells_difference c.args.a.now.symbol c.args.b.now.symbol) c.in-Ok.ensures.form c.in-Ok.ensures.narrow

pub returns-in-Err-Wide-clause-form : goal.returns-in-Err-Wide-clause-form
returns-in-Err-Wide-clause-form c = none_by_width (difference_symbol c.args.a.now.symbol c.args.b.now.symbol) (difference_of c.args.a.now c.args.b.now) (c.in-Err-Wide.ensures.wide.0 (ap Err c.in-Err-Wide.field-0-is))

pub returns-in-Err-Symbols-clause-form : goal.returns-in-Err-Symbols-clause-form
returns-in-Err-Symbols-clause-form c =
    none_by_symbols (difference_symbol c.args.a.now.symbol c.args.b.now.symbol) (difference_of c.args.a.now c.args.b.now) (tells_difference c.args.a.now.symbol c.args.b.now.symbol) (c.in-Err-Symbols.ensures.symbols.0 (ap Err c.in-Err-Symbols.field-0-is)).1

pub returns-in-Ok-clause-counters : goal.returns-in-Ok-clause-counters
returns-in-Ok-clause-counters c = ap length c.in-Ok.ensures.form.coefs ∙ length_differences c.args.a.now.coefs c.args.b.now.coefs c.requires
