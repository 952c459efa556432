use Rattle.std.proofs.Common.{ap, Err}
use Rattle.std.specs.Int.{w64}
use Rattle.std.proofs.lemmas.Int.{to_z-of_z}
use Rattle.sp_affine.specs.Combination.{multiple_of}
use Rattle.sp_patterns.specs.Forms.{multiple_symbol}
use Rattle.sp_patterns.proofs.Held.{is_held, none_by_width, none_by_symbols}
use Rattle.sp_patterns.proofs.Symbols.{tells_multiple}
use Rattle.sp_patterns.proofs.combine.multiple.Goals as goal

pub returns-in-Ok-clause-form : goal.returns-in-Ok-clause-form
returns-in-Ok-clause-form c =
    let form = rw (to_z-of_z w64 _ c.ranges.by) at c.in-Ok.ensures.form in
    let narrow = rw (to_z-of_z w64 _ c.ranges.by) at c.in-Ok.ensures.narrow in
    is_held (multiple_symbol c.args.a.now.symbol c.args.by) (multiple_of c.args.a.now c.args.by) c.in-Ok.f (tells_multiple c.args.a.now.symbol c.args.by) form narrow

pub returns-in-Err-Wide-clause-form : goal.returns-in-Err-Wide-clause-form
returns-in-Err-Wide-clause-form c =
    let wide = rw (to_z-of_z w64 _ c.ranges.by) at (c.in-Err-Wide.ensures.wide.0 (ap Err c.in-Err-Wide.field-0-is)) in
    none_by_width (multiple_symbol c.args.a.now.symbol c.args.by) (multiple_of c.args.a.now c.args.by) wide

pub returns-in-Err-Symbols-clause-form : goal.returns-in-Err-Symbols-clause-form
returns-in-Err-Symbols-clause-form c =
    let symbols = rw (to_z-of_z w64 _ c.ranges.by) at (c.in-Err-Symbols.ensures.symbols.0 (ap Err c.in-Err-Symbols.field-0-is)).1 in
    none_by_symbols (multiple_symbol c.args.a.now.symbol c.args.by) (multiple_of c.args.a.now c.args.by) (tells_multiple c.args.a.now.symbol c.args.by) symbols
