use Rattle.std.proofs.Common.{ap, not, ◌&&◌, sym, ◌∙◌}
use Rattle.std.specs.List.{list_any}
use Rattle.std.specs.Str.{bytes_eq}
use Rattle.sp_words.specs.Names.{reserved_words}
use Rattle.sp_core.proofs.NameLemmas.{among_test}
use Rattle.sp_core.proofs.memory_rules.is_port_name.Goals as goal

pub returns-then-is_name : goal.returns-then-is_name
returns-then-is_name c =
    ap not (among_test reserved_words c.args.name.now c.is_reserved.result c.is_reserved.ensures)
    ∙ ap (λ b. b && not (list_any (λ word. bytes_eq word c.args.name.now) reserved_words)) (sym c.if-is_name.true ∙ c.is_name.ensures)
