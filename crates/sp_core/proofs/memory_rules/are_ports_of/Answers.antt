use Rattle.std.proofs.Common.{sym, ◌∙◌, ap, map, filter, drop}
use Rattle.std.specs.Prelude.{if◌then◌else◌}
use Rattle.std.proofs.lemmas.List.{drop_all}
use Rattle.sp_words.specs.Ports.{plain_port}
use Rattle.sp_core.specs.Meaning.{is_arg, is_out}
use Rattle.sp_core.specs.MemoryRules.{are_ports_of}
use Rattle.sp_core.specs.Plain.{plain_mem}
use Rattle.sp_core.proofs.NameLemmas.{ports_done}
use Rattle.sp_core.proofs.memory_rules.are_ports_of.Goals as goal

pub returns : goal.returns
returns c =
    sym (ports_done c.loop-mem.at c.args.ports.now c.loop-mem.invariant.0)
    ∙ ap (λ xs. are_ports_of (map plain_port (drop c.loop-mem.at c.args.ports.now)) (filter (λ m. if c.args.outs then is_out m.kind else is_arg m.kind) (map plain_mem xs))) (sym (drop_all c.loop-mem.mem-index c.args.mems.now c.loop-mem-test.false))
    ∙ c.loop-mem.invariant.1
