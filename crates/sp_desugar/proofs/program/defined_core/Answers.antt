use Rattle.std.proofs.Common.{◌≡◌, [], ◌++◌, length, map, subst, sym, ap, ◌∙◌}
use Rattle.sp_words.specs.Ports.{plain_ports}
use Rattle.sp_tree.specs.Plain as program
use Rattle.sp_tree.specs.PlainTree.{plain_stmts}
use Rattle.sp_tree.specs.ProgramParts.{plain_program}
use Rattle.sp_core.specs.CoreParts.{plain_core}
use Rattle.sp_core.specs.Invariant.{IsCore}
use Rattle.sp_core.specs.Plain.{plain_mem, plain_node}
use Rattle.sp_sugar.specs.Numbers.{written_mems}
use Rattle.sp_sugar.specs.Registers.{registers_in}
use Rattle.sp_sugar.specs.Uses.{no_more}
use Rattle.sp_sugar.specs.Values.{no_sources}
use Rattle.sp_operations.specs.Sources.{sources_of}
use Rattle.sp_desugar.specs.Tree.{alone_node}
use Rattle.sp_desugar.proofs.ProgramLemmas.{core_is, no_source}
use Rattle.sp_desugar.proofs.program.defined_core.Goals as goal

pub core_of_parts-requires : goal.core_of_parts-requires
core_of_parts-requires c =
    let p = plain_program c.args.program.now in
    let written : map plain_mem c.push_written.new.out.items ≡ written_mems p.mems =
    c.in_ok-push_written.ensures
    ∙ ap (λ xs. map plain_mem xs ++ written_mems (map program.plain_mem c.mems.result.now)) c.new-mems.ensures.items
    ∙ ap written_mems c.mems.ensures.mems in
    let body : plain_stmts c.body-body.result.now ≡ p.body = ap plain_stmts c.body-body.ensures.body in
    let mems : map plain_mem c.alone.new.regs.items ≡ written_mems p.mems ++ registers_in p.body no_more =
    c.in_ok-root.ensures.regs
    ∙ ap (λ xs. xs ++ registers_in (plain_stmts c.body-body.result.now) no_more) written
    ∙ ap (λ b. written_mems p.mems ++ registers_in b no_more) body in
    let root : plain_node c.in_ok-root.root ≡ alone_node p.mems (length p.counters) no_sources (length (written_mems p.mems)) p.body =
    c.in_ok-root.ensures.node
    ∙ ap (λ ms. alone_node ms c.in_ok-counters.counters (sources_of []) (length (map plain_mem c.push_written.new.out.items)) (plain_stmts c.body-body.result.now)) c.mems-2.ensures.mems
    ∙ ap (λ n. alone_node p.mems n (sources_of []) (length (map plain_mem c.push_written.new.out.items)) (plain_stmts c.body-body.result.now)) c.in_ok-counters.ensures
    ∙ ap (λ s. alone_node p.mems (length p.counters) s (length (map plain_mem c.push_written.new.out.items)) (plain_stmts c.body-body.result.now)) no_source
    ∙ ap (λ xs. alone_node p.mems (length p.counters) no_sources (length xs) (plain_stmts c.body-body.result.now)) written
    ∙ ap (alone_node p.mems (length p.counters) no_sources (length (written_mems p.mems))) body in
    let same = core_is p (map plain_mem c.alone.new.regs.items) (plain_ports c.in_ok-ports.ports) (plain_node c.in_ok-root.root) mems (c.in_ok-ports.ensures ∙ c.ports.ensures.ports) root in
    subst IsCore (sym same) (c.programs_become_cores.ensures p c.mems.ensures.program)

pub returns-clause-core : goal.returns-clause-core
returns-clause-core c =
    let p = plain_program c.args.program.now in
    let written : map plain_mem c.push_written.new.out.items ≡ written_mems p.mems =
    c.in_ok-push_written.ensures
    ∙ ap (λ xs. map plain_mem xs ++ written_mems (map program.plain_mem c.mems.result.now)) c.new-mems.ensures.items
    ∙ ap written_mems c.mems.ensures.mems in
    let body : plain_stmts c.body-body.result.now ≡ p.body = ap plain_stmts c.body-body.ensures.body in
    let mems : map plain_mem c.alone.new.regs.items ≡ written_mems p.mems ++ registers_in p.body no_more =
    c.in_ok-root.ensures.regs
    ∙ ap (λ xs. xs ++ registers_in (plain_stmts c.body-body.result.now) no_more) written
    ∙ ap (λ b. written_mems p.mems ++ registers_in b no_more) body in
    let root : plain_node c.in_ok-root.root ≡ alone_node p.mems (length p.counters) no_sources (length (written_mems p.mems)) p.body =
    c.in_ok-root.ensures.node
    ∙ ap (λ ms. alone_node ms c.in_ok-counters.counters (sources_of []) (length (map plain_mem c.push_written.new.out.items)) (plain_stmts c.body-body.result.now)) c.mems-2.ensures.mems
    ∙ ap (λ n. alone_node p.mems n (sources_of []) (length (map plain_mem c.push_written.new.out.items)) (plain_stmts c.body-body.result.now)) c.in_ok-counters.ensures
    ∙ ap (λ s. alone_node p.mems (length p.counters) s (length (map plain_mem c.push_written.new.out.items)) (plain_stmts c.body-body.result.now)) no_source
    ∙ ap (λ xs. alone_node p.mems (length p.counters) no_sources (length xs) (plain_stmts c.body-body.result.now)) written
    ∙ ap (alone_node p.mems (length p.counters) no_sources (length (written_mems p.mems))) body in
    ap plain_core c.in_ok-core.ensures
    ∙ core_is p (map plain_mem c.alone.new.regs.items) (plain_ports c.in_ok-ports.ports) (plain_node c.in_ok-root.root) mems (c.in_ok-ports.ensures ∙ c.ports.ensures.ports) root
