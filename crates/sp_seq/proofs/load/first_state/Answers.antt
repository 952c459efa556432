use Rattle.std.proofs.Common.{◌≡◌, ℕ, ◌<◌, List, map, length, replicate, sym, ◌∙◌, ap, subst, string_bytes}
use Rattle.std.proofs.lemmas.List.{length-map}
use Rattle.sp_tree.specs.Expressions.{dims}
use Rattle.sp_tree.specs.Plain.{plain_mem}
use Rattle.sp_tree.specs.PlainProgram.{PlainMem, PlainProgram}
use Rattle.sp_tree.specs.PlainTree.{plain_stmts}
use Rattle.sp_tree.specs.ProgramParts.{plain_program}
use Rattle.sp_tree.specs.Streams.{roomy_in}
use Rattle.sp_words.specs.Interface.{word_count}
use Rattle.sp_words.specs.Ports.{plain_input}
use Rattle.sp_seq.specs.Loading.{AllBegin}
use Rattle.sp_seq.proofs.LoadLemmas.{loaded}
use Rattle.sp_seq.proofs.SizeLemmas.{sizes}
use Rattle.sp_seq.proofs.load.first_state.Goals as goal

pub first_memories-requires-clause-sizes : goal.first_memories-requires-clause-sizes
first_memories-requires-clause-sizes c = λ m. subst (λ (ms : List PlainMem). word_count (dims ms m) < 4294967296) (sym c.mems-decls.ensures.mems) (sizes (plain_program c.args.program.now) c.mems-decls.ensures.program m)

pub returns : goal.returns
returns c =
    let p : PlainProgram = plain_program c.args.program.now in
    let input = plain_input c.args.input.now in
    let roomy : c.deref.result.now ≡ roomy_in p.mems p.body =
    c.deref.ensures.value ∙ c.in_ok-roomy.ensures ∙ ap (λ (ms : List PlainMem). roomy_in ms (plain_stmts c.body.result.now)) c.mems-decls.ensures.mems ∙ ap (λ b. roomy_in p.mems (plain_stmts b)) c.body.ensures.body in
    let P : List PlainMem → List ℕ → Type 0 = λ ms rs. AllBegin ms rs 0 ms input.args input.drams c.in_ok-memories.memories.items in
    loaded p c.mems-decls.ensures.program input _
    (c.in_ok-values.ensures ∙ ap (λ n. replicate n 0) (sym (length-map c.vals.result.now string_bytes) ∙ ap length c.vals.ensures.vals))
    (c.in_ok-counts.ensures ∙ ap (λ n. replicate n 0) (sym (length-map c.counters.result.now string_bytes) ∙ ap length c.counters.ensures.counters))
    (subst (λ (ms : List PlainMem). P ms (roomy_in p.mems p.body)) c.mems-decls.ensures.mems (subst (P (map plain_mem c.mems-decls.result.now)) roomy c.in_ok-memories.ensures))
