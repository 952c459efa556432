use Rattle.std.proofs.Common.{◌≡◌, ◌<◌, List, ℕ, [], ◌∷◌, ◌++◌, map, length, sym, ◌∙◌, ap, subst, arith, if◌then◌else◌}
use Rattle.std.proofs.lemmas.List.{length-map}
use Rattle.sp_tree.specs.Expressions.{mem}
use Rattle.sp_tree.specs.Meaning.{is_dram}
use Rattle.sp_tree.specs.Plain.{plain_mem}
use Rattle.sp_tree.specs.PlainProgram.{PlainMem}
use Rattle.sp_tree.specs.Store.{words_of}
use Rattle.sp_seq.specs.declared.memory.Memory.{Memory}
use Rattle.sp_seq.specs.Loading.{HasWord}
use Rattle.sp_seq.specs.States.{held_of, memory_of, store_of}
use Rattle.sp_seq.proofs.OverLemmas.{listed_more, memory_read, dram_port}
use Rattle.sp_seq.proofs.SeesLemmas.{decl_at}
use Rattle.sp_seq.proofs.over.drams.Goals as goal

pub push_dram-requires : goal.push_dram-requires
push_dram-requires c = λ is.
    let mems = map plain_mem c.args.decls.now in
    let k = c.loop-number.number in
    let e = decl_at c.args.decls.now k c.index-decls-number.result c.loop-number-test.true c.index-decls-number.is in
    let lt : k < length mems = omega (arith, c.loop-number-test.true, length-map c.args.decls.now plain_mem) in
    let here = memory_read c.args.state.now k c.index.result.now (omega (arith, lt, c.requires.all_there)) c.index.ensures in
    subst HasWord here (c.requires.each k lt (dram_port (mem mems k).kind (ap (λ (m : PlainMem). is_dram m.kind) e ∙ is)))

pub loop-number-preserved : goal.loop-number-preserved
unfolding store_of
loop-number-preserved c =
    let mems = map plain_mem c.args.decls.now in
    let k = c.loop-number.number in
    let s = c.args.state.now in
    let e = decl_at c.args.decls.now k c.index-decls-number.result c.loop-number-test.true c.index-decls-number.is in
    let lt : k < length mems = omega (arith, c.loop-number-test.true, length-map c.args.decls.now plain_mem) in
    let here : memory_of s k ≡ c.index.result.now = memory_read s k c.index.result.now (omega (arith, lt, c.requires.all_there)) c.index.ensures in
    let done : List (List ℕ) = map (λ words. words.items) c.loop-number.drams.items in
    let now : List (List ℕ) = map (λ words. words.items) c.push_dram.new.drams.items in
    listed_more is_dram (λ m. words_of ((store_of s).held m)) mems k done now _ lt c.loop-number.invariant
    (c.in_ok-push_dram.ensures
    ∙ ap (λ b. done ++ (if b then words_of (held_of c.index.result.now) ∷ [] else [])) (ap (λ (m : PlainMem). is_dram m.kind) (sym e))
    ∙ ap (λ (x : Memory). done ++ (if is_dram (mem mems k).kind then words_of (held_of x) ∷ [] else [])) (sym here))
