use Rattle.std.proofs.Common.{◌+◌, ◌∷◌, drop, map, sym, ◌∙◌, ap, arith}
use Rattle.std.proofs.lemmas.List.{drop_more}
use Rattle.sp_tree.specs.Plain.{plain_mem}
use Rattle.sp_tree.specs.PlainTree.{plain_stmts}
use Rattle.sp_seq.proofs.BlockLemmas.{end_begin, own_at, end_more, end_over, end_fits, end_done}
use Rattle.sp_seq.proofs.state.State.end_stream.Goals as goal

pub loop-s-init : goal.loop-s-init
loop-s-init c = end_begin (map plain_mem c.args.decls.now) c.args.body.now c.args.self.now

pub owns_overfull-requires : goal.owns_overfull-requires
owns_overfull-requires c =
    let can = c.requires in
    let x = c.s-item.result in
    record { setting = can.setting; seen = λ m e. can.seen m (own_at c.args.body.now c.loop-s.s-index x m c.loop-s-test.true c.s-item.is e) }

pub returns-then-owns_overfull : goal.returns-then-owns_overfull
returns-then-owns_overfull c =
    let a = c.args in
    let mems = map plain_mem a.decls.now in
    let x = c.s-item.result in
    let over = c.owns_overfull.ensures.over c.if-owns_overfull.true in
    end_over mems a.at a.self.now (plain_stmts a.body.now) c.requires over.0 (own_at a.body.now c.loop-s.s-index x over.0 c.loop-s-test.true c.s-item.is over.1) over.2

pub loop-s-preserved : goal.loop-s-preserved
loop-s-preserved c =
    let a = c.args in
    let mems = map plain_mem a.decls.now in
    let k = c.loop-s.s-index in
    let x = c.s-item.result in
    let split = drop_more a.body.now k x c.loop-s-test.true ∙ ap (λ y. y ∷ drop (k + 1) a.body.now) (sym c.s-item.is) in
    end_more mems a.body.now a.self.now k x c.loop-s.invariant split (c.owns_overfull.ensures.fits c.if-owns_overfull.false)

pub returns : goal.returns
returns c =
    let a = c.args in
    let mems = map plain_mem a.decls.now in
    end_fits mems a.at a.self.now (plain_stmts a.body.now) (end_done mems a.body.now a.self.now c.loop-s.s-index (omega arith) c.loop-s.invariant)
