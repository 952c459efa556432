use Rattle.std.proofs.Common.{◌∷◌, ◌++◌, [], All, take, sym, ap, subst, ◌∙◌, arith}
use Rattle.std.proofs.lemmas.List.{take_all, take_more}
use Rattle.std.specs.List.{AllZip}
use Rattle.sp_gates.proofs.Growing.{Fills-join, Fills-none}
use Rattle.sp_gates.proofs.Running.{runs_earlier}
use Rattle.sp_plan.specs.Plain.{plain_plan}
use Rattle.sp_tree_handed.specs.Standing.{TurnsStand}
use Rattle.sp_tree_copies.specs.Loops.{CopiesStand, HasCopies}
use Rattle.sp_tree_copies.proofs.Emitting.{all_later, all_more, turn_later, zip_end}
use Rattle.sp_tree_copies.proofs.numbers.emit_numbers.Goals as goal

pub loop_numbers-requires : goal.loop_numbers-requires
loop_numbers-requires c =
    turn_later c.args.builder.now c.loop-own.builder c.own-item.result c.loop-own.invariant.fills.grows (subst (TurnsStand c.args.builder.now) (sym c.own-item.is) (c.requires c.loop-own.own-index c.own-item.result c.loop-own-test.true))

pub loop-own-init : goal.loop-own-init
loop-own-init c = record {
  fills = Fills-none c.args.builder.now;
  copies = λ s run. subst (AllZip (HasCopies (plain_plan c.args.plan.now) s) []) (sym c.new-all.ensures.items) tt;
  stand = subst (All (CopiesStand c.args.builder.now)) (sym c.new-all.ensures.items) (λ k d lt. absurd (omega (arith, lt)));
}

pub loop-own-preserved : goal.loop-own-preserved
loop-own-preserved c =
    let i = c.loop-own.invariant in
    let e = c.in_ok-copies.ensures in
    let items = c.in_ok-push.ensures.items in
    let plan = plain_plan c.args.plan.now in
    let front = take c.loop-own.own-index c.args.turns.now in
    let cut = take_more c.args.turns.now c.loop-own.own-index c.own-item.result c.loop-own-test.true ∙ ap (λ x. front ++ x ∷ []) (sym c.own-item.is) in
    record {
      fills = Fills-join c.args.builder.now c.loop-own.builder c.loop_numbers.new.builder [] [] i.fills e.fills;
      copies = λ s run.
          subst (λ xs. AllZip (HasCopies plan s) xs c.push.new.self.items) (sym cut)
          (subst (AllZip (HasCopies plan s) (front ++ c.own-item.result ∷ [])) (sym items)
          (zip_end (HasCopies plan s) front c.loop-own.all.items c.own-item.result c.in_ok-copies.copies (i.copies s (runs_earlier c.loop-own.builder c.loop_numbers.new.builder s e.fills.grows run)) (e.copies s run)));
      stand = subst (All (CopiesStand c.loop_numbers.new.builder)) (sym items)
          (all_more (CopiesStand c.loop_numbers.new.builder) c.loop-own.all.items c.in_ok-copies.copies (all_later c.loop-own.builder c.loop_numbers.new.builder c.loop-own.all.items e.fills.grows i.stand) e.stand);
    }

pub returns-clause-copies : goal.returns-clause-copies
returns-clause-copies c s run =
    subst (λ xs. AllZip (HasCopies (plain_plan c.args.plan.now) s) xs c.loop-own.all.items) (take_all c.loop-own.own-index c.args.turns.now c.loop-own-test.false) (c.loop-own.invariant.copies s run)
