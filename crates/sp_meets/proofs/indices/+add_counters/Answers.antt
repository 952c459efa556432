use Rattle.std.proofs.Common.{◌∙◌, List, [], ◌∷◌, ◌++◌, ap}
use Rattle.sp_affine.specs.Affine.{Affine}
use Rattle.sp_meets.proofs.Pushed.{pushed, next_counter}
use Rattle.sp_meets.proofs.indices.+add_counters.Goals as goal

pub returns : goal.returns
returns t c =
    let one : List Affine → (f : Affine) → List Affine = λ l f. l ++ f ∷ [] in
    pushed c.add_counters.result _ c.push.new.self.items _ _ _ _ (c.in_ok-push.ensures.items ∙ ap (one c.args.indices.now.items) c.in_ok-counter_index.ensures) (next_counter c.args.around c.args.count c.args.last c.if-last-eq0.false) c.add_counters.ensures
