-- What runs on a draft.
use Rattle.std.proofs.Common.{◌≡◌, ◌≤◌, List, [], ◌∷◌, ◌++◌, Bool, cond, count_by, refl, sym, ap, subst, ◌∙◌, arith, append_assoc}
use Rattle.std.proofs.lemmas.List.{append-nil}
use Rattle.std.proofs.lemmas.List.Folds.{list_any-append}
use Rattle.std.proofs.lemmas.List.Sums.{sum_by-append}
use Rattle.sp_netlist.specs.Cells.{PlainCell}
use Rattle.sp_netlist.specs.Rules.{is_bank}
use Rattle.sp_netlist.specs.Signals.{Setting, Signals, Obeys, IsRun}
use Rattle.sp_netlist.specs.Draft.{Draft}
use Rattle.sp_netlist.specs.Parts.{NoCell, names_bank}
use Rattle.sp_gates.specs.Runs.{RunsOn}
use Rattle.sp_gates.specs.Grows.{Grows}

pub none_joined : (test : PlainCell → Bool) (xs ys : List PlainCell) → NoCell test xs → NoCell test ys → NoCell test (xs ++ ys)
none_joined test xs ys h k = list_any-append test xs ys ∙ rw (h, k) refl

pub runs_whole : (g : Setting) (s : Signals) → IsRun g s → RunsOn s g.cells
runs_whole g s run = record { setting = g; rest = []; run = run; stands = sym (append-nil g.cells); banks = λ bank within. refl }

-- a list that goes on has as many of a kind, or more
count_front : (test : PlainCell → Bool) (xs ys : List PlainCell) → count_by test xs ≤ count_by test (xs ++ ys)
count_front test xs ys = let e = sum_by-append (λ c. cond (test c) 1 0) xs ys in omega (arith, e)

pub runs_earlier : (old new : Draft) (s : Signals) → Grows old new → RunsOn s new.cells → RunsOn s old.cells
runs_earlier old new s g r = record {
  setting = r.setting;
  rest = g.added ++ r.rest;
  run = r.run;
  stands = r.stands ∙ ap (λ cells. cells ++ r.rest) g.stands ∙ append_assoc old.cells g.added r.rest;
  banks = λ bank within.
      let more : count_by is_bank old.cells ≤ count_by is_bank new.cells = subst (λ cells. count_by is_bank old.cells ≤ count_by is_bank cells) (sym g.stands) (count_front is_bank old.cells g.added) in
      none_joined (names_bank bank) g.added r.rest (g.apart bank within) (r.banks bank (omega (arith, within, more)));
}

-- the equations of the cell that was added last, whatever stands beside it
pub last_obeyed : (s : Signals) (front new : List PlainCell) (x : PlainCell) → new ≡ front ++ x ∷ [] → (r : RunsOn s new) → Obeys r.setting s front x
last_obeyed s front new x is r =
    r.run.cells front x r.rest (r.stands ∙ ap (λ cells. cells ++ r.rest) is ∙ append_assoc front (x ∷ []) r.rest)
