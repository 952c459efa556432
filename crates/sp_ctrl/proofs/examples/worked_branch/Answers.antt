use Rattle.sp_gates.proofs.Growing.{HasNet-stays, IsOne-stays}
use Rattle.sp_gates.proofs.Running.{runs_earlier}
use Rattle.sp_ctrl.proofs.Worked.{child_beside, other_start, five_later}
use Rattle.sp_ctrl.proofs.examples.worked_branch.Goals as goal

pub short_child-requires-2 : goal.short_child-requires-2
short_child-requires-2 c = IsOne-stays _ _ _ c.in_ok-test.ensures.opens.grows c.in_ok-one.ensures.one

pub short_child-requires-3 : goal.short_child-requires-3
short_child-requires-3 c = IsOne-stays _ _ _ c.in_ok-yes.ensures.opens.grows (IsOne-stays _ _ _ c.in_ok-test.ensures.opens.grows c.in_ok-one.ensures.one)

pub emit-requires : goal.emit-requires
emit-requires c =
    let o = c.in_ok-one.ensures.fills.grows in
    let a = c.in_ok-test.ensures in
    let b = c.in_ok-yes.ensures in
    let d = c.in_ok-no.ensures in
    record {
      start_net = HasNet-stays _ _ _ _ d.opens.grows (HasNet-stays _ _ _ _ b.opens.grows (HasNet-stays _ _ _ _ a.opens.grows (HasNet-stays _ _ _ _ o c.requires.start)));
      tested_net = HasNet-stays _ _ _ _ d.opens.grows (HasNet-stays _ _ _ _ b.opens.grows (HasNet-stays _ _ _ _ a.opens.grows (HasNet-stays _ _ _ _ o c.requires.tested)));
      test_child = child_beside _ _ _ _ d.opens (child_beside _ _ _ _ b.opens a.child);
      yes_child = child_beside _ _ _ _ d.opens b.child;
      no_child = d.child;
      yes_apart = other_start _ _ _ _ b.opens a.child;
      no_apart = other_start _ _ _ _ d.opens (child_beside _ _ _ _ b.opens a.child);
      both_apart = other_start _ _ _ _ d.opens b.child;
    }

pub returns : goal.returns
returns c = record {
  done = λ s r.
      let r_no = runs_earlier _ _ s c.in_ok-ends.ensures.fills.grows r in
      let r_yes = runs_earlier _ _ s c.in_ok-no.ensures.opens.grows r_no in
      let r_test = runs_earlier _ _ s c.in_ok-yes.ensures.opens.grows r_yes in
      five_later s c.args.start c.in_ok-test.test c.args.tested c.in_ok-yes.yes c.in_ok-no.no c.in_ok-ends.ends.done (c.in_ok-ends.ensures.runs s r)
      (c.in_ok-test.ensures.takes s r_test) (c.in_ok-yes.ensures.takes s r_yes) (c.in_ok-no.ensures.takes s r_no);
}
