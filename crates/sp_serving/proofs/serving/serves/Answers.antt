use Rattle.std.proofs.Common.{true, ap, sym, ◌∙◌}
use Rattle.sp_core.specs.CoreParts.{plain_core}
use Rattle.sp_core.specs.Forms.{plain_forms}
use Rattle.sp_plan.specs.Validity.{fits_scheme}
use Rattle.sp_serving.proofs.TreeTests.{no_scheme, unfit_scheme, fit_scheme}
use Rattle.sp_serving.proofs.serving.serves.Goals as goal

pub returns-in-None : goal.returns-in-None
returns-in-None c = no_scheme (plain_core c.args.core.now) (plain_forms c.args.forms.now) c.args.m c.args.plan.now.scheme c.in-None.is

pub serves_by-requires : goal.serves_by-requires
serves_by-requires c = ap (fits_scheme (plain_core c.args.core.now) c.args.m) (sym c.in-Some.is) ∙ sym c.fits_scheme.ensures ∙ c.if-fits_scheme.true

pub returns-then-fits_scheme : goal.returns-then-fits_scheme
returns-then-fits_scheme c = fit_scheme (plain_core c.args.core.now) (plain_forms c.args.forms.now) c.args.m c.args.plan.now.scheme _ c.serves_by.result c.in-Some.is c.serves_by.ensures

pub returns-else-fits_scheme : goal.returns-else-fits_scheme
returns-else-fits_scheme c =
    unfit_scheme (plain_core c.args.core.now) (plain_forms c.args.forms.now) c.args.m c.args.plan.now.scheme _ c.in-Some.is (sym c.fits_scheme.ensures ∙ c.if-fits_scheme.false)
