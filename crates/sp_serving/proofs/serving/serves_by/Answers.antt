use Rattle.std.proofs.Common.{◌≡◌, ◌<◌, subst, ap, sym, ◌∙◌, arith}
use Rattle.sp_bank.proofs.ApartLemmas.{block_positive}
use Rattle.sp_bank.specs.Banking.{Banking, InSpace}
use Rattle.sp_core.specs.CoreParts.{plain_core}
use Rattle.sp_core.specs.Forms.{plain_forms}
use Rattle.sp_core.specs.Numbering.{number_count}
use Rattle.sp_core.specs.Plain.{plain_node}
use Rattle.sp_schemes.proofs.Few.{few_numbers}
use Rattle.sp_serving.proofs.TreeTests.{ranked, serves_from, serves_to}
use Rattle.sp_serving.proofs.serving.serves_by.Goals as goal
use Rattle.sp_serving.specs.Served.{is_served_in}

pub serves_in-requires-clause-ranks : goal.serves_in-requires-clause-ranks
serves_in-requires-clause-ranks c = ranked (plain_core c.args.core.now) c.args.m c.args.scheme.now c.root.ensures.core c.requires

pub serves_in-requires-clause-small : goal.serves_in-requires-clause-small
serves_in-requires-clause-small c =
    let few = few_numbers (plain_core c.args.core.now) c.root.ensures.core in
    let root = ap (λ x. number_count (plain_node x)) c.root.ensures.root in
    omega (arith, few, root)

pub returns : goal.returns
returns c =
    let core = plain_core c.args.core.now in
    let forms = plain_forms c.args.forms.now in
    let b = c.args.scheme.now in
    let P : Banking → Type 0 = λ x. InSpace x in
    let size = (subst P c.scheme.view_is c.scheme.invariant).size in
    let some : 0 < b.banks = omega (arith, size.some_bank) in
    let block = block_positive b.block size.allowed_block in
    let is : c.serves_in.result ≡ is_served_in core forms c.args.m b 0 core.root = c.serves_in.ensures ∙ ap (λ x. is_served_in core forms c.args.m b 0 (plain_node x)) c.root.ensures.root in
    (λ t. serves_from core forms c.args.m b block some c.requires (sym is ∙ t), λ h. is ∙ serves_to core forms c.args.m b block some h)
