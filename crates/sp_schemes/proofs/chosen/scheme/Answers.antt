use Rattle.std.proofs.Common.{rules, ◌≡◌, ℕ, ◌+◌, ◌<◌, ◌≤◌, ◌^◌, true, false, List, [], length, map, Option, Some, None, arith, refl, sym, ap, ◌∙◌, subst}
use Rattle.std.specs.Prelude.{IfSome, IfNone, slice_index_or}
use Rattle.sp_bank.specs.Banking.{Banking}
use Rattle.sp_bank.specs.Search.{IsFirst, Serves}
use Rattle.sp_bank.specs.Separation.{IsGroup}
use Rattle.sp_core.specs.CoreParts.{plain_core}
use Rattle.sp_core.specs.Declarations.{mem}
use Rattle.sp_core.specs.Forms.{plain_forms}
use Rattle.sp_core.specs.Numbering.{number_count}
use Rattle.sp_core.specs.Plain.{plain_node}
use Rattle.sp_plan.specs.Ports.{has_banks}
use Rattle.sp_schemes.proofs.Few.{few_numbers}
use Rattle.sp_schemes.proofs.Found.{banked_mem, are_groups, fit, by_search, not_grouped, groups_all}
use Rattle.sp_schemes.proofs.Lists.{each_at}
use Rattle.sp_schemes.proofs.chosen.scheme.Goals as goal
use Rattle.sp_schemes.specs.Chosen.{IsChosen}
use Rattle.sp_schemes.specs.Groups.{banked_rank, groups_in, are_grouped_in}

pub are_grouped_in-requires-clause-small : goal.are_grouped_in-requires-clause-small
are_grouped_in-requires-clause-small c =
    let few = few_numbers (plain_core c.args.core.now) c.root.ensures.core in
    let root = ap (λ x. number_count (plain_node x)) c.root.ensures.root in
    omega (arith, few, root)

pub returns-then-not-branch : goal.returns-then-not-branch
returns-then-not-branch c =
    let core = plain_core c.args.core.now in
    let forms = plain_forms c.args.forms.now in
    let banks : has_banks (mem core c.args.m).kind ≡ true = search rules in
    let none : are_grouped_in core forms c.args.m 0 core.root ≡ false = search rules in
    not_grouped core forms c.args.m banks (banked_mem core c.root.ensures.core c.args.m banks) c.root.ensures.core none

pub push_groups_in-requires-clause-small : goal.push_groups_in-requires-clause-small
push_groups_in-requires-clause-small c =
    let few = few_numbers (plain_core c.args.core.now) c.root.ensures.core in
    let root = ap (λ x. number_count (plain_node x)) c.root-2.ensures.root in
    omega (arith, few, root)

pub search-requires-clause-groups : goal.search-requires-clause-groups
search-requires-clause-groups c k d l =
    let core = plain_core c.args.core.now in
    let forms = plain_forms c.args.forms.now in
    let right = c.root.ensures.core in
    let banks : has_banks (mem core c.args.m).kind ≡ true = search rules in
    let grouped : are_grouped_in core forms c.args.m 0 core.root ≡ true = search rules in
    let is = banked_mem core right c.args.m banks in
    let pushed : map (λ g. g.items) c.push_groups_in.new.into.items ≡ groups_in core forms c.args.m 0 core.root = search rules in
    let gs = ap (map (λ g. g.items)) c.deref.ensures.value ∙ pushed in
    let few = few_numbers core right in
    subst (λ r. IsGroup r (slice_index_or c.deref.result.now k d).items) (sym c.banked_rank.ensures)
    (groups_all (λ g. g.items) (banked_rank (mem core c.args.m).kind (length (mem core c.args.m).dims)) c.deref.result.now (groups_in core forms c.args.m 0 core.root) gs (are_groups core forms c.args.m banks is 0 core.root (fit core forms c.args.m banks is right) grouped few) k d l)

pub returns : goal.returns
returns c =
    let core = plain_core c.args.core.now in
    let forms = plain_forms c.args.forms.now in
    let right = c.root.ensures.core in
    let banks : has_banks (mem core c.args.m).kind ≡ true = search rules in
    let grouped : are_grouped_in core forms c.args.m 0 core.root ≡ true = search rules in
    let is = banked_mem core right c.args.m banks in
    let pushed : map (λ g. g.items) c.push_groups_in.new.into.items ≡ groups_in core forms c.args.m 0 core.root = search rules in
    let gs = ap (map (λ g. g.items)) c.deref.ensures.value ∙ pushed in
    let r = c.banked_rank.ensures in
    by_search core forms c.args.m banks is right grouped c.search.result
    (subst (λ x. IfSome c.search.result (IsFirst (banked_rank (mem core c.args.m).kind (length (mem core c.args.m).dims)) x)) gs
    (subst (λ x. IfSome c.search.result (IsFirst x (map (λ g. g.items) c.deref.result.now))) r c.search.ensures.first))
    (subst (λ x. IfNone c.search.result ((b : Banking) → Serves (banked_rank (mem core c.args.m).kind (length (mem core c.args.m).dims)) x b → ⊥)) gs
    (subst (λ x. IfNone c.search.result ((b : Banking) → Serves x (map (λ g. g.items) c.deref.result.now) b → ⊥)) r c.search.ensures.none))
