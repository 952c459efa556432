use Rattle.std.proofs.Common.{◌≡◌, ◌-◌, [], ◌∷◌, length, take, drop, rules, refl, sym, ap, subst, ◌∙◌, arith}
use mathlib.Core.Path.{fun_ext}
use Rattle.sp_gates.specs.Grows.{Fills}
use Rattle.sp_gates.specs.Tested.{is_on}
use Rattle.sp_gates.proofs.Growing.{Fills-none, Fills-join, IsOne-stays}
use Rattle.sp_gates.proofs.Running.{runs_earlier}
use Rattle.sp_sequence.specs.Fits.{starts_of, AreMembers}
use Rattle.sp_sequence.specs.Members.{AreStarted, chain_over}
use Rattle.sp_sequence.proofs.Cycles.{first_and_rest, empty}
use Rattle.sp_sequence.proofs.Waiting.{members_kept, member_parts, one_net}
use Rattle.sp_sequence.proofs.chains.+run_chain.Goals as goal

pub returns-in_default-clause-fills : goal.returns-in_default-clause-fills
returns-in_default-clause-fills t c = subst (λ xs. Fills c.args.builder.now c.args.builder.now (starts_of xs)) (sym (empty c.args.members.now (let l = c.in_default.len_below in omega (arith, l)))) (Fills-none _)

pub returns-in_default-clause-starts : goal.returns-in_default-clause-starts
returns-in_default-clause-starts t c = λ s r. subst (AreStarted s (is_on s c.args.cause)) (sym (empty c.args.members.now (let l = c.in_default.len_below in omega (arith, l)))) tt

pub returns-in_default-clause-over : goal.returns-in_default-clause-over
returns-in_default-clause-over t c = λ s r u. subst (λ xs. is_on s c.args.cause u ≡ chain_over s (is_on s c.args.cause) xs u) (sym (empty c.args.members.now (let l = c.in_default.len_below in omega (arith, l)))) refl

pub run_member-requires-clause-member : goal.run_member-requires-clause-member
run_member-requires-clause-member t c = (member_parts c.args.builder.now c.first-item.result (take (length c.args.members.now - 1) (drop 1 c.args.members.now)) (subst (AreMembers c.args.builder.now) (first_and_rest c.args.members.now c.first-item.result c.in-len1-up.len_at_least c.first-item.is) c.requires.members)).0

pub run_chain-requires : goal.run_chain-requires
run_chain-requires t c = (search rules, (c.in_ok-over.ensures.net, (members_kept _ _ _ _ c.in_ok-over.ensures.fills (one_net _ _ (member_parts c.args.builder.now c.first-item.result (take (length c.args.members.now - 1) (drop 1 c.args.members.now)) (subst (AreMembers c.args.builder.now) (first_and_rest c.args.members.now c.first-item.result c.in-len1-up.len_at_least c.first-item.is) c.requires.members)).1) (member_parts c.args.builder.now c.first-item.result (take (length c.args.members.now - 1) (drop 1 c.args.members.now)) (subst (AreMembers c.args.builder.now) (first_and_rest c.args.members.now c.first-item.result c.in-len1-up.len_at_least c.first-item.is) c.requires.members)).2, IsOne-stays _ _ _ c.in_ok-over.ensures.fills.grows (c.requires.one))))

pub returns-clause-fills : goal.returns-clause-fills
returns-clause-fills t c = subst (λ xs. Fills c.args.builder.now c.run_chain.new.builder (starts_of xs)) (sym (first_and_rest c.args.members.now c.first-item.result c.in-len1-up.len_at_least c.first-item.is)) (Fills-join _ _ _ (_ ∷ []) _ c.in_ok-over.ensures.fills c.in_ok-last.ensures.fills)

pub returns-clause-starts : goal.returns-clause-starts
returns-clause-starts t c = λ s r.
    let r0 = runs_earlier _ _ s c.in_ok-last.ensures.fills.grows r in
    subst (AreStarted s (is_on s c.args.cause)) (sym (first_and_rest c.args.members.now c.first-item.result c.in-len1-up.len_at_least c.first-item.is))
    (c.in_ok-over.ensures.starts s r0, subst (λ w. AreStarted s w (take (length c.args.members.now - 1) (drop 1 c.args.members.now))) (fun_ext (c.in_ok-over.ensures.over s r0)) (c.in_ok-last.ensures.starts s r))

pub returns-clause-over : goal.returns-clause-over
returns-clause-over t c = λ s r u.
    let r0 = runs_earlier _ _ s c.in_ok-last.ensures.fills.grows r in
    subst (λ xs. is_on s c.in_ok-last.last u ≡ chain_over s (is_on s c.args.cause) xs u) (sym (first_and_rest c.args.members.now c.first-item.result c.in-len1-up.len_at_least c.first-item.is))
    (c.in_ok-last.ensures.over s r u ∙ ap (λ w. chain_over s w (take (length c.args.members.now - 1) (drop 1 c.args.members.now)) u) (fun_ext (c.in_ok-over.ensures.over s r0)))
