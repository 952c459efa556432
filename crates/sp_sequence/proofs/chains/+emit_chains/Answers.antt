use Rattle.std.proofs.Common.{◌≡◌, ◌==◌, ◌&&◌, ◌-◌, [], length, take, drop, rules, sym, ap, ap₂, subst, ◌∙◌, arith}
use Rattle.std.proofs.lemmas.List.{append-nil}
use mathlib.Core.Path.{fun_ext}
use Rattle.sp_gates.specs.Grows.{Fills}
use Rattle.sp_gates.specs.Tested.{is_on}
use Rattle.sp_gates.proofs.Growing.{Fills-none, Fills-join, HasNet-stays, IsOne-stays}
use Rattle.sp_gates.proofs.Running.{runs_earlier}
use Rattle.sp_sequence.specs.Fits.{starts_of, chain_starts, AreMembers, AreChains}
use Rattle.sp_sequence.specs.Members.{AreStarted, chain_over}
use Rattle.sp_sequence.specs.Joins.{is_since, chains_over, ChainsStart}
use Rattle.sp_sequence.proofs.Cycles.{first_and_rest, empty}
use Rattle.sp_sequence.proofs.Waiting.{chains_kept, chain_parts, no_nets}
use Rattle.sp_sequence.proofs.chains.+emit_chains.Goals as goal

pub returns-in_default-clause-fills : goal.returns-in_default-clause-fills
returns-in_default-clause-fills t c = subst (λ xs. Fills c.args.builder.now c.args.builder.now (chain_starts xs)) (sym (empty c.args.chains.now (let l = c.in_default.len_below in omega (arith, l)))) (Fills-none _)

pub returns-in_default-clause-net : goal.returns-in_default-clause-net
returns-in_default-clause-net t c = c.requires.one.net_stands

pub returns-in_default-clause-starts : goal.returns-in_default-clause-starts
returns-in_default-clause-starts t c = λ s r. subst (ChainsStart s (is_on s c.args.first)) (sym (empty c.args.chains.now (let l = c.in_default.len_below in omega (arith, l)))) tt

pub returns-in_default-clause-over : goal.returns-in_default-clause-over
returns-in_default-clause-over t c = λ s r u. subst (λ xs. is_on s c.args.one u ≡ chains_over s (is_on s c.args.first) xs u) (sym (empty c.args.chains.now (let l = c.in_default.len_below in omega (arith, l)))) (ap (λ n. n == 1) (c.requires.one.always s r u))

pub run_chain-requires-clause-members : goal.run_chain-requires-clause-members
run_chain-requires-clause-members t c = subst (AreMembers c.args.builder.now) (sym c.deref.ensures.value) (chain_parts c.args.builder.now c.chain-item.result (take (length c.args.chains.now - 1) (drop 1 c.args.chains.now)) (subst (AreChains c.args.builder.now) (first_and_rest c.args.chains.now c.chain-item.result c.in-len1-up.len_at_least c.chain-item.is) c.requires.chains)).0

pub since-requires-clause-first : goal.since-requires-clause-first
since-requires-clause-first t c = HasNet-stays _ _ _ _ c.in_ok-over.ensures.fills.grows (c.requires.first)

pub since-requires-clause-one : goal.since-requires-clause-one
since-requires-clause-one t c = IsOne-stays _ _ _ c.in_ok-over.ensures.fills.grows (c.requires.one)

pub emit_chains-requires : goal.emit_chains-requires
emit_chains-requires t c = (search rules, (HasNet-stays _ _ _ _ c.in_ok-own.ensures.fills.grows (HasNet-stays _ _ _ _ c.in_ok-over.ensures.fills.grows (c.requires.first)), (chains_kept _ _ [] _ c.in_ok-own.ensures.fills (no_nets _) (chains_kept _ _ _ _ (subst (λ xs. Fills c.args.builder.now c.run_chain.new.builder (starts_of xs)) c.deref.ensures.value c.in_ok-over.ensures.fills) (chain_parts c.args.builder.now c.chain-item.result (take (length c.args.chains.now - 1) (drop 1 c.args.chains.now)) (subst (AreChains c.args.builder.now) (first_and_rest c.args.chains.now c.chain-item.result c.in-len1-up.len_at_least c.chain-item.is) c.requires.chains)).1 (chain_parts c.args.builder.now c.chain-item.result (take (length c.args.chains.now - 1) (drop 1 c.args.chains.now)) (subst (AreChains c.args.builder.now) (first_and_rest c.args.chains.now c.chain-item.result c.in-len1-up.len_at_least c.chain-item.is) c.requires.chains)).2), IsOne-stays _ _ _ c.in_ok-own.ensures.fills.grows (IsOne-stays _ _ _ c.in_ok-over.ensures.fills.grows (c.requires.one)))))

pub on_both-requires-clause-left : goal.on_both-requires-clause-left
on_both-requires-clause-left t c = HasNet-stays _ _ _ _ c.in_ok-others.ensures.fills.grows (c.in_ok-own.ensures.net)

pub returns-clause-fills : goal.returns-clause-fills
returns-clause-fills t c = subst (λ xs. Fills c.args.builder.now c.on_both.new.builder (chain_starts xs)) (sym (first_and_rest c.args.chains.now c.chain-item.result c.in-len1-up.len_at_least c.chain-item.is))
    (Fills-join _ _ _ (starts_of c.chain-item.result.members.items) (chain_starts (take (length c.args.chains.now - 1) (drop 1 c.args.chains.now))) (subst (λ xs. Fills c.args.builder.now c.run_chain.new.builder (starts_of xs)) c.deref.ensures.value c.in_ok-over.ensures.fills) (Fills-join _ _ _ [] (chain_starts (take (length c.args.chains.now - 1) (drop 1 c.args.chains.now))) c.in_ok-own.ensures.fills
    (subst (Fills c.since.new.builder c.on_both.new.builder) (append-nil (chain_starts (take (length c.args.chains.now - 1) (drop 1 c.args.chains.now)))) (Fills-join _ _ _ (chain_starts (take (length c.args.chains.now - 1) (drop 1 c.args.chains.now))) [] c.in_ok-others.ensures.fills c.in_ok-all.ensures.fills))))

pub returns-clause-starts : goal.returns-clause-starts
returns-clause-starts t c = λ s r.
    let r_others = runs_earlier _ _ s c.in_ok-all.ensures.fills.grows r in
    let r_own = runs_earlier _ _ s c.in_ok-others.ensures.fills.grows r_others in
    let r_over = runs_earlier _ _ s c.in_ok-own.ensures.fills.grows r_own in
    subst (ChainsStart s (is_on s c.args.first)) (sym (first_and_rest c.args.chains.now c.chain-item.result c.in-len1-up.len_at_least c.chain-item.is))
    (subst (AreStarted s (is_on s c.args.first)) c.deref.ensures.value (c.in_ok-over.ensures.starts s r_over), c.in_ok-others.ensures.starts s r_others)

pub returns-clause-over : goal.returns-clause-over
returns-clause-over t c = λ s r u.
    let r_others = runs_earlier _ _ s c.in_ok-all.ensures.fills.grows r in
    let r_own = runs_earlier _ _ s c.in_ok-others.ensures.fills.grows r_others in
    let r_over = runs_earlier _ _ s c.in_ok-own.ensures.fills.grows r_own in
    subst (λ xs. is_on s c.in_ok-all.all u ≡ chains_over s (is_on s c.args.first) xs u) (sym (first_and_rest c.args.chains.now c.chain-item.result c.in-len1-up.len_at_least c.chain-item.is))
    (c.in_ok-all.ensures.on s r u
    ∙ ap₂ (λ a b. a && b)
    (c.in_ok-own.ensures.since s r_own u ∙ ap (λ w. is_since (is_on s c.args.first) w u) (fun_ext (c.in_ok-over.ensures.over s r_over) ∙ ap (chain_over s (is_on s c.args.first)) c.deref.ensures.value))
    (c.in_ok-others.ensures.over s r_others u))
