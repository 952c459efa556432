use Rattle.std.proofs.Common.{[], subst}
use Rattle.std.proofs.lemmas.Bool.{lt-ltb}
use Rattle.sp_core.specs.Around.{nothing}
use Rattle.sp_core.specs.Declarations.{mem}
use Rattle.sp_tree_handed.specs.Lists.{lists_in}
use Rattle.sp_tree_handed.specs.Scalars.{IsInBanks}
use Rattle.sp_tree_accesses.proofs.Allowed.{of_core, own_kind}
use Rattle.sp_tree_accesses.proofs.Going.{lists_go}
use Rattle.sp_tree_accesses.proofs.Rules.{lists_right}
use Rattle.sp_tree_accesses.proofs.Told.{told, early_reads, banks_wait}
use Rattle.sp_tree_accesses.proofs.laws.accesses_act.Goals as goal

pub returns : goal.returns
returns c core plan delays s events t qs env child w copy acted accesses tree handed acts a there =
    let own = of_core core copy c.rules_name_memories.ensures c.each_is_of_operation.ensures acted accesses tree a there in
    let late = told core copy c.rules_name_memories.ensures tree.draft plan delays s events t c.each_is_of_operation.ensures (lists_in core.root 0) acted accesses tree.all (lists_right core core.root nothing [] 0 tree.right.nodes) tree.stand
    (lists_go core plan delays s events t core.root [] env 0 0 qs child w acted handed acts) a there in
    record {
      of_core = own;
      acts = λ other. late (λ around touches early. other (early_reads core around a.kind (mem core a.mem).kind touches early));
      in_banks = λ banks. late (λ around. banks_wait core around a.kind (mem core a.mem).kind (subst IsInBanks (own_kind core a.mem (lt-ltb a.mem _ own.on_chip)) banks));
    }
