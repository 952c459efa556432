-- What a walk over a whole core has found.
use mathlib.Core.Path.{fun_ext}
use Rattle.std.proofs.Common.{◌≡◌, ℕ, List, [], ◌++◌, All, sym, ap, subst, ◌∙◌, arith}
use Rattle.std.proofs.lemmas.List.{append-nil}
use Rattle.std.specs.List.{AllZip}
use Rattle.sp_netlist.specs.Draft.{Draft}
use Rattle.sp_netlist.specs.Signals.{Signals}
use Rattle.sp_gates.specs.Grows.{Grows}
use Rattle.sp_core.specs.Around.{nothing}
use Rattle.sp_core.specs.Invariant.{IsCore}
use Rattle.sp_core.specs.PlainCore.{PlainNode, PlainCore}
use Rattle.sp_plan.specs.PlainPlan.{PlainPlan}
use Rattle.sp_mem.specs.Fits.{CopyFits}
use Rattle.sp_tree_events.specs.CopiesStanding.{CopyNets, no_numbers}
use Rattle.sp_copy_nets.specs.Numbers.{StandNumbers}
use Rattle.sp_tree_handed.specs.declared.owners.Keeping.{Keeping}
use Rattle.sp_tree_handed.specs.declared.owners.LoopTurns.{LoopTurns}
use Rattle.sp_tree_handed.specs.declared.owners.Renewal.{Renewal}
use Rattle.sp_tree_handed.specs.Standing.{AreTurnsStanding, AreOwnersStanding}
use Rattle.sp_tree_handed.proofs.Owning.{turns_later}
use Rattle.sp_tree_nets.specs.Whole.{HasTreePlan}
use Rattle.sp_tree_copies.specs.declared.numbers.LoopCopies.{LoopCopies}
use Rattle.sp_tree_copies.specs.declared.walk.Walk.{Walk}
use Rattle.sp_tree_copies.specs.Loops.{HasCopies, CopiesStand}
use Rattle.sp_tree_copies.specs.Naming.{AreNamed, NamesCore}
use Rattle.sp_tree_copies.specs.Walks.{IsNext, WalksNode, AllStand, WalkStands}
use Rattle.sp_tree_copies.proofs.Owned.{owned_within}

pub all_stand : (a b : Draft) (core : PlainCore) (turns : List LoopTurns) (kept : List Keeping) (loops : List LoopCopies) → Grows a b → AreTurnsStanding a core turns kept → All (CopiesStand b) loops → AllStand core turns kept loops b
all_stand a b core turns kept loops g handed copies = record { handed = turns_later a b core turns kept g handed; copies = copies }

-- at first nothing is found
pub none_stand : (d : Draft) (core : PlainCore) (a : Walk) → a.names.items ≡ [] → a.renewed.items ≡ [] → a.kept.items ≡ [] → WalkStands d core a
none_stand d core a names renewed kept = record {
  names = subst (StandNumbers d) (sym names) (λ net k. absurd (let l = k.1 in omega (arith, l)));
  owners = subst (λ rs. AreOwnersStanding d core rs a.kept.items) (sym renewed) (subst (AreOwnersStanding d core []) (sym kept) (record { renewed = λ k r lt. absurd (omega (arith, lt)); kept = λ k r lt. absurd (omega (arith, lt)) }));
  renewed = subst (All (λ (r : Renewal). CopyFits d r.copy)) (sym renewed) (λ k r lt. absurd (omega (arith, lt)));
  kept = subst (All (λ (k : Keeping). CopyFits d k.copy)) (sym kept) (λ k r lt. absurd (omega (arith, lt)));
}

pub names_core : (core : PlainCore) (plan : PlainPlan) (turns : List LoopTurns) (kept : List Keeping) (loops : List LoopCopies) (node : PlainNode) (around : CopyNets) (a b : Walk) → node ≡ core.root → a.names.items ≡ [] → a.renewed.items ≡ [] → a.kept.items ≡ [] → a.loops ≡ 0 → a.states ≡ 0 → ((m : ℕ) → around m ≡ no_numbers m)
    → IsCore core → HasTreePlan core plan → WalksNode core plan turns kept loops node 0 around a b → (s : Signals) → AllZip (HasCopies plan s) turns loops → NamesCore core plan s turns kept b.names.items b.renewed.items b.kept.items
names_core core plan turns kept loops node around a b is names renewed kept_none loop state bare core_is h walks s zips have env c w turn =
    let all : WalksNode core plan turns kept loops core.root 0 no_numbers a b = subst (λ v. WalksNode core plan turns kept loops core.root 0 v a b) (fun_ext bare) (subst (λ v. WalksNode core plan turns kept loops v 0 around a b) is walks) in
    let next : IsNext turns kept turns kept a = record {
      passed = [];
      rest = [];
      passed_kept = [];
      rest_kept = [];
      turns_are = sym (append-nil turns);
      kept_are = sym (append-nil kept);
      loop = loop;
      state = state;
    } in
    let x = all (let e = h.valid.nodes in omega (arith, e)) (λ m own. have m (owned_within core nothing [] core.root core_is.nodes m own)) s zips [] env c w turns kept next turn in
    let ns = x.adds.names_are ∙ ap (λ l. l ++ x.names) names in
    let rs = x.adds.renewed_are ∙ ap (λ l. l ++ x.renewed) renewed in
    let ks = x.adds.kept_are ∙ ap (λ l. l ++ x.kept) kept_none in
    subst (λ v. AreNamed core plan s core.root [] env 0 c w no_numbers v b.renewed.items b.kept.items) (sym ns)
    (subst (λ v. AreNamed core plan s core.root [] env 0 c w no_numbers x.names v b.kept.items) (sym rs) (subst (λ v. AreNamed core plan s core.root [] env 0 c w no_numbers x.names x.renewed v) (sym ks) x.named))
