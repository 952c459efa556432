-- What a tree hands on of its owners, by nets that stand.
use Rattle.std.proofs.Common.{◌≡◌, ℕ, zero, suc, ◌<◌, List, [], ◌∷◌, ◌++◌, length, slice_index_or, All, None, sym, subst, arith}
use Rattle.std.proofs.lemmas.Grind.{get_or_default_zero}
use Rattle.sp_words.specs.declared.types.Ty.{Ty}
use Rattle.sp_words.specs.Types.{width_of}
use Rattle.sp_netlist.specs.Draft.{Draft}
use Rattle.sp_gates.specs.Grows.{Grows}
use Rattle.sp_gates.specs.Nets.{HasNet}
use Rattle.sp_gates.proofs.Growing.{Grows-join, HasNet-stays}
use Rattle.sp_core.specs.Declarations.{mem}
use Rattle.sp_core.specs.PlainCore.{PlainCore}
use Rattle.sp_loop_nets.specs.declared.opening.OpenLoop.{OpenLoop}
use Rattle.sp_stage_members.specs.declared.part.StagePart.{StagePart}
use Rattle.sp_loop_circuits.specs.Loops.{IsClosed}
use Rattle.sp_tree_handed.specs.declared.owners.Keeping.{Keeping}
use Rattle.sp_tree_handed.specs.declared.owners.LoopTurns.{LoopTurns}
use Rattle.sp_tree_handed.specs.Owners.{keeping}
use Rattle.sp_tree_handed.specs.Standing.{KeepingStands, TurnsStand, AreTurnsStanding}
use Rattle.sp_tree_handed.proofs.Owning.{no_turns_stand, turns_join, turns_later}

-- the nets by which a loop that is closed turns
pub own_stands : (d : Draft) (core : PlainCore) (begun : OpenLoop) (parts : List StagePart) (places : List (List (List ℕ))) (firsts : List ℕ) (done : ℕ) → IsClosed d begun parts places firsts done
    → (own : LoopTurns) → HasNet d own.start 1 → own.firsts.items ≡ firsts → AreTurnsStanding d core (own ∷ []) []
own_stands d core begun parts places firsts done closed own start firsts_are = record { turn = mine; kept = λ k x lt. absurd (omega (arith, lt)) }
  where
    each : (i x : ℕ) → i < length firsts → HasNet d (slice_index_or firsts i x) 1
    each i x lt = subst (λ net. HasNet d net 1) (sym (get_or_default_zero firsts i x lt)) (closed.begin.nets i (let e = closed.begin.each in omega (arith, lt, e)))

    mine : (k : ℕ) (x : LoopTurns) → k < 1 → TurnsStand d (slice_index_or (own ∷ []) k x)
    mine zero x lt = record { start = start; firsts = subst (All (λ net. HasNet d net 1)) (sym firsts_are) each }
    mine (suc k) x lt = absurd (omega (arith, lt))

-- the nets by which an FSM keeps its state
pub keepings_stand : (b d e : Draft) (core : PlainCore) (state : ℕ) (ty : Ty) (first begun next stepped : ℕ) → ty ≡ (mem core state).ty → Grows b d → Grows d e → HasNet b first 1 → HasNet b begun (width_of ty) → HasNet d next 1
    → HasNet d stepped (width_of ty) → AreTurnsStanding e core [] (keeping state first begun None ∷ keeping state next stepped None ∷ [])
keepings_stand b d e core state ty first begun next stepped is g h first_net begun_net next_net stepped_net = record { turn = λ k x lt. absurd (omega (arith, lt)); kept = both }
  where
    one : KeepingStands e core (keeping state first begun None)
    one = record {
      done = HasNet-stays b e first 1 (Grows-join b d e g h) first_net;
      word = subst (λ (t : Ty). HasNet e begun (width_of t)) is (HasNet-stays b e begun (width_of ty) (Grows-join b d e g h) begun_net);
    }

    two : KeepingStands e core (keeping state next stepped None)
    two = record { done = HasNet-stays d e next 1 h next_net; word = subst (λ (t : Ty). HasNet e stepped (width_of t)) is (HasNet-stays d e stepped (width_of ty) h stepped_net) }

    both : (k : ℕ) (x : Keeping) → k < 2 → KeepingStands e core (slice_index_or (keeping state first begun None ∷ keeping state next stepped None ∷ []) k x)
    both zero x lt = one
    both (suc zero) x lt = two
    both (suc (suc k)) x lt = absurd (omega (arith, lt))

pub none_stand : (d : Draft) (core : PlainCore) (turns : List LoopTurns) (kept : List Keeping) → turns ≡ [] → kept ≡ [] → AreTurnsStanding d core turns kept
none_stand d core turns kept turns_is kept_is = subst (λ v. AreTurnsStanding d core v kept) (sym turns_is) (subst (λ v. AreTurnsStanding d core [] v) (sym kept_is) (no_turns_stand d core))

-- those of a branch
pub branch_owners_stand : (c d e : Draft) (core : PlainCore) (rs ss turns : List LoopTurns) (ps qs kept : List Keeping) → turns ≡ rs ++ ss → kept ≡ ps ++ qs → Grows c d → Grows d e → AreTurnsStanding c core rs ps → AreTurnsStanding d core ss qs
    → AreTurnsStanding e core turns kept
branch_owners_stand c d e core rs ss turns ps qs kept turns_is kept_is i j one other =
    subst (λ v. AreTurnsStanding e core v kept) (sym turns_is)
    (subst (λ v. AreTurnsStanding e core (rs ++ ss) v) (sym kept_is) (turns_join e core rs ss ps qs (turns_later c e core rs ps (Grows-join c d e i j) one) (turns_later d e core ss qs j other)))

-- those of an FSM
pub machine_owners_stand : (b c d e : Draft) (core : PlainCore) (state : ℕ) (ty : Ty) (first begun next stepped : ℕ) (rs turns : List LoopTurns) (ps kept : List Keeping) → turns ≡ rs
    → kept ≡ (keeping state first begun None ∷ keeping state next stepped None ∷ []) ++ ps → ty ≡ (mem core state).ty → Grows b c → Grows c d → Grows d e → HasNet b first 1 → HasNet b begun (width_of ty) → HasNet d next 1 → HasNet d stepped (width_of ty)
    → AreTurnsStanding c core rs ps → AreTurnsStanding e core turns kept
machine_owners_stand b c d e core state ty first begun next stepped rs turns ps kept turns_is kept_is is h i j first_net begun_net next_net stepped_net body =
    subst (λ v. AreTurnsStanding e core v kept) (sym turns_is)
    (subst (λ v. AreTurnsStanding e core rs v) (sym kept_is)
    (turns_join e core [] rs (keeping state first begun None ∷ keeping state next stepped None ∷ []) ps (keepings_stand b d e core state ty first begun next stepped is (Grows-join b c d h i) j first_net begun_net next_net stepped_net)
    (turns_later c e core rs ps (Grows-join c d e i j) body)))

-- those of a loop
pub loop_owners_stand : (c d : Draft) (core : PlainCore) (own rs turns : List LoopTurns) (ks kept : List Keeping) → turns ≡ own ++ rs → kept ≡ ks → Grows c d → AreTurnsStanding d core own [] → AreTurnsStanding c core rs ks
    → AreTurnsStanding d core turns kept
loop_owners_stand c d core own rs turns ks kept turns_is kept_is g mine inside =
    subst (λ v. AreTurnsStanding d core v kept) (sym turns_is) (subst (λ v. AreTurnsStanding d core (own ++ rs) v) (sym kept_is) (turns_join d core own rs [] ks mine (turns_later c d core rs ks g inside)))
