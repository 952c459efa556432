-- Two events of a run at one loop are as many groups apart as their groups are.
use Rattle.std.proofs.Common.{◌≡◌, ℕ, ◌-◌, ◌≤◌, Bool, List, [], ◌∷◌, arith}
use Rattle.std.proofs.lemmas.List.Elements.{All-head, All-tail}
use Rattle.sp_core.specs.Events.{Standing, Moment, touches, slices, renews, keeps, core_moments}
use Rattle.sp_core.specs.History.{History}
use Rattle.sp_core.specs.Meeting.{in_loop, together}
use Rattle.sp_core.specs.PlainCore.{PlainCore}
use Rattle.sp_core.specs.Scope.{Reading}
use Rattle.sp_along.proofs.MetGroupOrder.{groups_go_on}
use Rattle.sp_along.proofs.MetPathOrder.{runs_ordered, groups_follow}
use Rattle.sp_along.proofs.MetTogether.{together_at_loop}
use Rattle.sp_along.proofs.MetTraces.{AllStand, none, more, runs_traced}
use Rattle.sp_along.specs.MetApart.{AreApart}
use Rattle.sp_along.specs.MetOrder.{AreInOrder, EachTwo}
use Rattle.sp_along.specs.MetTraces.{loops_in, IsTraced, Stands}

module _ (P Q T : Standing → Type 0) (f : (s : Standing) → P s → Q s → T s) where
  stands_so : (m : Moment) → Stands P m → Stands Q m → Stands T m
  stands_so (touches e) p q = f e.standing p q
  stands_so (slices s) p q = f s.standing p q
  stands_so (renews x) p q = tt
  stands_so (keeps x w) p q = tt

  all_so : (ms : List Moment) → AllStand P ms → AllStand Q ms → AllStand T ms
  all_so [] h k = none T
  all_so (m ∷ ms) h k = more T m ms (stands_so m (All-head (Stands P) m ms h) (All-head (Stands Q) m ms k)) (all_so ms (All-tail (Stands P) m ms h) (All-tail (Stands Q) m ms k))

each_so : (P : Standing → Type 0) (R S : Standing → Standing → Type 0) → ((s t : Standing) → P s → P t → R s t → S s t) → (ms : List Moment) → AllStand P ms → EachTwo R ms → EachTwo S ms
each_so P R S f [] h k = tt
each_so P R S f (m ∷ ms) h k = (first m (All-head (Stands P) m ms h) k.0, each_so P R S f ms (All-tail (Stands P) m ms h) k.1)
  where
    first : (x : Moment) → Stands P x → Stands (λ s. AllStand (R s) ms) x → Stands (λ s. AllStand (S s) ms) x
    first (touches e) p a = all_so P (R e.standing) (S e.standing) (λ t q r. f e.standing t p q r) ms (All-tail (Stands P) m ms h) a
    first (slices s) p a = all_so P (R s.standing) (S s.standing) (λ t q r. f s.standing t p q r) ms (All-tail (Stands P) m ms h) a
    first (renews x) p a = tt
    first (keeps x w) p a = tt

pub runs_apart : (core : PlainCore) (reading : Reading) (h : History) →
    EachTwo (λ s t. (node g i : ℕ) (one_stage : Bool) → together core s.path t.path ≡ in_loop node g i one_stage → AreApart (loops_in reading core.root h) s.path t.path s.counters t.counters node g i one_stage) (core_moments core reading h)
runs_apart core reading h =
    each_so (λ s. IsTraced (loops_in reading core.root h) s.path s.counters) (λ s t. AreInOrder s.path t.path)
    (λ s t. (node g i : ℕ) (one_stage : Bool) → together core s.path t.path ≡ in_loop node g i one_stage → AreApart (loops_in reading core.root h) s.path t.path s.counters t.counters node g i one_stage)
    (λ s t p q r node g i one e. two s t p q r node g i one e) _ (runs_traced core reading h) (runs_ordered core reading h)
  where
    two : (s t : Standing) → IsTraced (loops_in reading core.root h) s.path s.counters → IsTraced (loops_in reading core.root h) t.path t.counters → AreInOrder s.path t.path →
        (node g i : ℕ) (one : Bool) → together core s.path t.path ≡ in_loop node g i one → AreApart (loops_in reading core.root h) s.path t.path s.counters t.counters node g i one
    two s t p q r node g i one e =
        let at = together_at_loop core (loops_in reading core.root h) s.path t.path s.counters t.counters node g i one p q e in
        let order : g ≤ i = groups_follow core s.path t.path node g i one r e in
        record {
          at_loop = at;
          in_order = order;
          apart = λ ranges steps. groups_go_on ranges (loops_in reading core.root h at.around) g (i - g) i steps (omega (arith, order)) at.second_group;
        }
