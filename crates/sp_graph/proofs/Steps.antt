-- The search's state after its steps, as the steps' contracts say it.
use Rattle.std.proofs.Common.{◌≡◌, ◌≢◌, ℕ, ◌-◌, ◌<◌, ◌≤◌, ◌⊎◌, cond, List, [], ◌∷◌, ◌++◌, length, min, set, get_or, reverse, Result, Ok, Err, OnOk, Ordering, Less, Equal, Greater, subst, sym, ap, refl, ◌∙◌, inl, inr, arith}
use Rattle.std.specs.Prelude.{slice_index}
use Rattle.std.specs.Ordering.{ord_min, nat_cmp, is_lt}
use Rattle.std.specs.Cmp.{nat_cmp_is}
use Rattle.std.proofs.lemmas.Bool.{cases_lt, cases_order}
use Rattle.std.proofs.lemmas.List.{reverse-append, length_push, get_or_at, set_at, get_or_read, get_or_default}
use Rattle.std.proofs.lemmas.List.Elements.{Contains-get_or}
use Rattle.sp_graph.specs.declared.search.Mark.{Mark}
use Rattle.sp_graph.specs.declared.search.Mark.TheVariants.{Unseen, OnStack}
use Rattle.sp_graph.specs.declared.search.Visit.{Visit}
use Rattle.sp_graph.specs.Edges.{targets_of, IsEdge, IsGraph, Path}
use Rattle.sp_graph.specs.Edges.Path.{no_edge, one_edge_more}
use Rattle.sp_graph.specs.Search.{mark_of, IsSeenFrom, IsSearch, AreMarked, SeenStays, entered, work_left}
use Rattle.sp_graph.proofs.Entering.{enter_root, enter_target, less_work_left}
use Rattle.sp_graph.proofs.Marks.{marked_is_node, seen_from_stack, mark_of-entered, SeenStays-entering}
use Rattle.sp_graph.proofs.Looking.{lowered, looked_further, look, lower_parent, first_is_lowest}

pub reverse_push : {X : Type 0} (xs : List X) (x : X) → reverse (xs ++ x ∷ []) ≡ x ∷ reverse xs
reverse_push xs x = reverse-append xs (x ∷ [])

-- a list after one push, with its last element first
pub reversed : {X : Type 0} (old new : List X) (x : X) → new ≡ old ++ x ∷ [] → reverse new ≡ x ∷ reverse old
reversed old new x e = ap reverse e ∙ reverse_push old x

-- a list is empty or has a last element
last_of : {X : Type 0} (xs : List X) → (xs ≡ []) ⊎ ((front : List X) × (last : X) × (xs ≡ front ++ last ∷ []))
last_of [] = inl refl
last_of (x ∷ xs) =
    elim (last_of xs) [
      | inl e ↦ inr ([], x, ap (λ ys. x ∷ ys) e)
      | inr l ↦ inr (x ∷ l.0, l.1, ap (λ ys. x ∷ ys) l.2)
    ]

min_by : (a b : ℕ) (o : Ordering) → o ≡ nat_cmp b a → cond (is_lt o) b a ≡ min a b → ord_min nat_cmp a b ≡ min a b
min_by a b o e h = subst (λ x. cond (is_lt x) b a ≡ min a b) e h

pub ord_min-is : (a b : ℕ) → ord_min nat_cmp a b ≡ min a b
ord_min-is a b =
    elim (cases_order b a) [
      | inl same ↦ min_by a b Equal (nat_cmp_is b a Equal same) (omega arith)
      | inr other ↦ elim other [
        | inl less ↦ min_by a b Less (nat_cmp_is b a Less less) (omega arith)
        | inr more ↦ min_by a b Greater (nat_cmp_is b a Greater more) (omega arith)
      ]
    ]

-- the last visit of a path is lowered
pub set_last : (path visits : List Visit) (visit read : Visit) (len low lowest : ℕ) → path ≡ visits ++ visit ∷ [] → len ≡ length path → read ≡ get_or path (len - 1) read → lowest ≡ ord_min nat_cmp read.low low → set path (len - 1) (lowered read lowest) ≡ visits ++ lowered visit (min visit.low low) ∷ []
set_last path visits visit read len low lowest e l r m =
    let at : length visits ≡ len - 1 = omega (arith, length_push visits visit, ap length e)
    in let is : read ≡ visit = r ∙ ap (λ xs. get_or xs (len - 1) read) e ∙ get_or_at visits visit [] read (len - 1) at
    in let lowest_is : lowest ≡ min visit.low low = m ∙ ord_min-is read.low low ∙ ap (λ v. min v.low low) is
    in ap (λ xs. set xs (len - 1) (lowered read lowest)) e ∙ set_at visits visit [] (lowered read lowest) (len - 1) at ∙ ap (λ v. visits ++ v ∷ []) (ap (λ v. lowered v lowest) is ∙ ap (λ k. lowered visit k) lowest_is)

pub IsSearch-at : (graph : List (List ℕ)) {marks marks' : List Mark} {stack stack' : List ℕ} {visits visits' : List Visit} {count count' : ℕ} → marks ≡ marks' → stack ≡ stack' → visits ≡ visits' → count ≡ count' → IsSearch graph marks' stack' visits' count' → IsSearch graph marks stack visits count
IsSearch-at graph {marks} {marks'} {stack} {stack'} {visits} {visits'} {count} {count'} m s v c h =
    subst (λ x. IsSearch graph x stack visits count) (sym m) (subst (λ x. IsSearch graph marks' x visits count) (sym s) (subst (λ x. IsSearch graph marks' stack' x count) (sym v) (subst (λ x. IsSearch graph marks' stack' visits' x) (sym c) h)))

pub less_at : (graph : List (List ℕ)) (limit : ℕ) {marks marks' : List Mark} {visits visits' : List Visit} → marks ≡ marks' → visits ≡ visits' → work_left graph marks' visits' < limit → work_left graph marks visits < limit
less_at graph limit {marks} {marks'} {visits} {visits'} m v h =
    subst (λ x. work_left graph x visits < limit) (sym m) (subst (λ x. work_left graph marks' x < limit) (sym v) h)

-- what follows after success from four facts that hold then
pub OnOk-from_four : {T E A B C D P : Type 0} (r : Result T E) → OnOk r A → OnOk r B → OnOk r C → OnOk r D → (A → B → C → D → P) → OnOk r P
OnOk-from_four (Ok _) a b c d f = f a b c d
OnOk-from_four (Err _) a b c d f = tt

-- what stands on the stack is a node
pub stack_node : (graph : List (List ℕ)) (marks : List Mark) (stack : List ℕ) (count : ℕ) → AreMarked graph marks stack count → (k d : ℕ) → k < length stack → get_or stack k d < length marks
stack_node graph marks stack count marked k d h =
    subst (λ n. n < length marks) (get_or_default stack k 0 d h) (marked_is_node marks (slice_index stack k) (seen_from_stack marks _ k (marked.on_stack k h)))

-- the mark of a node, as it was read
pub mark_read : (marks : List Mark) (node : ℕ) (mark known : Mark) → node < length marks → mark ≡ get_or marks node mark → mark ≡ known → mark_of marks node ≡ known
mark_read marks node mark known h r e = sym (get_or_read marks node mark h r Unseen) ∙ e

-- the next target of a visit
pub record IsNextTarget (graph : List (List ℕ)) (marks : List Mark) (visit : Visit) (target : ℕ) : Type 0 where
  pub at : slice_index (targets_of graph visit.node) visit.next ≡ target
  pub edge : IsEdge graph visit.node target
  pub inside : target < length marks

pub next_target : (graph : List (List ℕ)) (marks : List Mark) (visit : Visit) (targets : List ℕ) → IsGraph graph → length marks ≡ length graph → targets ≡ targets_of graph visit.node → visit.next < length (targets_of graph visit.node) → IsNextTarget graph marks visit (get_or targets visit.next 0)
next_target graph marks visit targets good each e h =
    let at : slice_index (targets_of graph visit.node) visit.next ≡ get_or targets visit.next 0 = ap (λ ts. get_or ts visit.next 0) (sym e)
    in let edge : IsEdge graph visit.node (get_or targets visit.next 0) = subst (λ n. IsEdge graph visit.node n) at (Contains-get_or (targets_of graph visit.node) visit.next 0 h)
    in record { at = at; edge = edge; inside = subst (λ n. get_or targets visit.next 0 < n) (sym each) (good.leads_to_node visit.node _ edge) }

-- a target that stands on the stack is looked at
pub look_on_stack : (graph : List (List ℕ)) (marks : List Mark) (stack : List ℕ) (count : ℕ) (visit : Visit) (visits : List Visit) (target place low : ℕ) → IsSearch graph marks stack (visit ∷ visits) count → visit.next < length (targets_of graph visit.node) → IsNextTarget graph marks visit target → mark_of marks target ≡ OnStack place → low ≡ ord_min nat_cmp visit.low place → IsSearch graph marks stack (looked_further visit low ∷ visits) count
look_on_stack graph marks stack count visit visits target place low s next t on e =
    let is : low ≡ min visit.low place = e ∙ ord_min-is visit.low place
    in let below : low ≤ visit.low = omega arith
    in let under : low ≤ place = omega arith
    in look graph marks stack count visit visits low target s next t.at below
    (subst (λ m. IsSeenFrom low m) (sym on) under)
    (elim (cases_lt place visit.low) [
      | inl lt ↦
          let same : place ≡ low = omega arith
          in subst (λ k. Path graph visit.node (slice_index stack k)) same
          (subst (λ n. Path graph visit.node n) (sym (s.marked.placed target place on).1) (one_edge_more t.edge no_edge))
      | inr ge ↦ let same : visit.low ≡ low = omega arith in subst (λ k. Path graph visit.node (slice_index stack k)) same s.divided.0.to_low
    ])

-- the search came to the next target of a visit
module _ {T E : Type 0} (r : Result T E) (graph : List (List ℕ)) (marks marks' : List Mark) (stack stack' : List ℕ) (path mid path' : List Visit) (count count' : ℕ) (visit : Visit) (target : ℕ) (m : OnOk r (marks' ≡ set marks target (OnStack (length stack)))) (st : OnOk r (stack' ≡ stack ++ target ∷ [])) (p : OnOk r (path' ≡ mid ++ entered target (length stack) ∷ [])) (n : OnOk r (count' ≡ count)) (pushed : mid ≡ path ++ visit ∷ []) (s : IsSearch graph marks stack (visit ∷ reverse path) count) (fresh : mark_of marks target ≡ Unseen) (t : IsNextTarget graph marks visit target) where
  path_now : path' ≡ mid ++ entered target (length stack) ∷ [] → reverse path' ≡ entered target (length stack) ∷ (visit ∷ reverse path)
  path_now e = reversed mid path' _ e ∙ ap (λ vs. entered target (length stack) ∷ vs) (reversed path mid visit pushed)

  pub after_enter : OnOk r (IsSearch graph marks' stack' (reverse path') count')
  after_enter =
      OnOk-from_four r m st p n
      (λ a b c d. IsSearch-at graph a b (path_now c) d (enter_target graph marks stack count target s.marked fresh t.inside visit (reverse path) s.divided t.edge))

  pub less_after_enter : OnOk r (work_left graph marks' (reverse path') < work_left graph marks (visit ∷ reverse path))
  less_after_enter =
      OnOk-from_four r m st p n
      (λ a b c d. less_at graph (work_left graph marks (visit ∷ reverse path)) a (path_now c) (less_work_left graph marks stack count target s.marked fresh t.inside (visit ∷ reverse path)))

-- the search came to a root
module _ (graph : List (List ℕ)) (marks marks' : List Mark) (stack stack' : List ℕ) (path path' : List Visit) (count count' root : ℕ) (m : marks' ≡ set marks root (OnStack (length stack))) (inside : root < length marks) (fresh : mark_of marks root ≡ Unseen) where
  pub after_enter_root : stack' ≡ stack ++ root ∷ [] → path' ≡ path ++ entered root (length stack) ∷ [] → count' ≡ count → path ≡ [] → IsSearch graph marks stack [] count → IsSearch graph marks' stack' (reverse path') count'
  after_enter_root st p n none s =
      IsSearch-at graph m st (reversed path path' _ p ∙ ap (λ vs. entered root (length stack) ∷ reverse vs) none) n (enter_root graph marks stack count root s.marked fresh inside s.divided)

  pub seen_after_enter_root : SeenStays marks marks'
  seen_after_enter_root = subst (λ ms. SeenStays marks ms) (sym m) (SeenStays-entering marks root (length stack) fresh inside)

  pub root_seen : mark_of marks' root ≢ Unseen
  root_seen e = let on : mark_of marks' root ≡ OnStack (length stack) = ap (λ ms. mark_of ms root) m ∙ mark_of-entered marks root (length stack) fresh inside in cc

-- a visit other than the first is left, and the one before it on the path lowered
module _ (graph : List (List ℕ)) (marks : List Mark) (stack : List ℕ) (count : ℕ) (visit : Visit) (path after : List Visit) (s : IsSearch graph marks stack (visit ∷ reverse path) count) (ended : length (targets_of graph visit.node) ≤ visit.next) (lower : visit.low ≢ visit.place) (says : (visits : List Visit) (parent : Visit) → path ≡ visits ++ parent ∷ [] → after ≡ visits ++ lowered parent (min parent.low visit.low) ∷ []) where
  pub after_lower : IsSearch graph marks stack (reverse after) count × (work_left graph marks (reverse after) < work_left graph marks (visit ∷ reverse path))
  after_lower =
      elim (last_of path) [
        | inl none ↦ absurd (first_is_lowest graph marks stack count visit (subst (λ vs. IsSearch graph marks stack (visit ∷ reverse vs) count) none s) lower)
        | inr l ↦
            let is : reverse path ≡ l.1 ∷ reverse l.0 = reversed l.0 path l.1 l.2
            in let now : reverse after ≡ lowered l.1 (min l.1.low visit.low) ∷ reverse l.0 = reversed l.0 after _ (says l.0 l.1 l.2)
            in (
              subst (λ vs. IsSearch graph marks stack vs count) (sym now) (lower_parent graph marks stack count visit l.1 (reverse l.0) (subst (λ vs. IsSearch graph marks stack (visit ∷ vs) count) is s) ended lower),
              subst (λ vs. work_left graph marks vs < work_left graph marks (visit ∷ reverse path)) (sym now) (subst (λ vs. work_left graph marks (lowered l.1 (min l.1.low visit.low) ∷ reverse l.0) < work_left graph marks (visit ∷ vs)) (sym is) (omega arith)),
            )
      ]
