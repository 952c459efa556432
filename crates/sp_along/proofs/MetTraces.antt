-- What happens in a run stands in groups of the loops around it.
use Rattle.std.proofs.Common.{◌≡◌, ℕ, suc, ◌+◌, ◌<◌, Bool, true, false, ℤ, List, [], ◌∷◌, ◌++◌, length, map, flat_map, get_or, append_assoc, Option, Some, None, arith, refl, sym, ap, ◌∙◌, subst}
use Rattle.std.proofs.lemmas.List.Elements.{All-nil, All-cons, All-head, All-tail, All-append}
use Rattle.std.proofs.Math.Seq.{get_or-append_seam}
use Rattle.std.specs.List.{All}
use Rattle.sp_words.specs.declared.kind.Kind.{Kind}
use Rattle.sp_words.specs.declared.kind.Kind.TheVariants.{Reg, Sram, Fifo, LineBuf, Dram, ArgIn, ArgOut}
use Rattle.sp_core.specs.declared.node.SparseKind.TheVariants.{Gather, Scatter, WideLoad, WideStore}
use Rattle.sp_core.specs.declared.operation.OpKind.{OpKind}
use Rattle.sp_core.specs.Declarations.{mem, kind_of}
use Rattle.sp_core.specs.Elements.{index_value, natural}
use Rattle.sp_core.specs.Events.{Act, reads, writes, At, When, before, in_group_of, in_turn, Standing, inside_at, Moment, touches, slices, renews, keeps, act_of, event_of, entry_moments, list_moments, bounds_moments, spans_moments, first_of, dram_event, mem_event, rows_turn, load_moments, store_moments, slice_moments, loaded, stored, gather_moments, scatter_moments, picked_moments, renewal_in_body, body_moments, moments, group_moments, stage_moments, turn_moments, core_moments}
use Rattle.sp_core.specs.History.{Entry, left_out, gave, touched, last_word, Bounds, Taken, one, both, History, Groups, Runs, Turns, inner_ran, outer_ran, fsm_ran, branch_ran, moved, picked, no_group, more_group, no_run, masked_run, more_run, no_turn, more_turn}
use Rattle.sp_core.specs.Numbering.{counters_size, spans_size, node_count, number_count}
use Rattle.sp_core.specs.PlainCore.{PlainOp, PlainCounter, PlainSpan, single, range, PlainNode, PlainStages, inner, outer, fsm, branch, load, store, sparse, no_stage, more_stage, PlainCore}
use Rattle.sp_core.specs.Scope.{Reading, Loop, loops_of, group_values}
use Rattle.sp_core.specs.Sequential.{has_reset}
use Rattle.sp_core.specs.Transfers.{Part, part_of, lengths, has_none, places_of, all_offsets, loaded_at}
use Rattle.sp_along.specs.MetTraces.{loops_in, group_loops, stage_loops, turn_loops, HasGroup, IsTraced, Stands}

-- moments that all stand so
module _ (P : Standing → Type 0) where
  abbrev pub AllStand : List Moment → Type 0
  AllStand ms = All (Stands P) ms

  pub none : AllStand []
  none = All-nil (Stands P)

  pub more : (m : Moment) (ms : List Moment) → Stands P m → AllStand ms → AllStand (m ∷ ms)
  more m ms p h = All-cons (Stands P) m ms p h

  single_one : (m : Moment) → Stands P m → AllStand (m ∷ [])
  single_one m p = more m [] p none

  pub both_stand : (ms ns : List Moment) → AllStand ms → AllStand ns → AllStand (ms ++ ns)
  both_stand ms ns h k = All-append (Stands P) ms ns h k

  -- what is done at one standing
  module _ (st : Standing) (here : P st) where
    event_stands : (n : ℕ) (m : Option ℕ) (is : List ℕ) (act : Option Act) → AllStand (event_of n st m is act)
    event_stands n None is None = none
    event_stands n None is (Some act) = none
    event_stands n (Some m) is None = none
    event_stands n (Some m) is (Some act) = single_one _ here

    entry_stands : (n : ℕ) (kind : OpKind) (m : Option ℕ) (x : Entry) → AllStand (entry_moments n st kind m x)
    entry_stands n kind m left_out = none
    entry_stands n kind m (gave w) = none
    entry_stands n kind m (touched is w) = event_stands n m is (act_of kind w)

    pub list_stands : (n : ℕ) (ops : List PlainOp) (es : List Entry) → AllStand (list_moments n st ops es)
    list_stands n [] es = none
    list_stands n (op ∷ ops) [] = none
    list_stands n (op ∷ ops) (x ∷ es) = both_stand _ _ (entry_stands n op.kind op.mem x) (list_stands (suc n) ops es)

    pub bounds_stand : (n : ℕ) (counters : List PlainCounter) (bs : List Bounds) → AllStand (bounds_moments n st counters bs)
    bounds_stand n [] bs = none
    bounds_stand n (c ∷ counters) [] = none
    bounds_stand n (c ∷ counters) (b ∷ bs) =
        both_stand _ _ (both_stand _ _ (list_stands n c.from b.from) (list_stands (n + length c.from) c.until b.until)) (bounds_stand (n + (length c.from + length c.until)) counters bs)

    pub spans_stand : (n : ℕ) (spans : List PlainSpan) (ts : List Taken) → AllStand (spans_moments n st spans ts)
    spans_stand n [] ts = none
    spans_stand n (single ops ∷ spans) [] = none
    spans_stand n (range a b ∷ spans) [] = none
    spans_stand n (single ops ∷ spans) (one es ∷ ts) = both_stand _ _ (list_stands n ops es) (spans_stand (n + length ops) spans ts)
    spans_stand n (single ops ∷ spans) (both es fs ∷ ts) = none
    spans_stand n (range a b ∷ spans) (one es ∷ ts) = none
    spans_stand n (range a b ∷ spans) (both es fs ∷ ts) =
        both_stand _ _ (both_stand _ _ (list_stands n a es) (list_stands (n + length a) b fs)) (spans_stand (n + (length a + length b)) spans ts)

    module _ (core : PlainCore) (n : ℕ) where
      rows_stand : (kind : Kind) (m : ℕ) → AllStand (rows_turn core n st kind m)
      rows_stand LineBuf m = single_one _ here
      rows_stand Reg m = none
      rows_stand Sram m = none
      rows_stand Fifo m = none
      rows_stand Dram m = none
      rows_stand ArgIn m = none
      rows_stand ArgOut m = none

      slice_stands : (parts : List Part) (ms : List Moment) → AllStand ms → AllStand (slice_moments core n st parts ms)
      slice_stands parts ms h = go (has_none (lengths parts))
        where
          go : (b : Bool) → AllStand (elim b as (λ _. List Moment) [ true ↦ [] | false ↦ slices (record { number = n; standing = st; firsts = map first_of parts; lengths = lengths parts }) ∷ ms ])
          go true = none
          go false = more (slices (record { number = n; standing = st; firsts = map first_of parts; lengths = lengths parts })) ms here h

      module _ (r m : ℕ) where
        loads_stand : (parts : List Part) (offsets : List (List ℕ)) (ws : List ℕ) → AllStand (load_moments core n st r m parts offsets ws)
        loads_stand parts [] ws = none
        loads_stand parts (o ∷ offsets) [] = none
        loads_stand parts (o ∷ offsets) (w ∷ ws) =
            let put : Moment = mem_event core n st m (loaded_at core (kind_of core m) m o) (writes w) in
            more (dram_event core n st r (places_of parts o) (reads w)) (put ∷ load_moments core n st r m parts offsets ws) here
            (more put (load_moments core n st r m parts offsets ws) here (loads_stand parts offsets ws))

        stores_stand : (parts : List Part) (offsets : List (List ℕ)) (ws : List ℕ) → AllStand (store_moments core n st r m parts offsets ws)
        stores_stand parts [] ws = none
        stores_stand parts (o ∷ offsets) [] = none
        stores_stand parts (o ∷ offsets) (w ∷ ws) =
            let put : Moment = dram_event core n st r (places_of parts o) (writes w) in
            more (mem_event core n st m o (reads w)) (put ∷ store_moments core n st r m parts offsets ws) here
            (more put (store_moments core n st r m parts offsets ws) here (stores_stand parts offsets ws))

        pub loaded_stands : (parts : List Part) (ws : List ℕ) → AllStand (loaded core n st r m parts ws)
        loaded_stands parts ws = slice_stands parts _ (both_stand (rows_turn core n st (kind_of core m) m) _ (rows_stand (kind_of core m) m) (loads_stand parts (all_offsets parts) ws))

        pub stored_stands : (parts : List Part) (ws : List ℕ) → AllStand (stored core n st r m parts ws)
        stored_stands parts ws = slice_stands parts _ (stores_stand parts (all_offsets parts) ws)

        module _ (p : ℕ) where
          pub gathers_stand : (k : ℕ) (ws : List (ℕ × ℕ)) → AllStand (gather_moments core n st r m p k ws)
          gathers_stand k [] = none
          gathers_stand k ((i, w) ∷ ws) =
              let found : Moment = dram_event core n st r (natural (index_value i) ∷ []) (reads w) in
              let put : Moment = mem_event core n st m (k ∷ []) (writes w) in
              let rest : List Moment = gather_moments core n st r m p (suc k) ws in
              more (mem_event core n st p (k ∷ []) (reads i)) (found ∷ put ∷ rest) here (more found (put ∷ rest) here (more put rest here (gathers_stand (suc k) ws)))

          pub scatters_stand : (k : ℕ) (ws : List (ℕ × ℕ)) → AllStand (scatter_moments core n st r m p k ws)
          scatters_stand k [] = none
          scatters_stand k ((i, w) ∷ ws) =
              let found : Moment = mem_event core n st m (k ∷ []) (reads w) in
              let put : Moment = dram_event core n st r (natural (index_value i) ∷ []) (writes w) in
              let rest : List Moment = scatter_moments core n st r m p (suc k) ws in
              more (mem_event core n st p (k ∷ []) (reads i)) (found ∷ put ∷ rest) here (more found (put ∷ rest) here (more put rest here (scatters_stand (suc k) ws)))

          pub picked_stands : (ws : List (ℕ × ℕ)) (ms : List Moment) → AllStand ms → AllStand (picked_moments core n st ws ms)
          picked_stands [] ms h = none
          picked_stands (w ∷ ws) ms h = more (slices (record { number = n; standing = st; firsts = []; lengths = length (w ∷ ws) ∷ [] })) ms here h

  pub renew_stand : (owned : List ℕ) → AllStand (map renews owned)
  renew_stand [] = none
  renew_stand (m ∷ owned) = more (renews m) (map renews owned) tt (renew_stand owned)

  renewal_stands : (core : PlainCore) (m : ℕ) → AllStand (renewal_in_body core m)
  renewal_stands core m = go (has_reset (mem core m).kind (mem core m).start)
    where
      go : (b : Bool) → AllStand (elim b as (λ _. List Moment) [ true ↦ [] | false ↦ renews m ∷ [] ])
      go true = none
      go false = single_one (renews m) tt

  pub renewals_stand : (core : PlainCore) (owned : List ℕ) → AllStand (flat_map (renewal_in_body core) owned)
  renewals_stand core [] = none
  renewals_stand core (m ∷ owned) = both_stand (renewal_in_body core m) _ (renewal_stands core m) (renewals_stand core owned)

stands_more : (P Q : Standing → Type 0) → ((s : Standing) → P s → Q s) → (m : Moment) → Stands P m → Stands Q m
stands_more P Q f (touches e) h = f e.standing h
stands_more P Q f (slices s) h = f s.standing h
stands_more P Q f (renews m) h = tt
stands_more P Q f (keeps m w) h = tt

pub all_more : (P Q : Standing → Type 0) → ((s : Standing) → P s → Q s) → (ms : List Moment) → AllStand P ms → AllStand Q ms
all_more P Q f [] h = none Q
all_more P Q f (m ∷ ms) h = more Q m ms (stands_more P Q f m (All-head (Stands P) m ms h)) (all_more P Q f ms (All-tail (Stands P) m ms h))

-- a place from another one on
pub record IsWithin (loops : List At → List Loop) (st s : Standing) : Type 0 where
  pub path : List At
  pub counters : List ℤ
  pub path_is : s.path ≡ st.path ++ path
  pub counters_are : s.counters ≡ st.counters ++ counters
  pub traced : IsTraced loops path counters

append_nil : {A : Type 0} (xs : List A) → xs ≡ xs ++ []
append_nil [] = refl
append_nil (x ∷ xs) = ap (λ ys. x ∷ ys) (append_nil xs)

here_within : (loops : List At → List Loop) (st : Standing) → IsWithin loops st st
here_within loops st = record { path = []; counters = []; path_is = append_nil st.path; counters_are = append_nil st.counters; traced = refl }

-- at a controller, in a group of these values
at_within : (loops : List At → List Loop) (st : Standing) (k : ℕ) (when : When) (values : List ℤ) → HasGroup (loops []) when values → IsWithin loops st (inside_at st k when values)
at_within loops st k when values h = record {
  path = record { node = k; when = when } ∷ [];
  counters = values;
  path_is = refl;
  counters_are = refl;
  traced = (values, [], h, append_nil values, refl);
}

same_traced : (loops others : List At → List Loop) → ((p : List At) → loops p ≡ others p) → (path : List At) (counters : List ℤ) → IsTraced loops path counters → IsTraced others path counters
same_traced loops others same [] counters h = h
same_traced loops others same (a ∷ path) counters h =
    (h.0, h.1, subst (λ ls. HasGroup ls a.when h.0) (same []) h.2, h.3, same_traced (λ p. loops (a ∷ p)) (λ p. others (a ∷ p)) (λ p. same (a ∷ p)) path h.1 h.4)

-- what stands within a run inside stands within the whole
deeper : (loops inner_loops : List At → List Loop) (st : Standing) (k : ℕ) (when : When) (values : List ℤ) → HasGroup (loops []) when values →
    ((p : List At) → inner_loops p ≡ loops (record { node = k; when = when } ∷ p)) → (s : Standing) → IsWithin inner_loops (inside_at st k when values) s → IsWithin loops st s
deeper loops inner_loops st k when values h same s w = record {
  path = record { node = k; when = when } ∷ w.path;
  counters = values ++ w.counters;
  path_is = w.path_is ∙ append_assoc st.path (record { node = k; when = when } ∷ []) w.path;
  counters_are = w.counters_are ∙ append_assoc st.counters values w.counters;
  traced = (values, w.counters, h, refl, same_traced inner_loops (λ p. loops (record { node = k; when = when } ∷ p)) same w.path w.counters w.traced);
}

-- the groups from group g on have these values
record AreFrom (all : List (List ℤ)) (g : ℕ) (values : List (List ℤ)) : Type 0 where
  front : List (List ℤ)
  is : all ≡ front ++ values
  size : length front ≡ g

first_value : (loops : List Loop) (g s : ℕ) (v : List ℤ) (values : List (List ℤ)) → AreFrom (group_values loops) g (v ∷ values) → HasGroup loops (in_group_of g s) v
first_value loops g s v values h = (
  subst (λ all. g < length all) (sym h.is) (subst (λ n. n < length (h.front ++ v ∷ values)) h.size (inside h.front v values)),
  ap (λ all. get_or all g []) h.is ∙ ap (λ n. get_or (h.front ++ v ∷ values) n []) (sym h.size) ∙ get_or-append_seam h.front v values [],
)
  where
    inside : (front : List (List ℤ)) (v : List ℤ) (values : List (List ℤ)) → length front < length (front ++ v ∷ values)
    inside [] v values = omega arith
    inside (x ∷ front) v values = let h = inside front v values in omega (arith, h)

next_values : (all : List (List ℤ)) (g : ℕ) (v : List ℤ) (values : List (List ℤ)) → AreFrom all g (v ∷ values) → AreFrom all (suc g) values
next_values all g v values h = record {
  front = h.front ++ v ∷ [];
  is = h.is ∙ sym (append_assoc h.front (v ∷ []) values);
  size = one_longer h.front v ∙ ap suc h.size;
}
  where
    one_longer : (front : List (List ℤ)) (v : List ℤ) → length (front ++ v ∷ []) ≡ suc (length front)
    one_longer [] v = refl
    one_longer (x ∷ front) v = ap suc (one_longer front v)

plus_none : (n : ℕ) → n + 0 ≡ n
plus_none n = omega arith

none_plus : (n : ℕ) → n ≡ 0 + n
none_plus n = omega arith

plus_next : (n m : ℕ) → n + suc m ≡ suc n + m
plus_next n m = omega arith

at_group : (loops : List At → List Loop) (k g h s r : ℕ) → g ≡ h → s ≡ r → (p : List At) → loops (record { node = k; when = in_group_of g s } ∷ p) ≡ loops (record { node = k; when = in_group_of h r } ∷ p)
at_group loops k g h s r e f p = ap (λ x. loops (record { node = k; when = in_group_of x s } ∷ p)) e ∙ ap (λ x. loops (record { node = k; when = in_group_of h x } ∷ p)) f

at_turn : (loops : List At → List Loop) (k t u : ℕ) → t ≡ u → (p : List At) → loops (record { node = k; when = in_turn t } ∷ p) ≡ loops (record { node = k; when = in_turn u } ∷ p)
at_turn loops k t u e p = ap (λ x. loops (record { node = k; when = in_turn x } ∷ p)) e

module _ (core : PlainCore) (reading : Reading) where
  body_traced : (loops : List At → List Loop) (k n g : ℕ) (st : Standing) (owned : List ℕ) (ops : List PlainOp) (values : List (List ℤ)) (groups : List (List Entry)) → AreFrom (group_values (loops [])) g values →
      AllStand (IsWithin loops st) (body_moments core reading k n g st owned ops values groups)
  body_traced loops k n g st owned ops [] groups h = none (IsWithin loops st)
  body_traced loops k n g st owned ops (v ∷ values) [] h = none (IsWithin loops st)
  body_traced loops k n g st owned ops (v ∷ values) (es ∷ groups) h =
      let P = IsWithin loops st in
      both_stand P _ _
      (both_stand P _ _ (renewals_stand P core owned) (list_stands P (inside_at st k (in_group_of g 0) v) (at_within loops st k (in_group_of g 0) v (first_value (loops []) g 0 v values h)) n ops es))
      (body_traced loops k n (suc g) st owned ops values groups (next_values (group_values (loops [])) g v values h))

  pub keeps_stand : (P : Standing → Type 0) (m w : ℕ) → AllStand P (keeps m w ∷ [])
  keeps_stand P m w = single_one P (keeps m w) tt

  mutual
    unfolding moments group_moments stage_moments turn_moments

    pub node_traced : (node : PlainNode) (h : History) (k n : ℕ) (st : Standing) → AllStand (IsWithin (loops_in reading node h) st) (moments core reading node k n st h)
    node_traced (inner counters owned ops comb) (inner_ran bs counts groups) k n st =
        let L : List At → List Loop = loops_in reading (inner counters owned ops comb) (inner_ran bs counts groups) in
        let P = IsWithin L st in
        both_stand P _ _ (bounds_stand P (inside_at st k before []) (at_within L st k before [] refl) n counters bs)
        (body_traced L k (n + counters_size counters) 0 st owned ops (group_values (loops_of reading counters bs)) groups (record { front = []; is = refl; size = refl }))
    node_traced (outer counters style owned stages) (outer_ran bs counts groups) k n st =
        let L : List At → List Loop = loops_in reading (outer counters style owned stages) (outer_ran bs counts groups) in
        let P = IsWithin L st in
        both_stand P _ _ (bounds_stand P (inside_at st k before []) (at_within L st k before [] refl) n counters bs)
        (groups_traced stages groups L k (n + counters_size counters) 0 st owned (group_values (loops_of reading counters bs)) (record { front = []; is = refl; size = refl }) (λ j s p. ap (λ x. group_loops reading stages groups x s p) (none_plus j)))
    node_traced (fsm start state test body next) (fsm_ran first ts last) k n st =
        let L : List At → List Loop = loops_in reading (fsm start state test body next) (fsm_ran first ts last) in
        let P = IsWithin L st in
        both_stand P _ _ (both_stand P _ _ (list_stands P (inside_at st k before []) (at_within L st k before [] refl) n start first) (keeps_stand P state (last_word first)))
        (turns_traced start state test body next ts last L k n 0 st (λ j p. ap (λ x. turn_loops reading body ts x p) (none_plus j)))
    node_traced (branch test first second) (branch_ran es true x) k n st =
        let L : List At → List Loop = loops_in reading (branch test first second) (branch_ran es true x) in
        let P = IsWithin L st in
        both_stand P _ _ (list_stands P (inside_at st k (in_turn 0) []) (at_within L st k (in_turn 0) [] refl) n test es)
        (all_more (IsWithin (loops_in reading first x) (inside_at st k (in_turn 0) [])) P (deeper L (loops_in reading first x) st k (in_turn 0) [] refl (λ p. refl)) _ (node_traced first x (suc k) (n + length test) (inside_at st k (in_turn 0) [])))
    node_traced (branch test first second) (branch_ran es false x) k n st =
        let L : List At → List Loop = loops_in reading (branch test first second) (branch_ran es false x) in
        let P = IsWithin L st in
        both_stand P _ _ (list_stands P (inside_at st k (in_turn 0) []) (at_within L st k (in_turn 0) [] refl) n test es)
        (all_more (IsWithin (loops_in reading second x) (inside_at st k (in_turn 0) [])) P (deeper L (loops_in reading second x) st k (in_turn 0) [] refl (λ p. refl)) _ (node_traced second x (suc k + node_count first) (n + (length test + number_count first)) (inside_at st k (in_turn 0) [])))
    node_traced (load r m spans) (moved ts ws) k n st =
        let L : List At → List Loop = loops_in reading (load r m spans) (moved ts ws) in
        let P = IsWithin L st in
        both_stand P _ _ (spans_stand P st (here_within L st) n spans ts) (loaded_stands P st (here_within L st) core (n + spans_size spans) r m (map part_of ts) ws)
    node_traced (store r m spans) (moved ts ws) k n st =
        let L : List At → List Loop = loops_in reading (store r m spans) (moved ts ws) in
        let P = IsWithin L st in
        both_stand P _ _ (spans_stand P st (here_within L st) n spans ts) (stored_stands P st (here_within L st) core (n + spans_size spans) r m (map part_of ts) ws)
    node_traced (sparse Gather r m (Some p) spans count par) (picked es ws) k n st =
        let L : List At → List Loop = loops_in reading (sparse Gather r m (Some p) spans count par) (picked es ws) in
        let P = IsWithin L st in
        both_stand P _ _ (list_stands P st (here_within L st) (n + spans_size spans) count es)
        (picked_stands P st (here_within L st) core (n + (spans_size spans + length count)) r m p ws _ (gathers_stand P st (here_within L st) core (n + (spans_size spans + length count)) r m p 0 ws))
    node_traced (sparse Scatter r m (Some p) spans count par) (picked es ws) k n st =
        let L : List At → List Loop = loops_in reading (sparse Scatter r m (Some p) spans count par) (picked es ws) in
        let P = IsWithin L st in
        both_stand P _ _ (list_stands P st (here_within L st) (n + spans_size spans) count es)
        (picked_stands P st (here_within L st) core (n + (spans_size spans + length count)) r m p ws _ (scatters_stand P st (here_within L st) core (n + (spans_size spans + length count)) r m p 0 ws))
    node_traced (sparse WideStore r m places spans count par) (moved ts ws) k n st =
        let L : List At → List Loop = loops_in reading (sparse WideStore r m places spans count par) (moved ts ws) in
        let P = IsWithin L st in
        both_stand P _ _ (spans_stand P st (here_within L st) n spans ts) (stored_stands P st (here_within L st) core (n + (spans_size spans + length count)) r m (map part_of ts) ws)
    node_traced (sparse WideLoad r m places spans count par) (moved ts ws) k n st =
        let L : List At → List Loop = loops_in reading (sparse WideLoad r m places spans count par) (moved ts ws) in
        let P = IsWithin L st in
        both_stand P _ _ (spans_stand P st (here_within L st) n spans ts) (loaded_stands P st (here_within L st) core (n + (spans_size spans + length count)) r m (map part_of ts) ws)
    node_traced (sparse Gather r m (Some p) spans count par) (moved ts ws) k n st =
        let L : List At → List Loop = loops_in reading (sparse Gather r m (Some p) spans count par) (moved ts ws) in
        let P = IsWithin L st in
        both_stand P _ _ (spans_stand P st (here_within L st) n spans ts) (loaded_stands P st (here_within L st) core (n + (spans_size spans + length count)) r m (map part_of ts) ws)
    node_traced (sparse Gather r m None spans count par) (moved ts ws) k n st =
        let L : List At → List Loop = loops_in reading (sparse Gather r m None spans count par) (moved ts ws) in
        let P = IsWithin L st in
        both_stand P _ _ (spans_stand P st (here_within L st) n spans ts) (loaded_stands P st (here_within L st) core (n + (spans_size spans + length count)) r m (map part_of ts) ws)
    node_traced (sparse Scatter r m (Some p) spans count par) (moved ts ws) k n st =
        let L : List At → List Loop = loops_in reading (sparse Scatter r m (Some p) spans count par) (moved ts ws) in
        let P = IsWithin L st in
        both_stand P _ _ (spans_stand P st (here_within L st) n spans ts) (loaded_stands P st (here_within L st) core (n + (spans_size spans + length count)) r m (map part_of ts) ws)
    node_traced (sparse Scatter r m None spans count par) (moved ts ws) k n st =
        let L : List At → List Loop = loops_in reading (sparse Scatter r m None spans count par) (moved ts ws) in
        let P = IsWithin L st in
        both_stand P _ _ (spans_stand P st (here_within L st) n spans ts) (loaded_stands P st (here_within L st) core (n + (spans_size spans + length count)) r m (map part_of ts) ws)
    node_traced (sparse Gather r m None spans count par) (picked es ws) k n st = none _
    node_traced (sparse Scatter r m None spans count par) (picked es ws) k n st = none _
    node_traced node h k n st = none _

    groups_traced : (stages : PlainStages) (groups : Groups) (loops : List At → List Loop) (k n g : ℕ) (st : Standing) (owned : List ℕ) (values : List (List ℤ)) → AreFrom (group_values (loops [])) g values →
        ((j s : ℕ) (p : List At) → group_loops reading stages groups j s p ≡ loops (record { node = k; when = in_group_of (g + j) s } ∷ p)) →
        AllStand (IsWithin loops st) (group_moments core reading stages k n g st owned values groups)
    groups_traced stages no_group loops k n g st owned [] h same = none (IsWithin loops st)
    groups_traced stages no_group loops k n g st owned (v ∷ values) h same = none (IsWithin loops st)
    groups_traced stages (more_group runs rest) loops k n g st owned [] h same = none (IsWithin loops st)
    groups_traced stages (more_group runs rest) loops k n g st owned (v ∷ values) h same =
        let P = IsWithin loops st in
        both_stand P _ _
        (both_stand P _ _ (renew_stand P owned)
        (stages_traced stages runs loops k n 0 g (suc k) v st (λ s. first_value (loops []) g s v values h) (λ j p. same 0 j p ∙ at_group loops k (g + 0) g j (0 + j) (plus_none g) (none_plus j) p)))
        (groups_traced stages rest loops k n (suc g) st owned values (next_values (group_values (loops [])) g v values h) (λ j s p. same (suc j) s p ∙ at_group loops k (g + suc j) (suc g + j) s s (plus_next g j) refl p))

    stages_traced : (stages : PlainStages) (runs : Runs) (loops : List At → List Loop) (k n s g j : ℕ) (v : List ℤ) (st : Standing) → ((r : ℕ) → HasGroup (loops []) (in_group_of g r) v) →
        ((i : ℕ) (p : List At) → stage_loops reading stages runs i p ≡ loops (record { node = k; when = in_group_of g (s + i) } ∷ p)) →
        AllStand (IsWithin loops st) (stage_moments core reading stages k n s g j v st runs)
    stages_traced no_stage no_run loops k n s g j v st h same = none (IsWithin loops st)
    stages_traced no_stage (masked_run hs) loops k n s g j v st h same = none (IsWithin loops st)
    stages_traced no_stage (more_run x hs) loops k n s g j v st h same = none (IsWithin loops st)
    stages_traced (more_stage first last comb node rest) no_run loops k n s g j v st h same = none (IsWithin loops st)
    stages_traced (more_stage first last comb node rest) (masked_run hs) loops k n s g j v st h same =
        stages_traced rest hs loops k (n + number_count node) (suc s) g (j + node_count node) v st h (λ i p. same (suc i) p ∙ at_group loops k g g (s + suc i) (suc s + i) refl (plus_next s i) p)
    stages_traced (more_stage first last comb node rest) (more_run x hs) loops k n s g j v st h same =
        let P = IsWithin loops st in
        both_stand P _ _
        (all_more (IsWithin (loops_in reading node x) (inside_at st k (in_group_of g s) v)) P
        (deeper loops (loops_in reading node x) st k (in_group_of g s) v (h s) (λ p. same 0 p ∙ at_group loops k g g (s + 0) s refl (plus_none s) p)) _
        (node_traced node x j n (inside_at st k (in_group_of g s) v)))
        (stages_traced rest hs loops k (n + number_count node) (suc s) g (j + node_count node) v st h (λ i p. same (suc i) p ∙ at_group loops k g g (s + suc i) (suc s + i) refl (plus_next s i) p))

    turns_traced : (start : List PlainOp) (state : ℕ) (test : List PlainOp) (body : PlainNode) (next : List PlainOp) (ts : Turns) (last : List Entry) (loops : List At → List Loop) (k n t : ℕ) (st : Standing) →
        ((j : ℕ) (p : List At) → turn_loops reading body ts j p ≡ loops (record { node = k; when = in_turn (t + j) } ∷ p)) →
        AllStand (IsWithin loops st) (turn_moments core reading start state test body next k n t st ts last)
    turns_traced start state test body next no_turn last loops k n t st same =
        list_stands (IsWithin loops st) (inside_at st k (in_turn t) []) (at_within loops st k (in_turn t) [] refl) (n + length start) test last
    turns_traced start state test body next (more_turn es x ns rest) last loops k n t st same =
        let P = IsWithin loops st in
        let here : IsWithin loops st (inside_at st k (in_turn t) []) = at_within loops st k (in_turn t) [] refl in
        both_stand P _ _
        (both_stand P _ _ (list_stands P (inside_at st k (in_turn t) []) here (n + length start) test es)
        (both_stand P _ _
        (all_more (IsWithin (loops_in reading body x) (inside_at st k (in_turn t) [])) P
        (deeper loops (loops_in reading body x) st k (in_turn t) [] refl (λ p. same 0 p ∙ at_turn loops k (t + 0) t (plus_none t) p)) _
        (node_traced body x (suc k) (n + (length start + length test)) (inside_at st k (in_turn t) [])))
        (both_stand P _ _ (list_stands P (inside_at st k (in_turn t) []) here (n + (length start + (length test + number_count body))) next ns) (keeps_stand P state (last_word ns)))))
        (turns_traced start state test body next rest last loops k n (suc t) st (λ j p. same (suc j) p ∙ at_turn loops k (t + suc j) (suc t + j) (plus_next t j) p))

  pub runs_traced : (h : History) → All (Stands (λ s. IsTraced (loops_in reading core.root h) s.path s.counters)) (core_moments core reading h)
  runs_traced h =
      all_more (IsWithin (loops_in reading core.root h) (record { path = []; counters = [] })) (λ s. IsTraced (loops_in reading core.root h) s.path s.counters) whole _ (node_traced core.root h 0 0 (record { path = []; counters = [] }))
    where
      whole : (s : Standing) → IsWithin (loops_in reading core.root h) (record { path = []; counters = [] }) s → IsTraced (loops_in reading core.root h) s.path s.counters
      whole s w =
          subst (λ p. IsTraced (loops_in reading core.root h) p s.counters) (sym w.path_is)
          (subst (λ c. IsTraced (loops_in reading core.root h) w.path c) (sym w.counters_are) w.traced)
