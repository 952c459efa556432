-- Lists of memories that are placed among others.
use Rattle.std.proofs.Common.{◌≡◌, ◌++◌, ◌+◌, ◌<◌, append_assoc, append-nil, Option, Some, Vec, Global, ℕ, suc, Bool, true, false, List, [], ◌∷◌, map, take, drop, get_or, length, refl, sym, ap, ◌∙◌}
use Rattle.std.specs.Prelude.{if◌then◌else◌, slice_get}
use Rattle.std.proofs.lemmas.List.{drop_more, take_more, map-append}
use Rattle.sp_words.specs.declared.kind.Style.{Style}
use Rattle.sp_words.specs.Ports.{PlainPorts}
use Rattle.sp_core.specs.declared.memory.CoreMem.{CoreMem}
use Rattle.sp_core.specs.Around.{lanes_of}
use Rattle.sp_core.specs.Plain.{plain_mem}
use Rattle.sp_core.specs.PlainCore.{PlainOp, PlainCounter, PlainNode, inner, outer, fsm, branch, PlainStages, no_stage, more_stage}
use Rattle.sp_lanes.specs.Order.{is_before, placed, in_turn, repeated, with_owned, memories_in, memories_of, memory_order}
use Rattle.sp_unroll.specs.Arranged.{lists_of, placed_all, arranged, is_kept, singles, parts_of, ports_below}

pub placed_last : (parts : List (List ℕ)) (part : List ℕ) (lists : List (List ℕ)) → placed_all (parts ++ part ∷ []) lists ≡ placed_all parts (placed part lists)
placed_last [] part lists = refl
placed_last (p ∷ parts) part lists = ap (placed p) (placed_last parts part lists)

if_single : (b : Bool) (m : ℕ) (parts others lists : List (List ℕ)) → placed_all (if b then (m ∷ []) ∷ parts else parts) lists ≡ (if b then placed (m ∷ []) (placed_all parts lists) else placed_all parts lists)
if_single true m parts others lists = refl
if_single false m parts others lists = refl

if_app : (b : Bool) (p : List ℕ) (parts others : List (List ℕ)) → (if b then p ∷ parts else parts) ++ others ≡ (if b then p ∷ (parts ++ others) else parts ++ others)
if_app true p parts others = refl
if_app false p parts others = refl

-- memories that a node owns, each by itself, before others
pub owned_first : (kept : ℕ → Bool) (owned : List ℕ) (parts : List (List ℕ)) → placed_all (singles kept owned ++ parts) [] ≡ with_owned kept owned (placed_all parts [])
owned_first kept [] parts = refl
owned_first kept (m ∷ owned) parts =
    ap (λ x. placed_all x []) (if_app (kept m) (m ∷ []) (singles kept owned) parts)
    ∙ if_single (kept m) m (singles kept owned ++ parts) [] []
    ∙ ap (λ x. if kept m then placed (m ∷ []) x else x) (owned_first kept owned parts)

pub stages_placed : (kept : ℕ → Bool) (stages : PlainStages) → placed_all (parts_of kept stages) [] ≡ memories_of kept stages
unfolding memories_of
stages_placed kept no_stage = refl
stages_placed kept (more_stage first last comb node rest) = ap (placed (memories_in kept node)) (stages_placed kept rest)

place_later : (m : ℕ) (ms list : List ℕ) (lists : List (List ℕ)) (b : Bool) → b ≡ false → (if b then (m ∷ ms) ∷ list ∷ lists else list ∷ placed (m ∷ ms) lists) ≡ list ∷ placed (m ∷ ms) lists
place_later m ms list lists true e = absurd (cc)
place_later m ms list lists false e = refl

place_now : (m : ℕ) (ms list : List ℕ) (lists : List (List ℕ)) (b : Bool) → b ≡ true → (if b then (m ∷ ms) ∷ list ∷ lists else list ∷ placed (m ∷ ms) lists) ≡ (m ∷ ms) ∷ list ∷ lists
place_now m ms list lists true e = refl
place_now m ms list lists false e = absurd (cc)

pub place_here : (m : ℕ) (ms : List ℕ) (lists : List (Vec ℕ Global)) (v : Vec ℕ Global) (i : ℕ) → i < length lists → v ≡ get_or lists i v → is_before m v.items ≡ true
    → placed (m ∷ ms) (lists_of (drop i lists)) ≡ (m ∷ ms) ∷ lists_of (drop i lists)
place_here m ms lists v i h e b =
    let d : drop i lists ≡ v ∷ drop (i + 1) lists = drop_more lists i v h ∙ ap (λ x. x ∷ drop (i + 1) lists) (sym e) in
    ap (λ x. placed (m ∷ ms) (lists_of x)) d ∙ place_now m ms v.items (lists_of (drop (i + 1) lists)) (is_before m v.items) b ∙ ap (λ x. (m ∷ ms) ∷ lists_of x) (sym d)

pub place_step : (m : ℕ) (ms : List ℕ) (lists : List (Vec ℕ Global)) (v : Vec ℕ Global) (i : ℕ) → i < length lists → v ≡ get_or lists i v → is_before m v.items ≡ false
    → lists_of (take (i + 1) lists) ++ placed (m ∷ ms) (lists_of (drop (i + 1) lists)) ≡ lists_of (take i lists) ++ placed (m ∷ ms) (lists_of (drop i lists))
place_step m ms lists v i h e b =
    let after = placed (m ∷ ms) (lists_of (drop (i + 1) lists)) in
    let d : drop i lists ≡ v ∷ drop (i + 1) lists = drop_more lists i v h ∙ ap (λ x. x ∷ drop (i + 1) lists) (sym e) in
    let t : take (i + 1) lists ≡ take i lists ++ v ∷ [] = take_more lists i v h ∙ ap (λ x. take i lists ++ x ∷ []) (sym e) in
    ap (λ x. lists_of x ++ after) t
    ∙ ap (λ x. x ++ after) (map-append (λ (w : Vec ℕ Global). w.items) (take i lists) (v ∷ []))
    ∙ append_assoc (lists_of (take i lists)) (v.items ∷ []) after
    ∙ ap (λ x. lists_of (take i lists) ++ x) (sym (ap (λ x. placed (m ∷ ms) (lists_of x)) d ∙ place_later m ms v.items (lists_of (drop (i + 1) lists)) (is_before m v.items) b))

front : (xs : List ℕ) (m : ℕ) → Some m ≡ slice_get xs 0 → xs ≡ m ∷ drop 1 xs
front [] m e = absurd (cc)
front (x ∷ xs) m e = ap (λ y. y ∷ xs) (cc)

-- a part that is put in at its place
pub put_in : (lists seen after : List (Vec ℕ Global)) (part : Vec ℕ Global) (m at : ℕ) → seen ≡ lists → Some m ≡ slice_get part.items 0
    → ((ms : List ℕ) → lists_of (take at seen) ++ (m ∷ ms) ∷ lists_of (drop at seen) ≡ placed (m ∷ ms) (lists_of seen))
    → after ≡ take at lists ++ part ∷ drop at lists → lists_of after ≡ placed part.items (lists_of lists)
put_in lists seen after part m at s f p e =
    let x : part.items ≡ m ∷ drop 1 part.items = front part.items m f in
    ap lists_of e
    ∙ map-append (λ (w : Vec ℕ Global). w.items) (take at lists) (part ∷ drop at lists)
    ∙ ap (λ y. lists_of (take at lists) ++ y ∷ lists_of (drop at lists)) x
    ∙ sym (ap (λ l. lists_of (take at l) ++ (m ∷ drop 1 part.items) ∷ lists_of (drop at l)) s)
    ∙ p (drop 1 part.items)
    ∙ ap (λ l. placed (m ∷ drop 1 part.items) (lists_of l)) s
    ∙ ap (λ y. placed y (lists_of lists)) (sym x)

-- the last part is placed first
pub placed_next : (parts rest lists after : List (Vec ℕ Global)) (part : Vec ℕ Global) → parts ≡ rest ++ part ∷ [] → lists_of after ≡ placed part.items (lists_of lists)
    → placed_all (lists_of rest) (lists_of after) ≡ placed_all (lists_of parts) (lists_of lists)
placed_next parts rest lists after part e h =
    ap (placed_all (lists_of rest)) h
    ∙ sym (ap (λ x. placed_all (lists_of x) (lists_of lists)) e
    ∙ ap (λ x. placed_all x (lists_of lists)) (map-append (λ (w : Vec ℕ Global). w.items) rest (part ∷ []))
    ∙ placed_last (lists_of rest) part.items (lists_of lists))

module _ (kept : ℕ → Bool) where
  -- the memories of each kind of node, by its parts
  pub inner_memories : (counters : List PlainCounter) (owned : List ℕ) (ops : List PlainOp) (comb : Option ℕ) → repeated (lanes_of counters) (arranged (singles kept owned)) ≡ memories_in kept (inner counters owned ops comb)
  unfolding memories_in
  inner_memories counters owned ops comb =
      ap (λ x. repeated (lanes_of counters) (in_turn x)) (ap (λ x. placed_all x []) (sym (append-nil (singles kept owned))) ∙ owned_first kept owned [])

  pub outer_memories : (counters : List PlainCounter) (style : Style) (owned : List ℕ) (stages : PlainStages) → repeated (lanes_of counters) (arranged (singles kept owned ++ parts_of kept stages)) ≡ memories_in kept (outer counters style owned stages)
  unfolding memories_in
  outer_memories counters style owned stages =
      ap (λ x. repeated (lanes_of counters) (in_turn x)) (owned_first kept owned (parts_of kept stages) ∙ ap (with_owned kept owned) (stages_placed kept stages))

  pub fsm_memories : (start : List PlainOp) (state : ℕ) (test : List PlainOp) (body : PlainNode) (next : List PlainOp) → arranged (singles kept (state ∷ []) ++ memories_in kept body ∷ []) ≡ memories_in kept (fsm start state test body next)
  unfolding memories_in
  fsm_memories start state test body next = ap in_turn (owned_first kept (state ∷ []) (memories_in kept body ∷ []))

  pub branch_memories : (test : List PlainOp) (first second : PlainNode) → arranged (memories_in kept first ∷ memories_in kept second ∷ []) ≡ memories_in kept (branch test first second)
  unfolding memories_in
  branch_memories test first second = refl

count_is : (mems : List CoreMem) → length mems ≡ length (map plain_mem mems)
count_is [] = refl
count_is (m ∷ mems) = ap suc (count_is mems)

-- all memories of a core
pub order_is : (mems : List CoreMem) (ports : PlainPorts) (root : PlainNode)
    → arranged (singles (is_kept (map plain_mem mems) true) (ports_below (map plain_mem mems) (length mems)) ++ memories_in (is_kept (map plain_mem mems) true) root ∷ [])
    ++ arranged (singles (is_kept (map plain_mem mems) false) (ports_below (map plain_mem mems) (length mems)) ++ memories_in (is_kept (map plain_mem mems) false) root ∷ [])
    ≡ memory_order (record { mems = map plain_mem mems; ports = ports; root = root })
order_is mems ports root =
    let all = map plain_mem mems in
    ap (λ n. arranged (singles (is_kept all true) (ports_below all n) ++ memories_in (is_kept all true) root ∷ []) ++ arranged (singles (is_kept all false) (ports_below all n) ++ memories_in (is_kept all false) root ∷ [])) (count_is mems)
    ∙ ap (λ x. in_turn x ++ arranged (singles (is_kept all false) (ports_below all (length all)) ++ memories_in (is_kept all false) root ∷ [])) (owned_first (is_kept all true) (ports_below all (length all)) (memories_in (is_kept all true) root ∷ []))
    ∙ ap (λ x. in_turn (with_owned (is_kept all true) (ports_below all (length all)) (placed (memories_in (is_kept all true) root) [])) ++ in_turn x) (owned_first (is_kept all false) (ports_below all (length all)) (memories_in (is_kept all false) root ∷ []))
