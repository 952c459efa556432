-- A program whose block is one inner body can be built.
use Rattle.std.proofs.Common.{◌≡◌, ℕ, zero, suc, Bool, true, false, not, ◌&&◌, ◌||◌, List, [], ◌∷◌, ◌++◌, map, refl, sym, ap, ◌∙◌, subst, slice_index_or, if◌then◌else◌}
use Rattle.std.proofs.lemmas.Bool.{and_parts, true≢false}
use Rattle.std.proofs.lemmas.List.{append-nil}
use Rattle.std.specs.List.{list_all}
use Rattle.std.specs.Prelude.{filter, cond}
use Rattle.sp_words.specs.declared.kind.Kind.{Kind}
use Rattle.sp_words.specs.declared.kind.Kind.TheVariants.{Reg, Fifo, Sram, LineBuf, ArgIn, ArgOut, Dram}
use Rattle.sp_tree.specs.Meaning.{is_dram}
use Rattle.sp_tree.specs.PlainProgram as program
use Rattle.sp_tree.specs.PlainProgram.{PlainProgram}
use Rattle.sp_tree.specs.Structure.{is_inner}
use Rattle.sp_core.specs.Declarations.{mem}
use Rattle.sp_core.specs.PlainCore.{PlainNode, inner, outer, fsm, branch, load, store, sparse, PlainMem, no_mem, PlainCore}
use Rattle.sp_sugar.specs.Core.{core_of}
use Rattle.sp_sugar.specs.Registers.{registers}
use Rattle.sp_sugar.specs.Uses.{no_more}
use Rattle.sp_sugar.specs.Numbers.{is_off_dram, written_mem, written_mems}
use Rattle.sp_lanes.specs.Order.{memory_order}
use Rattle.sp_lanes.specs.Unrolled.{unrolled, node_in}
use Rattle.sp_compile.specs.Choices.{lanes_of, built_core}
use Rattle.sp_narrow.specs.Narrow.{narrow_node}
use Rattle.sp_build.specs.Buildable.{is_stored, is_stored_mem, is_node_buildable, is_uncounted}
use Rattle.sp_build.specs.Laws.{InnerBlocksCanBeBuilt}

both : (a b : Bool) → a ≡ true → b ≡ true → (a && b) ≡ true
both a b e f = rw (e, f) refl

-- a word of a list, or what stands in its place
all_or : {X : Type 0} (p : X → Bool) (xs : List X) (m : ℕ) (d : X) → list_all p xs ≡ true → p d ≡ true → p (slice_index_or xs m d) ≡ true
all_or p [] m d h e = e
all_or p (x ∷ xs) zero d h e = (and_parts (p x) (list_all p xs) h).0
all_or p (x ∷ xs) (suc m) d h e = all_or p xs m d (and_parts (p x) (list_all p xs) h).1 e

all_map : {X Y : Type 0} (p : Y → Bool) (f : X → Y) (xs : List X) → ((x : X) → p (f x) ≡ true) → list_all p (map f xs) ≡ true
all_map p f [] h = refl
all_map p f (x ∷ xs) h = both (p (f x)) (list_all p (map f xs)) (h x) (all_map p f xs h)

abbrev is_plain_mem : program.PlainMem → Bool
is_plain_mem m = is_stored m.kind || is_dram m.kind

-- which of them is no DRAM is stored
on_chip_stored : (k : Kind) → (is_stored k || is_dram k) ≡ true → not (is_dram k) ≡ true → is_stored k ≡ true
on_chip_stored Reg h other = refl
on_chip_stored ArgIn h other = refl
on_chip_stored ArgOut h other = refl
on_chip_stored Sram h other = refl
on_chip_stored Fifo h other = refl
on_chip_stored LineBuf h other = h
on_chip_stored Dram h other = other

stored_written : (mems : List program.PlainMem) → list_all is_plain_mem mems ≡ true → list_all is_stored_mem (written_mems mems) ≡ true
stored_written [] h = refl
stored_written (m ∷ mems) h =
    let parts = and_parts (is_plain_mem m) (list_all is_plain_mem mems) h in
    step (is_off_dram m) refl (stored_written mems parts.1) parts.0
  where
    step : (b : Bool) → is_off_dram m ≡ b → list_all is_stored_mem (map written_mem (filter is_off_dram mems)) ≡ true → is_plain_mem m ≡ true
        → list_all is_stored_mem (map written_mem (cond b (m ∷ filter is_off_dram mems) (filter is_off_dram mems))) ≡ true
    step true off rest here = both (is_stored m.kind) (list_all is_stored_mem (map written_mem (filter is_off_dram mems))) (on_chip_stored m.kind here off) rest
    step false off rest here = rest

-- the core of such a program: its memories and its root
mems_are : (p : PlainProgram) → is_inner p.body ≡ true → (core_of p).mems ≡ written_mems p.mems ++ []
unfolding core_of
mems_are p h = ap (λ b. written_mems p.mems ++ (if b then [] else registers p.body no_more)) h

stored_core : (p : PlainProgram) → is_inner p.body ≡ true → list_all is_plain_mem p.mems ≡ true → list_all is_stored_mem (lanes_of p).mems ≡ true
unfolding unrolled
stored_core p h all =
    let own = subst (λ ms. list_all is_stored_mem ms ≡ true) (sym (mems_are p h ∙ append-nil (written_mems p.mems))) (stored_written p.mems all) in
    all_map is_stored_mem (mem (core_of p)) (memory_order (core_of p)) (λ m. all_or is_stored_mem (core_of p).mems m no_mem own refl)

-- an inner body without counters
abbrev IsInnerRoot : PlainNode → Type 0
IsInnerRoot (inner [] owned ops comb) = Unit {0}
IsInnerRoot _ = ⊥

root_in_core : (p : PlainProgram) → is_inner p.body ≡ true → IsInnerRoot (core_of p).root
unfolding core_of
root_in_core p h = rw h tt

root_in_lanes : (p : PlainProgram) → (node : PlainNode) → IsInnerRoot node → (order : List ℕ) (w : _) → IsInnerRoot (node_in order w node)
unfolding node_in
root_in_lanes p (inner [] owned ops comb) h order w = tt
root_in_lanes p (inner (c ∷ counters) owned ops comb) h order w = absurd h
root_in_lanes p (outer counters style owned stages) h order w = absurd h
root_in_lanes p (fsm start state test body next) h order w = absurd h
root_in_lanes p (branch test first second) h order w = absurd h
root_in_lanes p (load r m spans) h order w = absurd h
root_in_lanes p (store r m spans) h order w = absurd h
root_in_lanes p (sparse kind r m places spans count par) h order w = absurd h

laned_root : (p : PlainProgram) → is_inner p.body ≡ true → IsInnerRoot (lanes_of p).root
unfolding unrolled
laned_root p h = root_in_lanes p (core_of p).root (root_in_core p h) _ _

-- which has no transfer
narrow_root : (node : PlainNode) → IsInnerRoot node → IsInnerRoot (narrow_node node)
narrow_root (inner [] owned ops comb) h = tt
narrow_root (inner (c ∷ counters) owned ops comb) h = absurd h
narrow_root (outer counters style owned stages) h = absurd h
narrow_root (fsm start state test body next) h = absurd h
narrow_root (branch test first second) h = absurd h
narrow_root (load r m spans) h = absurd h
narrow_root (store r m spans) h = absurd h
narrow_root (sparse kind r m places spans count par) h = absurd h

root_buildable : (core : PlainCore) (node : PlainNode) → IsInnerRoot node → (is_node_buildable core node && is_uncounted node) ≡ true
root_buildable core (inner [] owned ops comb) h = refl
root_buildable core (inner (c ∷ counters) owned ops comb) h = absurd h
root_buildable core (outer counters style owned stages) h = absurd h
root_buildable core (fsm start state test body next) h = absurd h
root_buildable core (branch test first second) h = absurd h
root_buildable core (load r m spans) h = absurd h
root_buildable core (store r m spans) h = absurd h
root_buildable core (sparse kind r m places spans count par) h = absurd h

pub inner_built : (p : PlainProgram) → InnerBlocksCanBeBuilt p
inner_built p one all =
    let core = built_core p in
    both (list_all is_stored_mem core.mems) (is_node_buildable core core.root && is_uncounted core.root) (stored_core p one all) (root_buildable core core.root (narrow_root (lanes_of p).root (laned_root p one)))
