-- Laws of desugaring, as statements.
use Rattle.std.specs.Prelude.{◌≡◌, ℕ, ◌+◌, ◌≤◌, ◌==◌, Bool, false, ◌||◌, IsTrue, List, [], ◌∷◌, ◌++◌, map, length, Contains, All, true}
use Rattle.sp_words.specs.declared.kind.Kind.TheVariants.{Sram}
use Rattle.sp_words.specs.declared.types.Ty.{Ty}
use Rattle.sp_words.specs.declared.types.Ty.TheVariants.{Bit}
use Rattle.sp_words.specs.Interface.{IsCount}
use Rattle.sp_tree.specs.declared.statement.Comb.{Comb}
use Rattle.sp_tree.specs.Expressions.{mem, dims, word}
use Rattle.sp_tree.specs.PlainExpression.{PlainExpr, type_of}
use Rattle.sp_tree.specs.PlainProgram.{PlainProgram}
use Rattle.sp_tree.specs.Step as program
use Rattle.sp_tree.specs.Store as program_store
use Rattle.sp_tree.specs.PlainStatement.{PlainStmts}
use Rattle.sp_tree.specs.Sequential.{run_all}
use Rattle.sp_tree.specs.Shape.{Shape}
use Rattle.sp_tree.specs.Structure.{own_mems, is_inner}
use Rattle.sp_tree.specs.Typing.{Scope, Typed, BodyTyped, after_all}
use Rattle.sp_core.specs.Around.{Around, within}
use Rattle.sp_core.specs.History.{Entry}
use Rattle.sp_core.specs.Invariant.{owned_in, have_owners, is_small}
use Rattle.sp_core.specs.MemoryRules.{are_memories_right, are_ports_right}
use Rattle.sp_core.specs.NodeRules.{are_counters_right, is_node_right, is_owned_once}
use Rattle.sp_core.specs.PlainCore.{PlainCounter, PlainCore}
use Rattle.sp_core.specs.Store as store
use Rattle.sp_core.specs.Typed.{Given}
use Rattle.sp_sugar.specs.Agreement.{HasMemories, View, at_run, HaveRooms, Apart, Agree, GoOn}
use Rattle.sp_sugar.specs.Operations.{code}
use Rattle.sp_sugar.specs.Combination.{element_loop}
use Rattle.sp_sugar.specs.Numbers.{mem_number}
use Rattle.sp_sugar.specs.Rules.{IsRegister, IsElements, MayUse, MayNeed, MayOwn, Keep}
use Rattle.sp_sugar.specs.Stages.{Combines, nothing, folds, reduces, reduces_elements, inner_node}
use Rattle.sp_sugar.specs.Uses.{uses, are_using, names_after}
use Rattle.sp_sugar.specs.Values.{Sources}
use Rattle.sp_sugar.specs.Runs.{Run, inner_run}

-- where a typed expression has a word, its operations go on to give that word, at the place that its code names; no turn is
-- taken, and what is visible agrees before and after
abbrev pub IsFollowed : PlainProgram → PlainCore → PlainExpr → Type 0
IsFollowed p core e =
    (view : View) (done : List Entry) (s after : program_store.Store) (t : store.Store) (left rest w : ℕ)
    → HasMemories p core → Typed p view.scope e → Agree p core view done s t → word p.mems e left s ≡ program.went w rest after
    → (rest ≡ left) × GoOn p core view done (code p.mems view.sources (length done) e).ops t after ((code p.mems view.sources (length done) e).word ∷ []) (w ∷ [])

-- the same of the statements of an inner body, each of whose memories without a reset operation is fresh before, among others
-- that wait: after what a run has, the operations of the run with these statements go on as the statements do, of which none is a controller or a
-- transfer, so their shape is empty
abbrev pub IsInnerRun : PlainProgram → (roomy : List ℕ) → PlainCore → PlainStmts → Type 0
IsInnerRun p roomy core body =
    (view : View) (run : Run) (waits : List ℕ) (s after : program_store.Store) (t : store.Store) (left rest : ℕ) (shapes : List Shape)
    → HasMemories p core → HaveRooms p roomy core body → IsTrue (is_inner body) → BodyTyped p view.scope body → Apart (own_mems body ++ waits) → view.waiting ≡ own_mems body ++ waits
    → GoOn p core (at_run view run) [] run.ops t s [] [] → run_all p.mems roomy body left s ≡ program.went shapes rest after
    → (shapes ≡ []) × GoOn p core (at_run (record view { scope = after_all view.scope body; waiting = waits }) (inner_run p.mems run body)) [] (inner_run p.mems run body).ops t after [] []

-- the operations of a typed expression keep the rules of cores, where what is visible may be used, and give a word of its type
abbrev pub KeepsRules : PlainProgram → PlainCore → PlainExpr → Type 0
KeepsRules p core e =
    (around : Around) (scope : Scope) (sources : Sources) (earlier : Given)
    → HasMemories p core → Typed p scope e → MayUse core around p scope sources earlier
    → Keep core around earlier (code p.mems sources (length earlier) e).ops ((code p.mems sources (length earlier) e).word ∷ []) (type_of e ∷ [])

-- no memory is owned twice, only memories that aren't ports are owned, and all of them are
abbrev pub HaveOneOwner : PlainCore → Type 0
HaveOneOwner core = (is_owned_once core [] (owned_in core.root) ≡ true) × IsTrue (have_owners core)

-- memories and ports are right by themselves
abbrev pub AreDeclaredRight : PlainCore → Type 0
AreDeclaredRight core = IsTrue (are_memories_right core) × IsTrue (are_ports_right core)

-- a core is small enough
abbrev pub IsSmallEnough : PlainCore → Type 0
IsSmallEnough core = IsTrue (is_small core)

-- what a loop combines keeps the rules: its word, under what is visible after its body, and the registers
abbrev pub CombinesRightly : PlainProgram → PlainCore → Around → Scope → Combines → Type 0
CombinesRightly p core around scope nothing = Unit {0}
CombinesRightly p core around scope (folds acc comb e) = Typed p scope e × IsRegister core around acc (type_of e)
CombinesRightly p core around scope (reduces acc begun comb e) = Typed p scope e × IsRegister core around acc (type_of e) × IsRegister core around begun Bit
CombinesRightly p core around scope (reduces_elements part acc begun comb) = Unit {0}

-- the values that an inner body and what is combined with it need
abbrev pub combination_needs : (ℕ → Bool) → Combines → Bool
combination_needs is (folds acc comb e) = uses is e
combination_needs is (reduces acc begun comb e) = uses is e
combination_needs is _ = false

abbrev pub body_needs : PlainStmts → Combines → ℕ → Bool
body_needs body c v = are_using (λ u. u == v) body || combination_needs (names_after (λ u. u == v) body) c

-- an inner body keeps the rules of nodes, with the word that is combined with it, where its counters do and what it needs
-- may be used inside
abbrev pub IsInnerNode : PlainProgram → PlainCore → PlainStmts → Type 0
IsInnerNode p core body =
    (around : Around) (scope : Scope) (sources : Sources) (loops : List PlainCounter) (c : Combines)
    → let inside : Around = within around loops (map (mem_number p.mems) (own_mems body)) in
    HasMemories p core → IsTrue (is_inner body) → BodyTyped p scope body → MayNeed core inside p scope sources (body_needs body c) → ((m : ℕ) → Contains (own_mems body) m → MayOwn core inside p m)
    → CombinesRightly p core inside (after_all scope body) c → IsTrue (are_counters_right core around loops)
    → is_node_right core around (inner_node p.mems (length p.counters) sources loops body c) ≡ true

-- the combination of the elements of a part of a body, by counters after those of the program, keeps the rules of nodes
abbrev pub AreElementsRight : PlainProgram → PlainCore → (part : ℕ) → Type 0
AreElementsRight p core part =
    (around : Around) (acc begun : ℕ) (comb : Comb) → let ty : Ty = (mem p.mems part).ty in
    HasMemories p core → MayOwn core around p part → ((mem p.mems part).kind ≡ Sram) → All IsCount (dims p.mems part) → (length (dims p.mems part) ≤ 3) → (length around.counters + 3 ≤ 1000)
    → IsElements core around acc ty (length (dims p.mems part)) → IsRegister core around begun Bit
    → is_node_right core around (element_loop p.mems (length p.counters) (dims p.mems part) part acc begun ty comb) ≡ true
