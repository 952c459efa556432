-- What stands before the combination of elements of a loop over stages, in the core of a program.
use Rattle.std.proofs.Common.{◌≡◌, ℕ, zero, suc, ◌+◌, ◌<◌, ◌==◌, Bool, true, false, ◌||◌, List, [], ◌∷◌, ◌++◌, length, map, All, Option, Some, None, refl, sym, ◌∙◌, ap, subst, arith}
use Rattle.std.proofs.lemmas.Bool.{eq-eqb}
use Rattle.std.specs.Prelude.{Contains, slice_index_or}
use Rattle.sp_words.specs.Interface.{IsCount}
use Rattle.sp_words.specs.declared.kind.Kind.TheVariants.{Sram}
use Rattle.sp_words.specs.declared.types.Ty.{Ty}
use Rattle.sp_tree.specs.declared.statement.Comb.{Comb}
use Rattle.sp_tree.specs.Declarations.{IsDeclaration}
use Rattle.sp_tree.specs.Expressions as program
use Rattle.sp_tree.specs.PlainProgram.{PlainMem, no_mem, PlainProgram}
use Rattle.sp_tree.specs.PlainStatement.{PlainStmts, stmt, no_stmt, more_stmt}
use Rattle.sp_tree.specs.Tallies.{Tally, primitive}
use Rattle.sp_core.specs.Declarations.{kind_of, dims, is_among}
use Rattle.sp_core.specs.Footprint.{ListNames}
use Rattle.sp_core.specs.PlainCore as core_tree
use Rattle.sp_core.specs.PlainCore.{PlainOp, PlainNode, PlainStages, inner, no_stage, more_stage}
use Rattle.sp_sugar.specs.Agreement.{HasMemories}
use Rattle.sp_sugar.specs.Combination.{element_counters, element_indices, element_ops, element_loop}
use Rattle.sp_sugar.specs.Core.{core_of}
use Rattle.sp_sugar.specs.Early.{stage_of, early_stages}
use Rattle.sp_sugar.specs.Numbers.{is_off_dram, mem_number}
use Rattle.sp_sugar.specs.Operations.{Codes, read_op, code, code_of, codes}
use Rattle.sp_sugar.specs.Registers.{beside, inside}
use Rattle.sp_sugar.specs.Runs.{Run, no_run, with_stmt}
use Rattle.sp_sugar.specs.Stages.{run_stage, first_of, Combines, reduces_elements, stages, node}
use Rattle.sp_sugar.specs.Uses.{no_more}
use Rattle.sp_sugar.specs.Values.{no_sources}
use Rattle.sp_sugar.proofs.MemoryLemmas.{chip_kind, chip_dims}
use Rattle.sp_lane_cores.proofs.LanedEarlier.{run_good, early_good}
use Rattle.sp_lane_trees.specs.ReductionsReduction.{AreStill}
use Rattle.sp_lane_trees.proofs.ElementsCodes.{counts, places, indices_are}

-- an inner body combines the elements of a memory, each after operations that change nothing and name only these memories
pub record HasElements (p : PlainProgram) (owned : List ℕ) (x : PlainNode) : Type 0 where
  pub mems : List PlainMem
  pub word : ℕ
  pub counter : ℕ
  pub sizes : List ℕ
  pub acc : ℕ
  pub begun : ℕ
  pub ty : Ty
  pub comb : Comb
  pub ops : List PlainOp
  pub at : ℕ
  pub front : List PlainOp
  pub node_is : x ≡ inner (element_counters counter sizes) [] ops (Some at)
  pub list : ops ≡ front ++ element_ops mems at word counter sizes acc begun ty comb
  pub place : length front ≡ at
  pub still : AreStill front
  pub own : ListNames (core_of p) (λ m. is_among m owned) front
  pub counted : All IsCount sizes
  pub sram : kind_of (core_of p) acc ≡ Sram
  pub sized : dims (core_of p) acc ≡ sizes

-- so does each stage that combines
abbrev pub LastElementsFront : (p : PlainProgram) → (owned : List ℕ) → PlainStages → Type 0
LastElementsFront p owned no_stage = Unit {0}
LastElementsFront p owned (more_stage first last true x rest) = HasElements p owned x × LastElementsFront p owned rest
LastElementsFront p owned (more_stage first last false x rest) = LastElementsFront p owned rest

-- each memory has dimensions that are counts
dims_counted : (mems : List PlainMem) → All IsDeclaration mems → (m : ℕ) → All IsCount (slice_index_or mems m no_mem).dims
dims_counted [] h m = λ k e lt. absurd (omega (arith, lt))
dims_counted (x ∷ mems) h zero = (h 0 no_mem (omega arith)).dims
dims_counted (x ∷ mems) h (suc m) = dims_counted mems (λ k e lt. h (suc k) e (omega (arith, lt))) m

-- a memory of a list, by its number
pub among_mapped : (f : ℕ → ℕ) (xs : List ℕ) (m : ℕ) → Contains xs m → is_among (f m) (map f xs) ≡ true
among_mapped f [] m c = absurd (omega (arith, c.1))
among_mapped f (x ∷ xs) m (zero, lt, e) = ap (λ b. b || is_among (f m) (map f xs)) (eq-eqb (f m) (f x) (ap f (sym e)))
among_mapped f (x ∷ xs) m (suc j, lt, e) = later (f m == f x) (is_among (f m) (map f xs)) (among_mapped f xs m (j, omega arith, e))
  where
    later : (a b : Bool) → b ≡ true → (a || b) ≡ true
    later true b e = refl
    later false b e = e

-- counters change nothing and name nothing
counts_still : (c n : ℕ) (rest : List PlainOp) → AreStill rest → AreStill (counts c n ++ rest)
counts_still c zero rest h = h
counts_still c (suc n) rest h = (refl, counts_still (suc c) n rest h)

counts_name : (core : core_tree.PlainCore) (is : ℕ → Bool) (c n : ℕ) (rest : List PlainOp) → ListNames core is rest → ListNames core is (counts c n ++ rest)
counts_name core is c zero rest h = h
counts_name core is c (suc n) rest h = (tt, counts_name core is (suc c) n rest h)

module _ (p : PlainProgram) (have : HasMemories p (core_of p)) (counters : ℕ) (owned : List ℕ) (part acc begun : ℕ) (comb : Comb) where
  abbrev number : ℕ
  number = mem_number p.mems acc

  abbrev ds : List ℕ
  ds = program.dims p.mems part

  abbrev ty : Ty
  ty = (program.mem p.mems part).ty

  -- the part is owned, and the accumulator is a memory of the same dimensions
  module _ (own_part : is_among (mem_number p.mems part) owned ≡ true) (lt : acc < length p.mems) (kind_is : (program.mem p.mems acc).kind ≡ Sram) (off : is_off_dram (program.mem p.mems acc) ≡ true) (same : (program.mem p.mems part).dims ≡ (program.mem p.mems acc).dims) where
    loop_has : HasElements p owned (element_loop p.mems counters ds part number begun ty comb)
    unfolding code code_of
    loop_has =
        let reads : Codes → List PlainOp = λ x. x.ops ++ read_op ty (mem_number p.mems part) x.words ∷ [] in
        let i : Codes = codes p.mems no_sources 0 (element_indices counters ds) in
        let same_ops : reads i ≡ counts counters (length ds) ++ read_op ty (mem_number p.mems part) (places 0 (length ds)) ∷ [] = ap reads (indices_are p.mems counters 0 ds) in
        record {
          mems = p.mems;
          word = 0 + length i.ops;
          counter = counters;
          sizes = ds;
          acc = number;
          begun = begun;
          ty = ty;
          comb = comb;
          ops = _;
          at = length (reads i);
          front = reads i;
          node_is = refl;
          list = refl;
          place = refl;
          still = subst AreStill (sym same_ops) (counts_still counters (length ds) (read_op ty (mem_number p.mems part) (places 0 (length ds)) ∷ []) (refl, tt));
          own = subst (ListNames (core_of p) (λ m. is_among m owned)) (sym same_ops) (counts_name (core_of p) (λ m. is_among m owned) counters (length ds) (read_op ty (mem_number p.mems part) (places 0 (length ds)) ∷ []) (own_part, tt));
          counted = dims_counted p.mems have.declared part;
          sram = chip_kind p (core_of p) have acc lt off ∙ kind_is;
          sized = chip_dims p (core_of p) have acc lt off ∙ sym same;
        }

    good : (ops : List PlainOp) (rest : PlainStages) → LastElementsFront p owned rest → LastElementsFront p owned (stage_of ops rest)
    good ops rest h = h

    choose : (o : Option Tally) (xs : Tally → PlainStages) (ys : PlainStages) → ((t : Tally) → LastElementsFront p owned (xs t)) → LastElementsFront p owned ys → LastElementsFront p owned (elim o as (λ _. PlainStages) [ Some t ↦ xs t | None ↦ ys ])
    choose (Some t) xs ys f g = f t
    choose None xs ys f g = g

    pub elements_last : (run : Run) (n : ℕ) (body : PlainStmts) → LastElementsFront p owned (stages p.mems counters run n body no_more (reduces_elements part number begun comb))
    unfolding stages
    elements_last run n no_stmt = run_good (λ xs. LastElementsFront p owned xs) good run.ops _ (loop_has, tt)
    elements_last run n (more_stmt (stmt place k) rest) =
        let c : Combines = reduces_elements part number begun comb in
        let here : ℕ = length (beside k rest no_more) in
        choose (primitive k)
        (λ t. stages p.mems counters (with_stmt p.mems false (first_of n (beside k rest no_more)) run k) (n + here) rest no_more c)
        (run_stage run.ops (early_stages p.mems run.values.elsewhere n k (more_stage 0 0 false (node p.mems counters run.values.elsewhere n (n + here) k) (stages p.mems counters (no_run run.values.elsewhere) (n + here + length (inside k)) rest no_more c))))
        (λ t. elements_last (with_stmt p.mems false (first_of n (beside k rest no_more)) run k) (n + here) rest)
        (run_good (λ xs. LastElementsFront p owned xs) good run.ops _ (early_good (λ xs. LastElementsFront p owned xs) good p.mems run.values.elsewhere n k _ (elements_last (no_run run.values.elsewhere) (n + here + length (inside k)) rest)))
