-- A FIFO that a stream block without stages declares is put into nowhere, so its room tells nothing.
use Rattle.std.proofs.Common.{◌≡◌, ℕ, zero, suc, Bool, true, false, ◌==◌, ◌&&◌, List, [], ◌∷◌, ◌++◌, refl, sym, ◌∙◌, ap, subst, arith, max, if◌then◌else◌}
use Rattle.std.proofs.lemmas.Bool.{false≢true}
use Rattle.std.specs.Prelude.{length, map, Contains}
use Rattle.sp_words.specs.declared.kind.Style.{Style}
use Rattle.sp_words.specs.declared.kind.Style.TheVariants.{Pipe, Sequential, Parallel, Stream}
use Rattle.sp_words.specs.Interface.{word_count}
use Rattle.sp_tree.specs.Accesses.{enqueue}
use Rattle.sp_tree.specs.Elements.{tuples}
use Rattle.sp_tree.specs.Expressions.{dims, word}
use Rattle.sp_tree.specs.PlainExpression.{type_of}
use Rattle.sp_tree.specs.PlainProgram.{PlainMem, PlainProgram}
use Rattle.sp_tree.specs.PlainStatement.{PlainStmtKind, PlainStmts, stmt, declare, name, set_reg, set_out, set_sram, enq, load_sram, load_line, store, gather, scatter, block, foreach, reduce, mem_reduce, fsm, branch, no_stmt, more_stmt}
use Rattle.sp_tree.specs.Sequential.{combining, count_now, name_now, counter_range, assign, assign_all, end_block, run, run_kind, run_all}
use Rattle.sp_tree.specs.Shape.{Shape, ran, looped, turned, branched, shapes}
use Rattle.sp_tree.specs.Step.{Step, pure, ◌>>=◌, ◌>>◌, turn, in_order, as_long_as}
use Rattle.sp_tree.specs.Streams.{own_fifos, is_proper, fifos_with_room, are_stages, roomy_in, kind_roomy, room, stream_room}
use Rattle.sp_tree.specs.Structure.{mems_declared, mems_in, own_mems, is_inner}
use Rattle.sp_tree.specs.Tallies.{is_among}
use Rattle.sp_tree.specs.Typing.{Scope, StmtTyped, BodyTyped, with_counters, with_val, after as scope_after}
use Rattle.sp_sugar.specs.Agreement.{Apart}
use Rattle.sp_sugar.proofs.Entering.{same_mems, own_declared}
use Rattle.sp_sugar.proofs.RunKeeps.{in_front, in_back}
use Rattle.sp_same.proofs.Renewed.{in_either}
use Rattle.sp_bodies.proofs.Owned.{apart_drop}
use Rattle.sp_outcomes.proofs.Rooms.{tree_among, tree_there, same_tests, out_of_filter, stream_fifos, kind_fifos}
use Rattle.sp_outcomes.proofs.StreamBlocks.{of_five}

-- the FIFOs that statements put into
abbrev mutual
  pub puts : PlainStmts → List ℕ
  puts no_stmt = []
  puts (more_stmt (stmt place kind) rest) = kind_puts kind ++ puts rest

  pub kind_puts : PlainStmtKind → List ℕ
  kind_puts (enq m e) = m ∷ []
  kind_puts (block style body) = puts body
  kind_puts (foreach style loops body) = puts body
  kind_puts (reduce style fold acc loops body e comb) = puts body
  kind_puts (mem_reduce style acc loops body part comb) = puts body
  kind_puts (fsm start tested test state body last next) = puts body
  kind_puts (branch test first second) = puts first ++ puts second
  kind_puts _ = []

-- where these have the same room, so does the program go on the same
module _ (mems : List PlainMem) (R S : List ℕ) where
  abbrev AreRoomsSame : List ℕ → Type 0
  AreRoomsSame ms = (m : ℕ) → Contains ms m → room mems R m ≡ room mems S m

  mutual
    unfolding run run_kind run_all

    pub same_all : (body : PlainStmts) → AreRoomsSame (puts body) → run_all mems R body ≡ run_all mems S body
    same_all no_stmt f = refl
    same_all (more_stmt (stmt place k) rest) f =
        ap (λ (x : Step (List Shape)). (turn >> x) >>= (λ one. run_all mems R rest >>= (λ others. pure (one ++ others)))) (same_kind k place (λ m c. f m (in_front (kind_puts k) (puts rest) m c)))
        ∙ ap (λ (x : Step (List Shape)). (turn >> run_kind mems S k place) >>= (λ one. x >>= (λ others. pure (one ++ others)))) (same_all rest (λ m c. f m (in_back (kind_puts k) (puts rest) m c)))

    same_kind : (k : PlainStmtKind) (place : ℕ) → AreRoomsSame (kind_puts k) → run_kind mems R k place ≡ run_kind mems S k place
    same_kind (enq m e) place f = ap (λ n. word mems e >>= (λ w. enqueue m n w place >> pure [])) (f m (0, omega arith, refl))
    same_kind (block style body) place f = ap (λ (x : Step (List Shape)). x >>= (λ inner. end_block mems style body place >> pure (ran (shapes inner) ∷ []))) (same_all body f)
    same_kind (foreach style loops body) place f = ap (λ (x : Step (List Shape)). in_order (counter_range mems) loops >>= (λ ranges. in_order (λ ws. turn >> (count_now loops ws >> (x >>= (λ inner. pure (ran (shapes inner)))))) (tuples ranges) >>= (λ bodies. pure (looped (map length ranges) (shapes bodies) ∷ [])))) (same_all body f)
    same_kind (reduce style fold acc loops body e comb) place f = ap (λ (x : Step (List Shape)). in_order (counter_range mems) loops >>= (λ ranges. in_order (λ (it : Bool × List ℕ). turn >> (count_now loops it.1 >> (x >>= (λ inner. word mems e >>= (λ w. assign mems comb acc 0 it.0 w place >> pure (ran (shapes inner))))))) (combining fold (tuples ranges)) >>= (λ bodies. pure (looped (map length ranges) (shapes bodies) ∷ [])))) (same_all body f)
    same_kind (mem_reduce style acc loops body part comb) place f = ap (λ (x : Step (List Shape)). in_order (counter_range mems) loops >>= (λ ranges. in_order (λ (it : Bool × List ℕ). turn >> (count_now loops it.1 >> (x >>= (λ inner. assign_all mems comb acc part it.0 place >> pure (ran (shapes inner)))))) (combining false (tuples ranges)) >>= (λ bodies. pure (looped (map length ranges) (shapes bodies) ∷ [])))) (same_all body f)
    same_kind (fsm start tested test state body last next) place f = ap (λ (x : Step (List Shape)). word mems start >>= (λ first. as_long_as (λ w. name_now tested w >> (word mems test >>= (λ holds. pure (holds == 1)))) (λ w. turn >> (name_now state w >> (x >>= (λ inner. name_now last w >> (word mems next >>= (λ after. pure (after, ran (shapes inner)))))))) first
        >>= (λ bodies. pure (turned (length bodies) (shapes bodies) ∷ [])))) (same_all body f)
    same_kind (branch test first second) place f =
        ap (λ (x : Step (List Shape)). word mems test >>= (λ holds. (elim (holds == 1) as (λ _. Step (List Shape)) [ true ↦ x | false ↦ run_all mems R second ]) >>= (λ inner. pure (branched (holds == 1) (ran (shapes inner)) ∷ [])))) (same_all first (λ m c. f m (in_front (puts first) (puts second) m c)))
        ∙ ap (λ (x : Step (List Shape)). word mems test >>= (λ holds. (elim (holds == 1) as (λ _. Step (List Shape)) [ true ↦ run_all mems S first | false ↦ x ]) >>= (λ inner. pure (branched (holds == 1) (ran (shapes inner)) ∷ [])))) (same_all second (λ m c. f m (in_back (puts first) (puts second) m c)))
    same_kind (declare m) place f = refl
    same_kind (name v e) place f = refl
    same_kind (set_reg m e) place f = refl
    same_kind (set_out m e) place f = refl
    same_kind (set_sram m xs e) place f = refl
    same_kind (load_sram sram dram spans) place f = refl
    same_kind (load_line line dram spans) place f = refl
    same_kind (store dram spans sram) place f = refl
    same_kind (gather sram dram places e) place f = refl
    same_kind (scatter dram places e sram) place f = refl

-- blocks that declare FIFOs and do nothing
module _ (mems : List PlainMem) where
  abbrev pub is_idle : Style → PlainStmts → Bool
  is_idle Stream body = is_inner body && is_proper mems body
  is_idle _ body = false

  -- their FIFOs, and the memories that are declared outside of them
  abbrev mutual
    pub idle : PlainStmts → List ℕ
    idle no_stmt = []
    idle (more_stmt (stmt place kind) rest) = kind_idle kind ++ idle rest

    pub kind_idle : PlainStmtKind → List ℕ
    kind_idle (block style body) = (if is_idle style body then own_fifos mems body else []) ++ idle body
    kind_idle (foreach style loops body) = idle body
    kind_idle (reduce style fold acc loops body e comb) = idle body
    kind_idle (mem_reduce style acc loops body part comb) = idle body
    kind_idle (fsm start tested test state body last next) = idle body
    kind_idle (branch test first second) = idle first ++ idle second
    kind_idle _ = []

  abbrev mutual
    pub used : PlainStmts → List ℕ
    used no_stmt = []
    used (more_stmt (stmt place kind) rest) = kind_used kind ++ used rest

    pub kind_used : PlainStmtKind → List ℕ
    kind_used (declare m) = m ∷ []
    kind_used (block style body) = if is_idle style body then [] else used body
    kind_used (foreach style loops body) = used body
    kind_used (reduce style fold acc loops body e comb) = used body
    kind_used (mem_reduce style acc loops body part comb) = used body
    kind_used (fsm start tested test state body last next) = used body
    kind_used (branch test first second) = used first ++ used second
    kind_used _ = []

  both_of : (a b : Bool) → a && b ≡ true → (a ≡ true) × (b ≡ true)
  both_of true b e = (refl, e)
  both_of false b e = absurd (false≢true e)

  -- such a block puts nothing
  no_puts : (body : PlainStmts) → is_inner body ≡ true → are_stages body ≡ true → puts body ≡ []
  no_puts no_stmt i e = refl
  no_puts (more_stmt (stmt place (declare m)) rest) i e = no_puts rest i e
  no_puts (more_stmt (stmt place (name v x)) rest) i e = absurd (false≢true e)
  no_puts (more_stmt (stmt place (set_reg m x)) rest) i e = absurd (false≢true e)
  no_puts (more_stmt (stmt place (set_out m x)) rest) i e = absurd (false≢true e)
  no_puts (more_stmt (stmt place (set_sram m xs x)) rest) i e = absurd (false≢true e)
  no_puts (more_stmt (stmt place (enq m x)) rest) i e = absurd (false≢true e)
  no_puts (more_stmt (stmt place k) rest) i e = absurd (false≢true i)

  idle_puts : (style : Style) (body : PlainStmts) → is_idle style body ≡ true → puts body ≡ []
  idle_puts Stream body e = let f = both_of (is_inner body) (is_proper mems body) e in no_puts body f.0 (of_five (are_stages body) _ _ _ _ f.1)
  idle_puts Pipe body e = absurd (false≢true e)
  idle_puts Sequential body e = absurd (false≢true e)
  idle_puts Parallel body e = absurd (false≢true e)

  -- both are declared
  sides : (m : ℕ) (xs ys us vs : List ℕ) → (Contains xs m → Contains us m) → (Contains ys m → Contains vs m) → Contains (xs ++ ys) m → Contains (us ++ vs) m
  sides m xs ys us vs f g c = in_either xs ys m c (λ d. in_front us vs m (f d)) (λ d. in_back us vs m (g d))

  mutual
    used_declared : (m : ℕ) (body : PlainStmts) → Contains (used body) m → Contains (mems_declared body) m
    used_declared m no_stmt c = c
    used_declared m (more_stmt (stmt place k) rest) c = sides m (kind_used k) (used rest) (mems_in k) (mems_declared rest) (kind_used_declared m k) (used_declared m rest) c

    kind_used_declared : (m : ℕ) (k : PlainStmtKind) → Contains (kind_used k) m → Contains (mems_in k) m
    kind_used_declared m (declare x) c = c
    kind_used_declared m (block style body) c = go (is_idle style body) c (used_declared m body)
      where
        go : (b : Bool) → Contains (if b then [] else used body) m → (Contains (used body) m → Contains (mems_declared body) m) → Contains (mems_declared body) m
        go true d f = absurd (omega (arith, d.1))
        go false d f = f d
    kind_used_declared m (foreach style loops body) c = used_declared m body c
    kind_used_declared m (reduce style fold acc loops body e comb) c = used_declared m body c
    kind_used_declared m (mem_reduce style acc loops body part comb) c = used_declared m body c
    kind_used_declared m (fsm start tested test state body last next) c = used_declared m body c
    kind_used_declared m (branch test first second) c = sides m (used first) (used second) (mems_declared first) (mems_declared second) (used_declared m first) (used_declared m second) c
    kind_used_declared m k c = absurd (omega (arith, c.1))

  mutual
    pub idle_declared : (m : ℕ) (body : PlainStmts) → Contains (idle body) m → Contains (mems_declared body) m
    idle_declared m no_stmt c = c
    idle_declared m (more_stmt (stmt place k) rest) c = sides m (kind_idle k) (idle rest) (mems_in k) (mems_declared rest) (kind_idle_declared m k) (idle_declared m rest) c

    kind_idle_declared : (m : ℕ) (k : PlainStmtKind) → Contains (kind_idle k) m → Contains (mems_in k) m
    kind_idle_declared m (block style body) c = in_either (if is_idle style body then own_fifos mems body else []) (idle body) m c (λ d. go (is_idle style body) d) (idle_declared m body)
      where
        go : (b : Bool) → Contains (if b then own_fifos mems body else []) m → Contains (mems_declared body) m
        go true d = own_declared body m (out_of_filter _ (own_mems body) m d)
        go false d = absurd (omega (arith, d.1))
    kind_idle_declared m (foreach style loops body) c = idle_declared m body c
    kind_idle_declared m (reduce style fold acc loops body e comb) c = idle_declared m body c
    kind_idle_declared m (mem_reduce style acc loops body part comb) c = idle_declared m body c
    kind_idle_declared m (fsm start tested test state body last next) c = idle_declared m body c
    kind_idle_declared m (branch test first second) c = sides m (idle first) (idle second) (mems_declared first) (mems_declared second) (idle_declared m first) (idle_declared m second) c
    kind_idle_declared m k c = absurd (omega (arith, c.1))

  -- and no memory is both
  apart_from : (xs ys : List ℕ) → Apart (xs ++ ys) → (m : ℕ) → Contains xs m → Contains ys m → ⊥
  apart_from [] ys a m c d = omega (arith, c.1)
  apart_from (x ∷ xs) ys a m (zero, lt, e) d = a.0 (subst (Contains (xs ++ ys)) (sym e) (in_back xs ys m d))
  apart_from (x ∷ xs) ys a m (suc j, lt, e) d = apart_from xs ys a.1 m (j, omega (arith, lt), e) d

  apart_front : (xs ys : List ℕ) → Apart (xs ++ ys) → Apart xs
  apart_front [] ys a = tt
  apart_front (x ∷ xs) ys a = (λ c. a.0 (in_front xs ys x c), apart_front xs ys a.1)

  never_both : (m : ℕ) (xs ys us vs ms ns : List ℕ) → Apart (ms ++ ns) → (Contains xs m → Contains ms m) → (Contains ys m → Contains ns m) → (Contains us m → Contains ms m) → (Contains vs m → Contains ns m)
      → (Contains xs m → Contains us m → ⊥) → (Contains ys m → Contains vs m → ⊥) → Contains (xs ++ ys) m → Contains (us ++ vs) m → ⊥
  never_both m xs ys us vs ms ns a fx fy fu fv one two c d = in_either xs ys m c
      (λ i. in_either us vs m d (λ j. one i j) (λ j. apart_from ms ns a m (fx i) (fv j)))
      (λ i. in_either us vs m d (λ j. apart_from ms ns a m (fu j) (fy i)) (λ j. two i j))

  mutual
    pub used_or_idle : (m : ℕ) (body : PlainStmts) → Apart (mems_declared body) → Contains (used body) m → Contains (idle body) m → ⊥
    used_or_idle m no_stmt a c d = omega (arith, c.1)
    used_or_idle m (more_stmt (stmt place k) rest) a c d =
        never_both m (kind_used k) (used rest) (kind_idle k) (idle rest) (mems_in k) (mems_declared rest) a (kind_used_declared m k) (used_declared m rest) (kind_idle_declared m k) (idle_declared m rest)
        (kind_used_or_idle m k (apart_front (mems_in k) (mems_declared rest) a)) (used_or_idle m rest (apart_drop (mems_in k) (mems_declared rest) a)) c d

    kind_used_or_idle : (m : ℕ) (k : PlainStmtKind) → Apart (mems_in k) → Contains (kind_used k) m → Contains (kind_idle k) m → ⊥
    kind_used_or_idle m (block style body) a c d = go (is_idle style body) c d (used_or_idle m body a)
      where
        go : (b : Bool) → Contains (if b then [] else used body) m → Contains ((if b then own_fifos mems body else []) ++ idle body) m → (Contains (used body) m → Contains (idle body) m → ⊥) → ⊥
        go true i j f = omega (arith, i.1)
        go false i j f = f i j
    kind_used_or_idle m (foreach style loops body) a c d = used_or_idle m body a c d
    kind_used_or_idle m (reduce style fold acc loops body e comb) a c d = used_or_idle m body a c d
    kind_used_or_idle m (mem_reduce style acc loops body part comb) a c d = used_or_idle m body a c d
    kind_used_or_idle m (fsm start tested test state body last next) a c d = used_or_idle m body a c d
    kind_used_or_idle m (branch test first second) a c d =
        never_both m (used first) (used second) (idle first) (idle second) (mems_declared first) (mems_declared second) a (used_declared m first) (used_declared m second) (idle_declared m first) (idle_declared m second)
        (used_or_idle m first (apart_front (mems_declared first) (mems_declared second) a)) (used_or_idle m second (apart_drop (mems_declared first) (mems_declared second) a)) c d
    kind_used_or_idle m k a c d = omega (arith, d.1)

-- what is put into is visible from outside, or declared in a block that does something
module _ (p : PlainProgram) {P : Type 0} (m : ℕ) where
  mutual
    pub puts_seen : (body : PlainStmts) (scope : Scope) → BodyTyped p scope body → Contains (puts body) m → (Contains scope.mems m → P) → (Contains (used p.mems body) m → P) → P
    puts_seen no_stmt scope typed c f g = absurd (omega (arith, c.1))
    puts_seen (more_stmt (stmt place k) rest) scope typed c f g = in_either (kind_puts k) (puts rest) m c
        (λ d. kind_seen k scope typed.0 d f (λ i. g (in_front (kind_used p.mems k) (used p.mems rest) m i)))
        (λ d. puts_seen rest (scope_after scope k) typed.1 d (λ i. later k scope i f (λ j. g (in_front (kind_used p.mems k) (used p.mems rest) m j))) (λ i. g (in_back (kind_used p.mems k) (used p.mems rest) m i)))

    later : (k : PlainStmtKind) (scope : Scope) → Contains (scope_after scope k).mems m → (Contains scope.mems m → P) → (Contains (kind_used p.mems k) m → P) → P
    later (declare x) scope (zero, lt, e) f g = g (0, omega arith, e)
    later (declare x) scope (suc j, lt, e) f g = f (j, omega (arith, lt), e)
    later k scope c f g = f c

    kind_seen : (k : PlainStmtKind) (scope : Scope) → StmtTyped p scope k → Contains (kind_puts k) m → (Contains scope.mems m → P) → (Contains (kind_used p.mems k) m → P) → P
    kind_seen (enq x e) scope typed (zero, lt, is) f g = f (subst (Contains scope.mems) is typed.0.seen)
    kind_seen (enq x e) scope typed (suc j, lt, is) f g = absurd (omega (arith, lt))
    kind_seen (block style body) scope typed c f g = go (is_idle p.mems style body) (λ i. idle_puts p.mems style body i) g (puts_seen body scope typed c f)
      where
        go : (b : Bool) → (b ≡ true → puts body ≡ []) → (Contains (if b then [] else used p.mems body) m → P) → ((Contains (used p.mems body) m → P) → P) → P
        go true none h more = absurd (nothing (puts body) (none refl) c)
          where
            nothing : (xs : List ℕ) → xs ≡ [] → Contains xs m → ⊥
            nothing xs e d = let y = subst (λ l. Contains l m) e d in omega (arith, y.1)
        go false none h more = more h
    kind_seen (foreach style loops body) scope typed c f g = puts_seen body (with_counters scope loops) typed.2 c (λ d. f (subst (λ l. Contains l m) (same_mems scope loops) d)) g
    kind_seen (reduce style fold acc loops body e comb) scope typed c f g = puts_seen body (with_counters scope loops) typed.2 c (λ d. f (subst (λ l. Contains l m) (same_mems scope loops) d)) g
    kind_seen (mem_reduce style acc loops body part comb) scope typed c f g = puts_seen body (with_counters scope loops) typed.2 c (λ d. f (subst (λ l. Contains l m) (same_mems scope loops) d)) g
    kind_seen (fsm start tested test state body last next) scope typed c f g = puts_seen body (with_val scope state (type_of start)) typed.4 c f g
    kind_seen (branch test first second) scope typed c f g = in_either (puts first) (puts second) m c
        (λ d. puts_seen first scope typed.1 d f (λ i. g (in_front (used p.mems first) (used p.mems second) m i)))
        (λ d. puts_seen second scope typed.2 d f (λ i. g (in_back (used p.mems first) (used p.mems second) m i)))
    kind_seen k scope typed c f g = absurd (omega (arith, c.1))

-- apart from those the FIFOs with more room are those of blocks with stages
module _ (mems : List PlainMem) (m : ℕ) where
  abbrev Both : (xs ys : List ℕ) → Type 0
  Both xs ys = (Contains xs m → Contains ys m) × (Contains ys m → Contains xs m)

  join : (xs ys us vs : List ℕ) → Both xs ys → Both us vs → Both (xs ++ us) (ys ++ vs)
  join xs ys us vs f g = (λ c. in_either xs us m c (λ d. in_front ys vs m (f.0 d)) (λ d. in_back ys vs m (g.0 d)), λ c. in_either ys vs m c (λ d. in_front xs us m (f.1 d)) (λ d. in_back xs us m (g.1 d)))

  its_fifos : (style : Style) (body : PlainStmts) → (Contains (if is_idle mems style body then own_fifos mems body else []) m → ⊥) → Both (fifos_with_room mems style body) (if is_inner body then [] else fifos_with_room mems style body)
  its_fifos Stream body not_idle = go (is_inner body) (is_proper mems body) not_idle
    where
      go : (i b : Bool) → (Contains (if i && b then own_fifos mems body else []) m → ⊥) → Both (if b then own_fifos mems body else []) (if i then [] else if b then own_fifos mems body else [])
      go true true f = (λ c. absurd (f c), λ c. absurd (omega (arith, c.1)))
      go true false f = (λ c. c, λ c. c)
      go false b f = (λ c. c, λ c. c)
  its_fifos Pipe body not_idle = go (is_inner body)
    where
      go : (i : Bool) → Both [] (if i then [] else [])
      go true = (λ c. c, λ c. c)
      go false = (λ c. c, λ c. c)
  its_fifos Sequential body not_idle = go (is_inner body)
    where
      go : (i : Bool) → Both [] (if i then [] else [])
      go true = (λ c. c, λ c. c)
      go false = (λ c. c, λ c. c)
  its_fifos Parallel body not_idle = go (is_inner body)
    where
      go : (i : Bool) → Both [] (if i then [] else [])
      go true = (λ c. c, λ c. c)
      go false = (λ c. c, λ c. c)

  mutual
    same_fifos : (body : PlainStmts) → (Contains (idle mems body) m → ⊥) → Both (roomy_in mems body) (stream_fifos mems body)
    same_fifos no_stmt f = (λ c. c, λ c. c)
    same_fifos (more_stmt (stmt place k) rest) f = join (kind_roomy mems k) (kind_fifos mems k) (roomy_in mems rest) (stream_fifos mems rest)
        (kind_same_fifos k (λ c. f (in_front (kind_idle mems k) (idle mems rest) m c))) (same_fifos rest (λ c. f (in_back (kind_idle mems k) (idle mems rest) m c)))

    kind_same_fifos : (k : PlainStmtKind) → (Contains (kind_idle mems k) m → ⊥) → Both (kind_roomy mems k) (kind_fifos mems k)
    kind_same_fifos (block style body) f = join (fifos_with_room mems style body) (if is_inner body then [] else fifos_with_room mems style body) (roomy_in mems body) (stream_fifos mems body)
        (its_fifos style body (λ c. f (in_front (if is_idle mems style body then own_fifos mems body else []) (idle mems body) m c))) (same_fifos body (λ c. f (in_back (if is_idle mems style body then own_fifos mems body else []) (idle mems body) m c)))
    kind_same_fifos (foreach style loops body) f = same_fifos body f
    kind_same_fifos (reduce style fold acc loops body e comb) f = same_fifos body f
    kind_same_fifos (mem_reduce style acc loops body part comb) f = same_fifos body f
    kind_same_fifos (fsm start tested test state body last next) f = same_fifos body f
    kind_same_fifos (branch test first second) f = join (roomy_in mems first) (stream_fifos mems first) (roomy_in mems second) (stream_fifos mems second)
        (same_fifos first (λ c. f (in_front (idle mems first) (idle mems second) m c))) (same_fifos second (λ c. f (in_back (idle mems first) (idle mems second) m c)))
    kind_same_fifos k f = (λ c. c, λ c. c)

  pub same_room : (body : PlainStmts) → (Contains (idle mems body) m → ⊥) → room mems (roomy_in mems body) m ≡ room mems (stream_fifos mems body) m
  same_room body f =
      let both = same_fifos body f in
      let same : is_among m (roomy_in mems body) ≡ is_among m (stream_fifos mems body) = same_tests _ _ (λ e. tree_among m (stream_fifos mems body) (both.0 (tree_there m (roomy_in mems body) e))) (λ e. tree_among m (roomy_in mems body) (both.1 (tree_there m (stream_fifos mems body) e))) in
      ap (λ b. if b then max (word_count (dims mems m)) stream_room else word_count (dims mems m)) same
