-- The core of a program ends as the program does.
use Rattle.std.proofs.Common.{◌≡◌, ℕ, zero, suc, ◌+◌, ◌-◌, ◌<◌, ◌≤◌, Bool, true, false, List, [], ◌∷◌, ◌++◌, Option, refl, sym, ◌∙◌, ap, subst, arith, length-append, max, not, if◌then◌else◌}
use Rattle.std.proofs.lemmas.Bool.{true≢false, false≢true}
use Rattle.std.specs.Prelude.{length, slice_index_or, Contains}
use Rattle.sp_words.specs.declared.kind.Kind.{Kind}
use Rattle.sp_words.specs.declared.kind.Kind.TheVariants.{Reg, Sram, Fifo, LineBuf, Dram, ArgIn, ArgOut}
use Rattle.sp_words.specs.declared.kind.Style.TheVariants.{Pipe}
use Rattle.sp_words.specs.Interface.{word_count}
use Rattle.sp_words.specs.Memory.{Contents}
use Rattle.sp_words.specs.Ports.{PlainInput}
use Rattle.sp_tree.specs.Counts.{is_port}
use Rattle.sp_tree.specs.Elements.{numbers_below}
use Rattle.sp_tree.specs.Expressions as expressions
use Rattle.sp_tree.specs.Invariant.{IsProgram, outer_scope, port_numbers}
use Rattle.sp_tree.specs.Meaning as program
use Rattle.sp_tree.specs.Meaning.{is_out, is_dram, numbers_of, run_program, seq}
use Rattle.sp_tree.specs.PlainProgram.{PlainMem, PlainProgram, no_mem}
use Rattle.sp_tree.specs.Sequential.{run_all}
use Rattle.sp_tree.specs.Shape as program_shape
use Rattle.sp_tree.specs.Shape.{ran, shapes}
use Rattle.sp_tree.specs.Step as step
use Rattle.sp_tree.specs.Store as program_store
use Rattle.sp_tree.specs.Streams.{roomy_in}
use Rattle.sp_tree.specs.Structure.{mems_declared}
use Rattle.sp_tree.specs.Tallies.{is_among}
use Rattle.sp_core.specs.Declarations as core_declarations
use Rattle.sp_core.specs.History.{History}
use Rattle.sp_core.specs.Meaning as core_meaning
use Rattle.sp_core.specs.Meaning.{meaning, run_core}
use Rattle.sp_core.specs.PlainCore as core_tree
use Rattle.sp_core.specs.Scope.{plainly}
use Rattle.sp_core.specs.Shape.{shape_of}
use Rattle.sp_sugar.specs.Agreement.{HasMemories, Apart}
use Rattle.sp_sugar.specs.Core.{core_of}
use Rattle.sp_sugar.specs.Numbers.{mem_number, written_mems}
use Rattle.sp_sugar.specs.Registers.{registers_in}
use Rattle.sp_sugar.specs.Uses.{no_more}
use Rattle.sp_sugar.specs.Values.{no_sources}
use Rattle.sp_sugar.proofs.MemoryLemmas.{chip_mem}
use Rattle.sp_sugar.proofs.OwnerCounts.{count_of}
use Rattle.sp_sugar.proofs.Owners.{declared_is, off_dram, self_count, later_count}
use Rattle.sp_sugar.proofs.StepLemmas.{taken_apart}
use Rattle.sp_same.specs.Contents.{IsContents, HoldRightly}
use Rattle.sp_same.specs.Counts.{counts_in, counts_of}
use Rattle.sp_same.specs.Following.{IsOwn, NodeGoes, first_view}
use Rattle.sp_same.proofs.Ends.{numbers_are}
use Rattle.sp_same.proofs.Renewed.{in_either}
use Rattle.sp_same.proofs.Turns.{turn_falls}
use Rattle.sp_same.proofs.Whole.{begin_alike, put_out_alike}
use Rattle.sp_bodies.specs.Bodies.{HaveRoomsAlike, AreDeclared}
use Rattle.sp_outcomes.specs.Laws.{IsProgramFollowed}
use Rattle.sp_bodies.proofs.Owned.{apart_drop}
use Rattle.sp_outcomes.proofs.Recursion.{body_by, stages_followed}
use Rattle.sp_outcomes.proofs.Rooms.{AreAlike, AreOn, core_among, core_there, tree_among, tree_there, same_tests, stream_fifos, body_alone_alike}
use Rattle.sp_outcomes.proofs.IdleFifos.{puts, idle, idle_declared, used_or_idle, puts_seen, same_all, same_room}

contains_count : (xs : List ℕ) (m : ℕ) → Contains xs m → 1 ≤ count_of m xs
contains_count [] m c = absurd (omega (arith, c.1))
contains_count (x ∷ xs) m (zero, lt, e) = subst (λ y. 1 ≤ count_of y (x ∷ xs)) e (self_count x xs)
contains_count (x ∷ xs) m (suc j, lt, e) = later_count m x xs (contains_count xs m (j, omega arith, e))

-- different numbers
below_all : (n m : ℕ) → Contains (numbers_below n) m → m < n
below_all zero m c = absurd (omega (arith, c.1))
below_all (suc n) m c = in_either (numbers_below n) (n ∷ []) m c (λ d. let f = below_all n m d in omega (arith, f)) (λ d. last d)
  where
    last : Contains (n ∷ []) m → m < suc n
    last (zero, lt, e) = omega (arith, e)
    last (suc j, lt, e) = absurd (omega (arith, lt))

apart_last : (xs : List ℕ) (n : ℕ) → Apart xs → (Contains xs n → ⊥) → Apart (xs ++ n ∷ [])
apart_last [] n a f = (λ c. omega (arith, c.1), tt)
apart_last (x ∷ xs) n a f = (λ c. in_either xs (n ∷ []) x c a.0 (λ d. other d), apart_last xs n a.1 (λ c. f (suc c.0, omega (arith, c.1), c.2)))
  where
    other : Contains (n ∷ []) x → ⊥
    other (zero, lt, e) = f (0, omega arith, sym e)
    other (suc j, lt, e) = omega (arith, lt)

apart_below : (n : ℕ) → Apart (numbers_below n)
apart_below zero = tt
apart_below (suc n) = apart_last (numbers_below n) n (apart_below n) (λ c. let f = below_all n n c in omega (arith, f))

append_nothing : {A : Type 0} (xs : List A) → xs ++ [] ≡ xs
append_nothing [] = refl
append_nothing (x ∷ xs) = ap (λ l. x ∷ l) (append_nothing xs)

-- ports among them
more_choice : (first m : ℕ) (xs ys : List ℕ) → (Contains xs m → Contains ys m) → (a b : Bool) → (a ≡ true → b ≡ true) → Contains ((if a then first ∷ [] else []) ++ xs) m → Contains ((if b then first ∷ [] else []) ++ ys) m
more_choice first m xs ys g true true f (zero, lt, e) = (0, omega arith, e)
more_choice first m xs ys g true true f (suc j, lt, e) = let d = g (j, omega arith, e) in (suc d.0, omega (arith, d.1), d.2)
more_choice first m xs ys g true false f c = absurd (false≢true (f refl))
more_choice first m xs ys g false true f c = let d = g c in (suc d.0, omega (arith, d.1), d.2)
more_choice first m xs ys g false false f c = g c

more_numbers : (is js : Kind → Bool) → ((k : Kind) → is k ≡ true → js k ≡ true) → (first : ℕ) (ms : List PlainMem) (m : ℕ) → Contains (numbers_of is first ms) m → Contains (numbers_of js first ms) m
more_numbers is js h first [] m c = absurd (omega (arith, c.1))
more_numbers is js h first (x ∷ xs) m c = more_choice first m (numbers_of is (suc first) xs) (numbers_of js (suc first) xs) (more_numbers is js h (suc first) xs m) (is x.kind) (js x.kind) (h x.kind) c

outs_are_ports : (k : Kind) → is_out k ≡ true → is_port k ≡ true
outs_are_ports Reg e = e
outs_are_ports Sram e = e
outs_are_ports Fifo e = e
outs_are_ports LineBuf e = e
outs_are_ports Dram e = refl
outs_are_ports ArgIn e = refl
outs_are_ports ArgOut e = refl

drams_are_ports : (k : Kind) → is_dram k ≡ true → is_port k ≡ true
drams_are_ports Reg e = e
drams_are_ports Sram e = e
drams_are_ports Fifo e = e
drams_are_ports LineBuf e = e
drams_are_ports Dram e = refl
drams_are_ports ArgIn e = refl
drams_are_ports ArgOut e = refl

port_holds : (k : Kind) (ds : List ℕ) (c : Option Contents) → is_port k ≡ true → IsContents k ds c
port_holds Reg ds c e = absurd (false≢true e)
port_holds Sram ds c e = absurd (false≢true e)
port_holds Fifo ds c e = absurd (false≢true e)
port_holds LineBuf ds c e = absurd (false≢true e)
port_holds Dram ds c e = tt
port_holds ArgIn ds c e = tt
port_holds ArgOut ds c e = tt

module _ (p : PlainProgram) (h : IsProgram p) where
  memories : HasMemories p (core_of p)
  unfolding core_of
  memories = record { declared = h.declarations; others = registers_in p.body no_more; mems = refl; ports = refl }

  abbrev first : ℕ
  first = length (written_mems p.mems)

  -- those that have more room in the core
  abbrev roomy : List ℕ
  roomy = stream_fifos p.mems p.body

  on_chip : AreOn p (mems_declared p.body)
  on_chip m c = let d = declared_is p h m (contains_count (mems_declared p.body) m c) in (d.0, off_dram p h m d.1)

  root_alike : AreAlike p (core_declarations.streamed (core_of p).root) roomy
  unfolding core_of
  root_alike = body_alone_alike p no_sources first p.body (outer_scope p) h.typed on_chip (omega arith)

  rooms : HaveRoomsAlike p roomy (core_of p)
  rooms m lt is =
      let off = ap (λ (k : Kind). not (is_dram k)) is in
      let n : ℕ = mem_number p.mems m in
      let all : List ℕ = core_declarations.streamed (core_of p).root in
      let same : core_declarations.is_among n all ≡ is_among m roomy = same_tests _ _ (λ e. tree_among m roomy ((root_alike m is).0 (core_there n all e))) (λ e. core_among n all ((root_alike m is).1 (tree_there m roomy e))) in
      ap (λ b. if b then max (core_declarations.depth (core_of p) n) 65536 else core_declarations.depth (core_of p) n) same
      ∙ ap (λ (x : core_tree.PlainMem). if is_among m roomy then max (word_count x.dims) 65536 else word_count x.dims) (chip_mem p (core_of p) memories m lt off)

  declared : AreDeclared p (core_of p) first (registers_in p.body no_more)
  unfolding core_of
  declared = (omega arith, λ j lt. (omega (arith, lt, length-append (written_mems p.mems) (registers_in p.body no_more)), back (written_mems p.mems) (registers_in p.body no_more) j))
    where
      back : (xs ys : List core_tree.PlainMem) (j : ℕ) → slice_index_or (xs ++ ys) (length xs + j) core_tree.no_mem ≡ slice_index_or ys j core_tree.no_mem
      back [] ys j = ap (λ k. slice_index_or ys k core_tree.no_mem) {x = 0 + j} {y = j} (omega arith)
      back (x ∷ xs) ys j = ap (λ k. slice_index_or (x ∷ xs ++ ys) k core_tree.no_mem) {x = suc (length xs) + j} {y = suc (length xs + j)} (omega arith) ∙ back xs ys j

  port_kind : (m : ℕ) → Contains (port_numbers p) m → is_port (expressions.mem p.mems m).kind ≡ true
  port_kind m c = ap (λ k. is_port (slice_index_or p.mems k no_mem).kind) {x = m} {y = m - 0} (omega arith) ∙ numbers_are is_port 0 p.mems m c

  own : (m : ℕ) → Contains (mems_declared p.body) m → IsOwn p (outer_scope p) m
  own m c = let d = declared_is p h m (contains_count (mems_declared p.body) m c) in record { exists = d.0; on_chip = off_dram p h m d.1; unseen = λ i. true≢false (sym (port_kind m i) ∙ d.1) }

  apart : Apart (mems_declared p.body)
  apart = apart_drop (port_numbers p) (mems_declared p.body) (subst Apart (sym h.mem_numbers) (apart_below (length p.mems)))

  -- a FIFO that has more room in the program alone is put into nowhere
  not_idle : (m : ℕ) → Contains (puts p.body) m → Contains (idle p.mems p.body) m → ⊥
  not_idle m c i = puts_seen p m p.body (outer_scope p) h.typed c
      (λ d. true≢false (sym (port_kind m d) ∙ (declared_is p h m (contains_count (mems_declared p.body) m (idle_declared p.mems m p.body i))).1))
      (λ u. used_or_idle p.mems m p.body apart u i)

  same_body : run_all p.mems (roomy_in p.mems p.body) p.body ≡ run_all p.mems roomy p.body
  same_body = same_all p.mems (roomy_in p.mems p.body) roomy p.body (λ m c. same_room p.mems m p.body (not_idle m c))

  right : (s : program_store.Store) → HoldRightly p (port_numbers p) s
  right s m c = port_holds (expressions.mem p.mems m).kind (expressions.mem p.mems m).dims (s.held m) (port_kind m c)

  none : {P : Type 0} {A : Type 0} (x : A) → Contains [] x → P
  none x c = absurd (omega (arith, c.1))

  -- a run
  whole_goes : (n : ℕ) (input : PlainInput) (left rest : ℕ) (did : List program_shape.Shape) (after : program_store.Store) → left ≤ n → run_all p.mems roomy p.body left (program.first_store p input) ≡ step.went did rest after
      → NodeGoes p (core_of p) n (first_view p) (core_of p).root (core_meaning.first_store (core_of p) input) after did
  unfolding core_of
  whole_goes n input left rest did after enough goes =
      body_by p (core_of p) memories h.ports roomy rooms p.body (stages_followed p (core_of p) memories h.ports roomy rooms p.body) n (first_view p) first Pipe refl h.typed (λ v c. none v c) (λ v c. none v c, λ x c k le lt e. none x c) declared own (subst Apart (sym (append_nothing (mems_declared p.body))) apart) (λ m. refl)
      (program.first_store p input) after (core_meaning.first_store (core_of p) input) left rest did enough (right (program.first_store p input)) (begin_alike p h input) goes

  -- what stands at the end is put out
  visible : (m : ℕ) → Contains (program.outs_of p ++ program.drams_of p) m → Contains (port_numbers p) m
  visible m c = in_either (program.outs_of p) (program.drams_of p) m c (λ d. more_numbers is_out is_port outs_are_ports 0 p.mems m d) (λ d. more_numbers is_dram is_port drams_are_ports 0 p.mems m d)

  pub program_goes : IsProgramFollowed p
  unfolding seq run_program meaning run_core counts_in
  program_goes n input outs drams t shape e = go (run_program p n (program.first_store p input)) refl e
    where
      go : (w : step.Went (List program_shape.Shape)) → run_program p n (program.first_store p input) ≡ w → program.outcome p n w ≡ program.ended outs drams t shape
          → (x : History) × (meaning plainly n (core_of p) input ≡ core_meaning.ended outs drams x) × (counts_of (core_of p).root (shape_of (core_of p).root x) ≡ counts_in shape)
      go (step.faulted kind place) f g = let no : ⊥ = cc in absurd no
      go step.more f g = let no : ⊥ = cc in absurd no
      go (step.went did left s) f g =
          let b = taken_apart step.turn (λ _. run_all p.mems (roomy_in p.mems p.body) p.body) n (program.first_store p input) did left s f in
          let fell = turn_falls b.answer n b.between (program.first_store p input) b.store b.first in
          let x = whole_goes n input b.between left did s (omega (arith, fell.0)) (ap (λ v. run_all p.mems roomy p.body b.between v) (sym fell.1) ∙ ap (λ (run : step.Step (List program_shape.Shape)). run b.between b.store) (sym same_body) ∙ b.second) in
          let put = put_out_alike p h (first_view p) [] s x.after x.agree visible in
          let same_outs : program.out_words p s ≡ outs = cc in
          let same_drams : program.dram_words p s ≡ drams = cc in
          let same_shape : ran (shapes did) ≡ shape = cc in (
            x.history,
            ap (core_meaning.outcome (core_of p)) x.goes ∙ ap (λ l. core_meaning.ended l (core_meaning.dram_words (core_of p) x.after) x.history) (put.0 ∙ same_outs) ∙ ap (λ l. core_meaning.ended outs l x.history) (put.1 ∙ same_drams),
            x.counts ∙ ap counts_in same_shape,
          )
