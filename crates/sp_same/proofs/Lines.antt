-- A row of a line buffer is loaded word by word, and stands as the program leaves it.
use Rattle.std.proofs.Common.{◌≡◌, ℕ, zero, suc, ◌+◌, ◌-◌, ◌<◌, ◌≤◌, true, not, List, [], ◌∷◌, ◌++◌, Option, Some, None, refl, sym, ◌∙◌, ap, subst, arith, length-append, append_assoc}
use Rattle.std.specs.Prelude.{length, map, drop, flat_map, replicate, slice_index, slice_index_or, slice_set, Contains}
use Rattle.sp_words.specs.declared.kind.Kind.TheVariants.{LineBuf, Dram}
use Rattle.sp_words.specs.Memory.{Contents, rows}
use Rattle.sp_tree.specs.Accesses as program
use Rattle.sp_tree.specs.Elements as elements
use Rattle.sp_tree.specs.Elements.{index_value}
use Rattle.sp_tree.specs.Expressions as expressions
use Rattle.sp_tree.specs.Expressions.{word}
use Rattle.sp_tree.specs.Invariant.{ports_of}
use Rattle.sp_tree.specs.Meaning.{is_dram}
use Rattle.sp_tree.specs.PlainProgram.{PlainProgram}
use Rattle.sp_tree.specs.PlainStatement.{PlainSpan, single, range}
use Rattle.sp_tree.specs.Sequential.{part}
use Rattle.sp_tree.specs.Step as step
use Rattle.sp_tree.specs.Store as program_store
use Rattle.sp_tree.specs.Transfers as slice
use Rattle.sp_tree.specs.Typing.{EndsInRange}
use Rattle.sp_core.specs.Accesses.{with_word, read_in, write_in, turn_rows}
use Rattle.sp_core.specs.Declarations.{kind_of, dims, dram_number as dram_place}
use Rattle.sp_core.specs.PlainCore.{PlainCore}
use Rattle.sp_core.specs.Step as core_step
use Rattle.sp_core.specs.Store as store
use Rattle.sp_core.specs.Transfers as core_slice
use Rattle.sp_sugar.specs.Agreement.{HasMemories, View, Agree}
use Rattle.sp_sugar.specs.Numbers.{is_off_dram, mem_number, dram_number, numbers_from}
use Rattle.sp_sugar.proofs.MemoryLemmas.{changed_here, changed_elsewhere, chip_exists, chip_kind, chip_dims, chip_holds, chip_place}
use Rattle.sp_sugar.proofs.StepLemmas.{as_it_went, same_answer, same_store, taken_apart, then_on, turn_taken}
use Rattle.sp_sugar.proofs.TwinLemmas.{same_rows}
use Rattle.sp_same.proofs.MoveLemmas.{reads_in, writes_in, dram_word}
use Rattle.sp_same.proofs.Places.{place_of_dram, dram_is, dram_dims, agree_changed}
use Rattle.sp_same.proofs.SliceTwins.{as_core, same_places_of, same_offsets}

-- a row with one word more
row_next : (width : ℕ) (ws : List ℕ) (w : ℕ) → length ws < width → slice_set (slice.row_of width ws) (length ws) (Some w) ≡ slice.row_of width (ws ++ w ∷ [])
row_next zero ws w lt = absurd (omega (arith, lt))
row_next (suc width) [] w lt = refl
row_next (suc width) (v ∷ ws) w lt = ap (λ l. Some v ∷ l) (row_next width ws w (omega (arith, lt)))

row_empty : (width : ℕ) → replicate width None ≡ slice.row_of width []
row_empty zero = refl
row_empty (suc width) = ap (λ l. None ∷ l) (row_empty width)

-- the last row
last_row : {A : Type 0} (front : List (List A)) (row : List A) → slice_index_or (front ++ row ∷ []) (length front) [] ≡ row
last_row [] row = refl
last_row (x ∷ front) row = last_row front row

set_last : {A : Type 0} (front : List (List A)) (row other : List A) → slice_set (front ++ row ∷ []) (length front) other ≡ front ++ other ∷ []
set_last [] row other = refl
set_last (x ∷ front) row other = ap (λ l. x ∷ l) (set_last front row other)

-- the offsets of one range
from_snoc : (a n : ℕ) → numbers_from a (suc n) ≡ numbers_from a n ++ (a + n) ∷ []
from_snoc a zero = ap (λ k. k ∷ []) {x = a} {y = a + 0} (omega arith)
from_snoc a (suc n) = ap (λ l. a ∷ l) (from_snoc (suc a) n ∙ ap (λ k. numbers_from (suc a) n ++ k ∷ []) {x = suc a + n} {y = a + suc n} (omega arith))

pub below_from : (n : ℕ) → elements.numbers_below n ≡ numbers_from 0 n
below_from zero = refl
below_from (suc n) = ap (λ l. l ++ n ∷ []) (below_from n) ∙ ap (λ k. numbers_from 0 n ++ k ∷ []) {x = n} {y = 0 + n} (omega arith) ∙ sym (from_snoc 0 n)

alone_each : (xs : List ℕ) → flat_map (λ x. map (λ others. x ∷ others) ([] ∷ [])) xs ≡ map (λ x. x ∷ []) xs
alone_each [] = refl
alone_each (x ∷ xs) = ap (λ l. (x ∷ []) ∷ l) (alone_each xs)

pub one_range : (parts : List slice.Part) (n : ℕ) → slice.lengths parts ≡ n ∷ [] → slice.all_offsets parts ≡ map (λ x. x ∷ []) (numbers_from 0 n)
one_range parts n e = ap (λ ns. elements.tuples (map elements.numbers_below ns)) e ∙ alone_each (elements.numbers_below n) ∙ ap (map (λ x. x ∷ [])) (below_from n)

-- a slice that ends in its only range has one length
module _ (p : PlainProgram) where
  pub ends_taken : (spans : List PlainSpan) (left rest : ℕ) (s after : program_store.Store) (parts : List slice.Part) → EndsInRange spans → step.in_order (part p.mems) spans left s ≡ step.went parts rest after → (n : ℕ) × (slice.lengths parts ≡ n ∷ [])
  unfolding step.in_order step.pure
  ends_taken [] left rest s after parts ends e = absurd ends
  ends_taken (single x ∷ spans) left rest s after parts ends e =
      let b = taken_apart (part p.mems (single x)) (λ first. step.◌>>=◌ (step.in_order (part p.mems) spans) (λ others. step.pure (first ∷ others))) left s parts rest after e in
      let c = taken_apart (word p.mems x) (λ i. step.pure (slice.index (index_value i))) left s b.answer b.between b.store b.first in
      let d = taken_apart (step.in_order (part p.mems) spans) (λ others. step.pure (b.answer ∷ others)) b.between b.store parts rest after b.second in
      let f : b.answer ∷ d.answer ≡ parts = same_answer (b.answer ∷ d.answer) parts d.between rest d.store after d.second in
      let g : slice.index (index_value c.answer) ≡ b.answer = same_answer (slice.index (index_value c.answer)) b.answer c.between b.between c.store b.store c.second in
      let more = ends_taken spans b.between d.between b.store d.store d.answer ends d.first in
      (more.0, ap slice.lengths (sym f) ∙ ap (λ q. slice.lengths (q ∷ d.answer)) (sym g) ∙ more.1)
  ends_taken (range x y par ∷ []) left rest s after parts ends e =
      let b = taken_apart (part p.mems (range x y par)) (λ first. step.◌>>=◌ (step.in_order (part p.mems) []) (λ others. step.pure (first ∷ others))) left s parts rest after e in
      let c = taken_apart (word p.mems x) (λ i. step.◌>>=◌ (word p.mems y) (λ j. step.pure (slice.between (index_value i) (index_value j)))) left s b.answer b.between b.store b.first in
      let k = taken_apart (word p.mems y) (λ j. step.pure (slice.between (index_value c.answer) (index_value j))) c.between c.store b.answer b.between b.store c.second in
      let d = taken_apart (step.in_order (part p.mems) []) (λ others. step.pure (b.answer ∷ others)) b.between b.store parts rest after b.second in
      let f : b.answer ∷ d.answer ≡ parts = same_answer (b.answer ∷ d.answer) parts d.between rest d.store after d.second in
      let g : slice.between (index_value c.answer) (index_value k.answer) ≡ b.answer = same_answer (slice.between (index_value c.answer) (index_value k.answer)) b.answer k.between b.between k.store b.store k.second in
      let none : [] ≡ d.answer = same_answer [] d.answer b.between d.between b.store d.store d.first in
      (_, ap slice.lengths (sym f) ∙ ap (λ q. slice.lengths (q ∷ d.answer)) (sym g) ∙ ap (λ l. slice.lengths (slice.between (index_value c.answer) (index_value k.answer) ∷ l)) (sym none))
  ends_taken (range x y par ∷ single z ∷ spans) left rest s after parts ends e = absurd ends
  ends_taken (range x y par ∷ range z v par2 ∷ spans) left rest s after parts ends e = absurd ends

module _ (p : PlainProgram) (core : PlainCore) (h : HasMemories p core) (ports : p.ports ≡ ports_of p.mems) (view : View)
    (m r : ℕ) (seen : Contains view.scope.mems m) (is : (expressions.mem p.mems m).kind ≡ LineBuf) (seen_dram : Contains view.scope.mems r) (on : (expressions.mem p.mems r).kind ≡ Dram)
    (s : program_store.Store) (t : store.Store) (a : Agree p core view [] s t) (parts : List slice.Part) where
  abbrev off : is_off_dram (expressions.mem p.mems m) ≡ true
  off = ap (λ k. not (is_dram k)) is

  abbrev n : ℕ
  n = mem_number p.mems m

  abbrev d : ℕ
  d = dram_place core (dram_number p.mems r)

  abbrev ds : List ℕ
  ds = expressions.dims p.mems m

  abbrev width : ℕ
  width = slice_index ds 1

  abbrev front : List (List (Option ℕ))
  front = drop 1 (program_store.rows_of (s.held m))

  pub line_kind : kind_of core n ≡ LineBuf
  line_kind = chip_kind p core h m (a.mems m seen).0 off ∙ is

  pub line_dims : dims core n ≡ ds
  line_dims = chip_dims p core h m (a.mems m seen).0 off

  pub dram_there : dims core d ≡ expressions.dims p.mems r
  dram_there = dram_dims p core h ports r (a.mems r seen_dram).0 (ap is_dram on)

  apart : d ≡ n → ⊥
  apart e = let f : n < length core.mems = chip_exists p core h m (a.mems m seen).0 off in omega (arith, e, f)

  -- the row so far, and nothing else touched
  record Rowed (ws : List ℕ) (u : store.Store) : Type 0 where
    holds : u n ≡ Some (rows (front ++ slice.row_of width ws ∷ []))
    still : (k : ℕ) → (k ≡ n → ⊥) → u k ≡ t k

  abbrev read_one : List ℕ → step.Step ℕ
  read_one offsets = step.◌>>=◌ (program.read_word r (elements.row_major (expressions.dims p.mems r) (slice.places_of parts offsets))) (λ w. step.◌>>◌ step.turn (step.pure w))

  abbrev core_one : List ℕ → core_step.Step ℕ
  core_one offsets = core_step.◌>>=◌ (read_in core d (core_slice.places_of (map as_core parts) offsets)) (λ w. core_step.◌>>◌ (write_in core n (core_slice.loaded_at core (kind_of core n) n offsets) w) (core_step.pure w))

  module _ (rows_are : length front ≡ slice_index ds 0 - 1) where
    -- a word
    core_word : (k w : ℕ) (ws : List ℕ) (u : store.Store) → k ≡ length ws → k < width → Rowed ws u → w ≡ slice_index (program_store.words_of (s.held r)) (elements.row_major (expressions.dims p.mems r) (slice.places_of parts (k ∷ [])))
        → (v : store.Store) × (core_one (k ∷ []) u ≡ core_step.went w v) × Rowed (ws ++ w ∷ []) v
    unfolding core_step.pure
    core_word k w ws u same lt g is_word =
        let c : Contents = rows (front ++ slice.row_of width (ws ++ w ∷ []) ∷ []) in
        let at : List ℕ = (slice_index (dims core n) 0 - 1) ∷ k ∷ [] in
        let held : u d ≡ s.held r = g.still d apart ∙ ap t (sym (place_of_dram p core h r (ap is_dram on))) ∙ (a.mems r seen_dram).1 in
        let rows_now : store.rows_of (u n) ≡ front ++ slice.row_of width ws ∷ [] = ap store.rows_of g.holds in
        let place : slice_index (dims core n) 0 - 1 ≡ length front = ap (λ l. slice_index l 0 - 1) line_dims ∙ sym rows_are in
        let becomes : with_word (kind_of core n) (dims core n) at w (u n) ≡ c =
        ap (λ y. with_word y (dims core n) at w (u n)) line_kind
        ∙ ap (λ y. rows (slice_set y (slice_index (dims core n) 0 - 1) (slice_set (slice_index_or y (slice_index (dims core n) 0 - 1) []) k (Some w)))) rows_now
        ∙ ap (λ y. rows (slice_set (front ++ slice.row_of width ws ∷ []) y (slice_set (slice_index_or (front ++ slice.row_of width ws ∷ []) y []) k (Some w)))) place
        ∙ ap (λ y. rows (slice_set (front ++ slice.row_of width ws ∷ []) (length front) (slice_set y k (Some w)))) (last_row front (slice.row_of width ws))
        ∙ ap rows (set_last front (slice.row_of width ws) (slice_set (slice.row_of width ws) k (Some w)))
        ∙ ap (λ y. rows (front ++ slice_set (slice.row_of width ws) y (Some w) ∷ [])) same
        ∙ ap (λ y. rows (front ++ y ∷ [])) (row_next width ws w (omega (arith, same, lt))) in (
          store.hold u n c,
          then_on (read_in core d (core_slice.places_of (map as_core parts) (k ∷ []))) (λ w. core_step.◌>>◌ (write_in core n (core_slice.loaded_at core (kind_of core n) n (k ∷ [])) w) (core_step.pure w)) u w u
              (reads_in core d (core_slice.places_of (map as_core parts) (k ∷ [])) u w
              (dram_word core d (expressions.dims p.mems r) dram_there (u d) (s.held r) held (dram_is p core h (dram_number p.mems r)) (core_slice.places_of (map as_core parts) (k ∷ [])) (slice.places_of parts (k ∷ [])) (same_places_of parts (k ∷ [])) ∙ ap Some (sym is_word)))
              ∙ then_on (write_in core n (core_slice.loaded_at core (kind_of core n) n (k ∷ [])) w) (λ _. core_step.pure w) u tt (store.hold u n c)
              (ap (λ y. write_in core n (core_slice.loaded_at core y n (k ∷ [])) w u) line_kind ∙ writes_in core n at u w c becomes),
          record { holds = changed_here u n n (Some c) refl; still = λ k ne. changed_elsewhere u n k (Some c) ne ∙ g.still k ne },
        )

    -- all of them
    line_words : (j k : ℕ) (ws vs : List ℕ) (left rest : ℕ) (after : program_store.Store) (u : store.Store) → k ≡ length ws → k + j ≤ width → Rowed ws u → step.in_order read_one (map (λ x. x ∷ []) (numbers_from k j)) left s ≡ step.went vs rest after
        → (after ≡ s) × (length vs ≡ j) × ((v : store.Store) × (core_step.in_order core_one (map (λ x. x ∷ []) (numbers_from k j)) u ≡ core_step.went vs v) × Rowed (ws ++ vs) v)
    unfolding step.in_order step.pure core_step.in_order core_step.pure step.read step.◌>>=◌
    line_words zero k ws vs left rest after u same fits g e =
        as_it_went (λ x n v. (v ≡ s) × (length x ≡ 0) × ((v : store.Store) × (core_step.went [] u ≡ core_step.went x v) × Rowed (ws ++ x) v)) [] vs left rest s after e (refl, refl, (u, refl, subst (λ l. Rowed l u) (sym (append_nil ws)) g))
      where
        append_nil : (xs : List ℕ) → xs ++ [] ≡ xs
        append_nil [] = refl
        append_nil (x ∷ xs) = ap (λ l. x ∷ l) (append_nil xs)
    line_words (suc j) k ws vs left rest after u same fits g e =
        let others : List (List ℕ) = map (λ x. x ∷ []) (numbers_from (suc k) j) in
        let from : ℕ = elements.row_major (expressions.dims p.mems r) (slice.places_of parts (k ∷ [])) in
        let b = taken_apart (read_one (k ∷ [])) (λ first. step.◌>>=◌ (step.in_order read_one others) (λ more. step.pure (first ∷ more))) left s vs rest after e in
        let c = taken_apart step.turn (λ _. step.pure (slice_index (program_store.words_of (s.held r)) from)) left s b.answer b.between b.store b.first in
        let w : ℕ = b.answer in
        let is_word : w ≡ slice_index (program_store.words_of (s.held r)) from = sym (same_answer (slice_index (program_store.words_of (s.held r)) from) b.answer c.between b.between c.store b.store c.second) in
        let here : b.store ≡ s = sym (same_store (slice_index (program_store.words_of (s.held r)) from) b.answer c.between b.between c.store b.store c.second) ∙ turn_taken c.answer left c.between s c.store c.first in
        let f = taken_apart (step.in_order read_one others) (λ more. step.pure (w ∷ more)) b.between b.store vs rest after b.second in
        let one = core_word k w ws u same (omega (arith, fits)) g is_word in
        let more = line_words j (suc k) (ws ++ w ∷ []) f.answer b.between f.between f.store one.0 (omega (arith, same, length-append ws (w ∷ []))) (omega (arith, fits)) one.2 (ap (λ v. step.in_order read_one others b.between v) (sym here) ∙ f.first) in
        as_it_went (λ x n v. (v ≡ s) × (length x ≡ suc j) × ((v : store.Store) × (core_step.in_order core_one ((k ∷ []) ∷ others) u ≡ core_step.went x v) × Rowed (ws ++ x) v)) (w ∷ f.answer) vs f.between rest f.store after f.second (
          more.0,
          ap suc more.1,
          (
            more.2.0,
            then_on (core_one (k ∷ [])) (λ first. core_step.◌>>=◌ (core_step.in_order core_one others) (λ more. core_step.pure (first ∷ more))) u w one.0 one.1
                ∙ then_on (core_step.in_order core_one others) (λ more. core_step.pure (w ∷ more)) one.0 f.answer more.2.0 more.2.1,
            subst (λ l. Rowed l more.2.0) (append_assoc ws (w ∷ []) f.answer) more.2.2,
          ),
        )

    from_length : (a j : ℕ) → length (map (λ (x : ℕ). x ∷ []) (numbers_from a j)) ≡ j
    from_length a zero = refl
    from_length a (suc j) = ap suc (from_length (suc a) j)

    -- the whole row
    pub line_loads : (count : ℕ) → slice.lengths parts ≡ count ∷ [] → count ≤ width → (left rest : ℕ) (after : program_store.Store) (x : Unit {0})
        → slice.load_row m width r (expressions.dims p.mems r) parts left s ≡ step.went x rest after
        → (ws : List ℕ) × (u : store.Store) × (core_slice.load_words core (dram_number p.mems r) n (map as_core parts) t ≡ core_step.went ws u) × Agree p core view [] after u × (length ws ≡ length (slice.all_offsets parts))
    unfolding step.read step.change step.◌>>=◌ core_step.change
    line_loads count one fits left rest after x e =
        let offsets : slice.all_offsets parts ≡ map (λ x. x ∷ []) (numbers_from 0 count) = one_range parts count one in
        let b = taken_apart (step.in_order read_one (slice.all_offsets parts)) (λ ws. step.◌>>=◌ (step.read (λ s. program_store.rows_of (s.held m))) (λ rs. program.hold_now m (rows (drop 1 rs ++ slice.row_of width ws ∷ [])))) left s x rest after e in
        let c1 : Contents = rows (front ++ slice.row_of width [] ∷ []) in
        let start : store.Store = store.hold t n c1 in
        let held : t n ≡ s.held m = chip_holds p core h m (a.mems m seen).0 off view [] s t a seen in
        let turned : turn_rows core n t ≡ core_step.went tt start =
        ap (λ y. core_step.went tt (store.hold t n (rows (drop 1 y ++ replicate (slice_index (dims core n) 1) None ∷ [])))) (ap store.rows_of held ∙ same_rows (s.held m))
        ∙ ap (λ y. core_step.went tt (store.hold t n (rows (front ++ replicate (slice_index y 1) None ∷ [])))) line_dims
        ∙ ap (λ y. core_step.went tt (store.hold t n (rows (front ++ y ∷ [])))) (row_empty width) in
        let all = line_words count 0 [] b.answer left b.between b.store start refl (omega (arith, fits)) (record { holds = changed_here t n n (Some c1) refl; still = λ k ne. changed_elsewhere t n k (Some c1) ne })
        (ap (λ l. step.in_order read_one l left s) (sym offsets) ∙ b.first) in
        let c : program_store.Store → Contents = λ v. rows (drop 1 (program_store.rows_of (v.held m)) ++ slice.row_of width b.answer ∷ []) in
        let ends : after ≡ program_store.hold s m (c s) = sym (same_store tt x b.between rest (program_store.hold b.store m (c b.store)) after b.second) ∙ ap (λ v. program_store.hold v m (c v)) all.0 in (
          b.answer,
          all.2.0,
          then_on (core_slice.make_room core (kind_of core n) n) (λ _. core_step.in_order core_one (core_slice.all_offsets (map as_core parts))) t tt start (ap (λ k. core_slice.make_room core k n t) line_kind ∙ turned)
              ∙ ap (λ l. core_step.in_order core_one l start) (same_offsets parts ∙ offsets) ∙ all.2.1,
          subst (λ v. Agree p core view [] v all.2.0) (sym ends)
              (agree_changed p core h view [] s t all.2.0 m (c s) a seen (ap all.2.0 (chip_place p core h m (a.mems m seen).0 off) ∙ all.2.2.holds) (λ k ne. all.2.2.still k (λ f. ne (f ∙ sym (chip_place p core h m (a.mems m seen).0 off))))),
          all.1 ∙ sym (from_length 0 count) ∙ ap length (sym offsets),
        )
