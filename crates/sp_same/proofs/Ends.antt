-- Ports stand in a core where those of its program do: the first stores agree, and what is put out is the same.
use Rattle.std.proofs.Common.{◌≡◌, ℕ, zero, suc, ◌+◌, ◌-◌, ◌<◌, ◌≤◌, Bool, true, false, not, List, [], ◌∷◌, ◌++◌, Some, None, refl, sym, ◌∙◌, ap, arith, if◌then◌else◌, ◌==◌}
use Rattle.std.proofs.lemmas.Bool.{false≢true, eqb-true, eqb-false}
use Rattle.std.specs.Prelude.{cond, length, map, filter, slice_index, slice_index_or, All, Contains}
use Rattle.sp_words.specs.declared.kind.Kind.{Kind}
use Rattle.sp_words.specs.declared.kind.Kind.TheVariants.{Reg, Sram, Fifo, LineBuf, Dram, ArgIn, ArgOut}
use Rattle.sp_words.specs.Memory.{words}
use Rattle.sp_words.specs.Ports.{PlainInput, PlainPorts}
use Rattle.sp_tree.specs.Expressions as expressions
use Rattle.sp_tree.specs.Invariant.{port_of, ports_of}
use Rattle.sp_tree.specs.Meaning as program
use Rattle.sp_tree.specs.Meaning.{is_dram}
use Rattle.sp_tree.specs.PlainProgram.{PlainMem, PlainProgram, no_mem}
use Rattle.sp_tree.specs.Store as program_store
use Rattle.sp_core.specs.Declarations.{dram_number as dram_place}
use Rattle.sp_core.specs.Elements as core_elements
use Rattle.sp_core.specs.Meaning as core_meaning
use Rattle.sp_core.specs.PlainCore as plain
use Rattle.sp_core.specs.PlainCore.{PlainCore}
use Rattle.sp_core.specs.Store as store
use Rattle.sp_sugar.specs.Agreement.{HasMemories, place_of}
use Rattle.sp_sugar.specs.Numbers.{is_off_dram, mem_number, dram_number, written_mems, numbers_from}
use Rattle.sp_sugar.proofs.MemoryLemmas.{changed_here, changed_elsewhere, chip_place}
use Rattle.sp_sugar.proofs.NodeParts.{dram_ports}
use Rattle.sp_sugar.proofs.NumberLemmas.{either, number_kept, number_skipped, written_kept, written_skipped}
use Rattle.sp_sugar.proofs.TwinLemmas.{same_words}
use Rattle.sp_same.proofs.Lines.{below_from}
use Rattle.sp_same.proofs.Places.{dram_kept, dram_skipped, place_of_dram, places_apart}
use Rattle.sp_same.proofs.SliceTwins.{same_numbers_below}

pub map_alike : {A B : Type 0} (f g : A → B) (xs : List A) → ((x : A) → Contains xs x → f x ≡ g x) → map f xs ≡ map g xs
map_alike f g [] h = refl
map_alike f g (x ∷ xs) h = ap (λ y. y ∷ map f xs) (h x (0, omega arith, refl)) ∙ ap (λ l. g x ∷ l) (map_alike f g xs (λ y c. h y (suc c.0, omega (arith, c.1), c.2)))

-- the numbers of memories of a kind are those of memories
module _ (is : Kind → Bool) where
  bound_choice : (f n m : ℕ) (rest : List ℕ) (b : Bool) → (Contains rest m → (suc f ≤ m) × (m < suc f + n)) → Contains ((if b then f ∷ [] else []) ++ rest) m → (f ≤ m) × (m < f + suc n)
  bound_choice f n m rest true h (zero, lt, e) = (omega (arith, e), omega (arith, e))
  bound_choice f n m rest true h (suc j, lt, e) = let b = h (j, omega arith, e) in (omega (arith, b.0), omega (arith, b.1))
  bound_choice f n m rest false h c = let b = h c in (omega (arith, b.0), omega (arith, b.1))

  pub numbers_bound : (f : ℕ) (mems : List PlainMem) (m : ℕ) → Contains (program.numbers_of is f mems) m → (f ≤ m) × (m < f + length mems)
  numbers_bound f [] m c = absurd (omega (arith, c.1))
  numbers_bound f (x ∷ xs) m c = bound_choice f (length xs) m (program.numbers_of is (suc f) xs) (is x.kind) (numbers_bound (suc f) xs m) c

  -- those of the core, by those of the program
  module _ (no_dram : is Dram ≡ false) (no_reg : is Reg ≡ false) where
    no_others : (c : ℕ) (others : List plain.PlainMem) → All (λ (m : plain.PlainMem). m.kind ≡ Reg) others → core_meaning.numbers_of is c others ≡ []
    no_others c [] a = refl
    no_others c (x ∷ others) a = ap (λ b. (if b then c ∷ [] else []) ++ core_meaning.numbers_of is (suc c) others) (ap is (a 0 plain.no_mem (omega arith)) ∙ no_reg) ∙ no_others (suc c) others (λ k d lt. a (suc k) d (omega (arith, lt)))

    abbrev renumber : (f c : ℕ) → List PlainMem → ℕ → ℕ
    renumber f c mems m = c + mem_number mems (m - f)

    map_choice : (f : ℕ) (g : ℕ → ℕ) (rest : List ℕ) (b : Bool) → map g ((if b then f ∷ [] else []) ++ rest) ≡ (if b then g f ∷ [] else []) ++ map g rest
    map_choice f g rest true = refl
    map_choice f g rest false = refl

    renumbered : (f c : ℕ) (mems : List PlainMem) (others : List plain.PlainMem) → All (λ (m : plain.PlainMem). m.kind ≡ Reg) others
        → core_meaning.numbers_of is c (written_mems mems ++ others) ≡ map (renumber f c mems) (program.numbers_of is f mems)
    renumbered f c [] others a = no_others c others a
    renumbered f c (x ∷ xs) others a = either (is_off_dram x)
        (λ off.
        ap (λ l. core_meaning.numbers_of is c (l ++ others)) (written_kept x xs off)
        ∙ ap (λ l. (if is x.kind then c ∷ [] else []) ++ l) (renumbered (suc f) (suc c) xs others a
        ∙ map_alike (renumber (suc f) (suc c) xs) (renumber f c (x ∷ xs)) (program.numbers_of is (suc f) xs)
        (λ m d. let b = numbers_bound (suc f) xs m d in
        let e : m - f ≡ suc (m - suc f) = omega (arith, b.0) in
        let g : mem_number (x ∷ xs) (suc (m - suc f)) ≡ suc (mem_number xs (m - suc f)) = number_kept x xs (m - suc f) off in
        omega (arith, g, ap (λ k. mem_number (x ∷ xs) k) {x = suc (m - suc f)} {y = m - f} (sym e))))
        ∙ ap (λ k. (if is x.kind then k ∷ [] else []) ++ map (renumber f c (x ∷ xs)) (program.numbers_of is (suc f) xs)) (at_first f c x xs)
        ∙ sym (map_choice f (renumber f c (x ∷ xs)) (program.numbers_of is (suc f) xs) (is x.kind)))
        (λ on.
        ap (λ l. core_meaning.numbers_of is c (l ++ others)) (written_skipped x xs on)
        ∙ renumbered (suc f) c xs others a
        ∙ map_alike (renumber (suc f) c xs) (renumber f c (x ∷ xs)) (program.numbers_of is (suc f) xs)
        (λ m d. let b = numbers_bound (suc f) xs m d in
        let e : m - f ≡ suc (m - suc f) = omega (arith, b.0) in
        ap (λ k. c + k) (sym (number_skipped x xs (m - suc f) on)) ∙ ap (λ k. c + mem_number (x ∷ xs) k) (sym e))
        ∙ ap (λ b. map (renumber f c (x ∷ xs)) ((if b then f ∷ [] else []) ++ program.numbers_of is (suc f) xs)) (sym (no_port x on)))
      where
        at_first : (f c : ℕ) (x : PlainMem) (xs : List PlainMem) → c ≡ renumber f c (x ∷ xs) f
        at_first f c x xs = omega (arith, ap (λ k. mem_number (x ∷ xs) k) {x = f - f} {y = 0} (omega arith))

        no_port : (x : PlainMem) → is_off_dram x ≡ false → is x.kind ≡ false
        no_port x on = kinds x.kind on
          where
            kinds : (k : Kind) → not (is_dram k) ≡ false → is k ≡ false
            kinds Dram e = no_dram
            kinds _ e = absurd (false≢true (sym e))

  -- each is of the kind
  kind_choice : (f m : ℕ) (x : PlainMem) (xs : List PlainMem) (rest : List ℕ) (b : Bool) → is x.kind ≡ b → (Contains rest m → (suc f ≤ m) × (is (slice_index_or xs (m - suc f) no_mem).kind ≡ true)) → Contains ((if b then f ∷ [] else []) ++ rest) m → is (slice_index_or (x ∷ xs) (m - f) no_mem).kind ≡ true
  kind_choice f m x xs rest true is_b h (zero, lt, e) = ap (λ k. is (slice_index_or (x ∷ xs) k no_mem).kind) {x = m - f} {y = 0} (omega (arith, e)) ∙ is_b
  kind_choice f m x xs rest true is_b h (suc j, lt, e) = let d = h (j, omega arith, e) in ap (λ k. is (slice_index_or (x ∷ xs) k no_mem).kind) {x = m - f} {y = suc (m - suc f)} (omega (arith, d.0)) ∙ d.1
  kind_choice f m x xs rest false is_b h c = let d = h c in ap (λ k. is (slice_index_or (x ∷ xs) k no_mem).kind) {x = m - f} {y = suc (m - suc f)} (omega (arith, d.0)) ∙ d.1

  pub numbers_are : (f : ℕ) (mems : List PlainMem) (m : ℕ) → Contains (program.numbers_of is f mems) m → is (slice_index_or mems (m - f) no_mem).kind ≡ true
  numbers_are f [] m c = absurd (omega (arith, c.1))
  numbers_are f (x ∷ xs) m c = kind_choice f m x xs (program.numbers_of is (suc f) xs) (is x.kind) refl (λ d. ((numbers_bound (suc f) xs m d).0, numbers_are (suc f) xs m d)) c

-- the numbers of DRAMs follow one another
drams_numbered : (f c : ℕ) (mems : List PlainMem) → map (λ m. c + dram_number mems (m - f)) (program.numbers_of is_dram f mems) ≡ numbers_from c (length (dram_ports mems))
drams_numbered f c [] = refl
drams_numbered f c (x ∷ xs) = either (is_dram x.kind)
    (λ on.
    ap (λ b. map (λ m. c + dram_number (x ∷ xs) (m - f)) ((if b then f ∷ [] else []) ++ program.numbers_of is_dram (suc f) xs)) on
    ∙ ap (λ k. k ∷ map (λ m. c + dram_number (x ∷ xs) (m - f)) (program.numbers_of is_dram (suc f) xs)) {x = c + dram_number (x ∷ xs) (f - f)} {y = c} (omega (arith, ap (λ k. dram_number (x ∷ xs) k) {x = f - f} {y = 0} (omega arith)))
    ∙ ap (λ l. c ∷ l) (map_alike (λ m. c + dram_number (x ∷ xs) (m - f)) (λ m. suc c + dram_number xs (m - suc f)) (program.numbers_of is_dram (suc f) xs)
    (λ m d. let b = numbers_bound is_dram (suc f) xs m d in
    let e : m - f ≡ suc (m - suc f) = omega (arith, b.0) in
    omega (arith, dram_kept x xs (m - suc f) on, ap (λ k. dram_number (x ∷ xs) k) {x = m - f} {y = suc (m - suc f)} e))
    ∙ drams_numbered (suc f) (suc c) xs)
    ∙ ap (λ b. numbers_from c (length (map port_of (cond b (x ∷ filter (λ (m : PlainMem). is_dram m.kind) xs) (filter (λ (m : PlainMem). is_dram m.kind) xs))))) (sym on))
    (λ off.
    ap (λ b. map (λ m. c + dram_number (x ∷ xs) (m - f)) ((if b then f ∷ [] else []) ++ program.numbers_of is_dram (suc f) xs)) off
    ∙ map_alike (λ m. c + dram_number (x ∷ xs) (m - f)) (λ m. c + dram_number xs (m - suc f)) (program.numbers_of is_dram (suc f) xs)
    (λ m d. let b = numbers_bound is_dram (suc f) xs m d in
    let e : m - f ≡ suc (m - suc f) = omega (arith, b.0) in
    omega (arith, dram_skipped x xs (m - suc f) off, ap (λ k. dram_number (x ∷ xs) k) {x = m - f} {y = suc (m - suc f)} e))
    ∙ drams_numbered (suc f) c xs
    ∙ ap (λ b. numbers_from c (length (map port_of (cond b (x ∷ filter (λ (m : PlainMem). is_dram m.kind) xs) (filter (λ (m : PlainMem). is_dram m.kind) xs))))) (sym off))

-- the same kinds in both
numbers_alike : (is js : Kind → Bool) → ((k : Kind) → is k ≡ js k) → (c : ℕ) (l : List plain.PlainMem) → core_meaning.numbers_of is c l ≡ core_meaning.numbers_of js c l
numbers_alike is js h c [] = refl
numbers_alike is js h c (x ∷ l) = ap (λ b. (if b then c ∷ [] else []) ++ core_meaning.numbers_of is (suc c) l) (h x.kind) ∙ ap (λ r. (if js x.kind then c ∷ [] else []) ++ r) (numbers_alike is js h (suc c) l)

same_arg : (k : Kind) → core_meaning.is_arg k ≡ program.is_arg k
same_arg ArgIn = refl
same_arg _ = refl

same_out : (k : Kind) → core_meaning.is_out k ≡ program.is_out k
same_out ArgOut = refl
same_out _ = refl

no_dram_kind : (is : Kind → Bool) (k : Kind) → is Dram ≡ false → is k ≡ true → not (is_dram k) ≡ true
no_dram_kind is Dram f e = absurd (false≢true (sym f ∙ e))
no_dram_kind is Reg f e = refl
no_dram_kind is Sram f e = refl
no_dram_kind is Fifo f e = refl
no_dram_kind is LineBuf f e = refl
no_dram_kind is ArgIn f e = refl
no_dram_kind is ArgOut f e = refl

map_of_map : {A B C : Type 0} (f : A → B) (g : B → C) (xs : List A) → map g (map f xs) ≡ map (λ x. g (f x)) xs
map_of_map f g [] = refl
map_of_map f g (x ∷ xs) = ap (λ l. g (f x) ∷ l) (map_of_map f g xs)

module _ (p : PlainProgram) (core : PlainCore) (h : HasMemories p core) (regs : All (λ (m : plain.PlainMem). m.kind ≡ Reg) h.others) (ports : p.ports ≡ ports_of p.mems) where
  abbrev place : ℕ → ℕ
  place m = place_of p core m

  ports_placed : (is : Kind → Bool) → is Dram ≡ false → is Reg ≡ false → core_meaning.numbers_of is 0 core.mems ≡ map place (program.numbers_of is 0 p.mems)
  ports_placed is no_d no_r =
      ap (core_meaning.numbers_of is 0) h.mems ∙ renumbered is no_d no_r 0 0 p.mems h.others regs
      ∙ map_alike (renumber is no_d no_r 0 0 p.mems) place (program.numbers_of is 0 p.mems)
      (λ m c. let b = numbers_bound is 0 p.mems m c in
      let same : m - 0 ≡ m = omega arith in
      let off : is_off_dram (expressions.mem p.mems m) ≡ true = no_dram_kind is (expressions.mem p.mems m).kind no_d (ap (λ k. is (slice_index_or p.mems k no_mem).kind) (sym same) ∙ numbers_are is 0 p.mems m c) in
      omega (arith, chip_place p core h m (omega (arith, b.1)) off, ap (mem_number p.mems) same))

  args_placed : core_meaning.args_of core ≡ map place (program.args_of p)
  args_placed = numbers_alike core_meaning.is_arg program.is_arg same_arg 0 core.mems ∙ ports_placed program.is_arg refl refl

  outs_placed : core_meaning.outs_of core ≡ map place (program.outs_of p)
  outs_placed = numbers_alike core_meaning.is_out program.is_out same_out 0 core.mems ∙ ports_placed program.is_out refl refl

  drams_placed : core_meaning.drams_of core ≡ map place (program.drams_of p)
  drams_placed =
      ap (λ (x : PlainPorts). map (dram_place core) (core_elements.numbers_below (length x.drams))) (h.ports ∙ ports)
      ∙ ap (map (dram_place core)) (same_numbers_below (length (dram_ports p.mems)) ∙ below_from (length (dram_ports p.mems)) ∙ sym (drams_numbered 0 0 p.mems))
      ∙ map_of_map (λ m. 0 + dram_number p.mems (m - 0)) (dram_place core) (program.drams_of p)
      ∙ map_alike (λ m. dram_place core (0 + dram_number p.mems (m - 0))) place (program.drams_of p)
      (λ m c. let same : m - 0 ≡ m = omega arith in
      let on : is_dram (expressions.mem p.mems m).kind ≡ true = ap (λ k. is_dram (slice_index_or p.mems k no_mem).kind) (sym same) ∙ numbers_are is_dram 0 p.mems m c in
      omega (arith, place_of_dram p core h m on, ap (dram_number p.mems) same))

  -- contents that are held alike
  abbrev Alike : program_store.Store → store.Store → Type 0
  Alike s t = (m : ℕ) → m < length p.mems → t (place m) ≡ s.held m

  held_alike : (ms : List ℕ) (wss : List (List ℕ)) (s : program_store.Store) (t : store.Store) → ((m : ℕ) → Contains ms m → m < length p.mems) → Alike s t → Alike (program.hold_each ms wss s) (core_meaning.hold_each (map place ms) wss t)
  held_alike [] wss s t below a = a
  held_alike (m ∷ ms) [] s t below a = a
  held_alike (m ∷ ms) (ws ∷ wss) s t below a =
      held_alike ms wss (program_store.hold s m (words ws)) (store.hold t (place m) (words ws)) (λ k c. below k (suc c.0, omega (arith, c.1), c.2))
      (λ k lt. either (k == m)
      (λ e. let f : k ≡ m = eqb-true k m e in changed_here t (place m) (place k) (Some (words ws)) (ap place f) ∙ sym (changed_here s.held m k (Some (words ws)) f))
      (λ e. changed_elsewhere t (place m) (place k) (Some (words ws)) (λ f. eqb-false k m e (places_apart p core h k m lt (below m (0, omega arith, refl)) f)) ∙ a k lt ∙ sym (changed_elsewhere s.held m k (Some (words ws)) (eqb-false k m e))))

  in_range : (is : Kind → Bool) (m : ℕ) → Contains (program.numbers_of is 0 p.mems) m → m < length p.mems
  in_range is m c = let b = numbers_bound is 0 p.mems m c in omega (arith, b.1)

  abbrev empty : program_store.Store
  empty = record { held = λ m. None; values = λ v. 0; counts = λ c. 0 }

  pub first_alike : (input : PlainInput) (m : ℕ) → m < length p.mems → core_meaning.first_store core input (place m) ≡ (program.first_store p input).held m
  first_alike input m lt =
      let outs : List ℕ = program.outs_of p in
      let zeros : List (List ℕ) = map (λ m. 0 ∷ []) outs in
      let args : List (List ℕ) = map (λ w. w ∷ []) input.args in
      ap (λ l. core_meaning.hold_each l args (core_meaning.hold_each (core_meaning.drams_of core) input.drams (core_meaning.hold_each (core_meaning.outs_of core) (map (λ m. 0 ∷ []) (core_meaning.outs_of core)) (λ m. None))) (place m)) args_placed
      ∙ ap (λ l. core_meaning.hold_each (map place (program.args_of p)) args (core_meaning.hold_each l input.drams (core_meaning.hold_each (core_meaning.outs_of core) (map (λ m. 0 ∷ []) (core_meaning.outs_of core)) (λ m. None))) (place m)) drams_placed
      ∙ ap (λ l. core_meaning.hold_each (map place (program.args_of p)) args (core_meaning.hold_each (map place (program.drams_of p)) input.drams (core_meaning.hold_each l (map (λ m. 0 ∷ []) l) (λ m. None))) (place m)) outs_placed
      ∙ ap (λ l. core_meaning.hold_each (map place (program.args_of p)) args (core_meaning.hold_each (map place (program.drams_of p)) input.drams (core_meaning.hold_each (map place outs) l (λ m. None))) (place m)) (map_of_map place (λ m. 0 ∷ []) outs)
      ∙ held_alike (program.args_of p) args (program.hold_each (program.drams_of p) input.drams (program.hold_each outs zeros empty)) (core_meaning.hold_each (map place (program.drams_of p)) input.drams (core_meaning.hold_each (map place outs) zeros (λ m. None))) (in_range program.is_arg)
      (held_alike (program.drams_of p) input.drams (program.hold_each outs zeros empty) (core_meaning.hold_each (map place outs) zeros (λ m. None)) (in_range is_dram)
      (held_alike outs zeros empty (λ m. None) (in_range program.is_out) (λ m lt. refl))) m lt

  -- what is put out
  pub outs_same : (s : program_store.Store) (t : store.Store) → ((m : ℕ) → Contains (program.outs_of p) m → t (place m) ≡ s.held m) → core_meaning.out_words core t ≡ program.out_words p s
  outs_same s t same =
      ap (map (λ m. slice_index (store.words_of (t m)) 0)) outs_placed ∙ map_of_map place (λ m. slice_index (store.words_of (t m)) 0) (program.outs_of p)
      ∙ map_alike (λ m. slice_index (store.words_of (t (place m))) 0) (λ m. slice_index (program_store.words_of (s.held m)) 0) (program.outs_of p)
      (λ m c. ap (λ x. slice_index x 0) (ap store.words_of (same m c) ∙ same_words (s.held m)))

  pub drams_same : (s : program_store.Store) (t : store.Store) → ((m : ℕ) → Contains (program.drams_of p) m → t (place m) ≡ s.held m) → core_meaning.dram_words core t ≡ program.dram_words p s
  drams_same s t same =
      ap (map (λ m. store.words_of (t m))) drams_placed ∙ map_of_map place (λ m. store.words_of (t m)) (program.drams_of p)
      ∙ map_alike (λ m. store.words_of (t (place m))) (λ m. program_store.words_of (s.held m)) (program.drams_of p) (λ m c. ap store.words_of (same m c) ∙ same_words (s.held m))
