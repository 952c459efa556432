-- The first store of a run, from an input that fits.
use Rattle.std.proofs.Common.{◌≡◌, ℕ, zero, suc, ◌+◌, Bool, true, false, ◌&&◌, cond, List, [], ◌∷◌, ◌++◌, length, map, filter, None, All, refl, sym, ap, ◌∙◌, subst, arith, append_assoc, length-append, slice_index_or, if◌then◌else◌}
use Rattle.std.proofs.lemmas.Bool.{and_parts, false≢true, lt-ltb}
use Rattle.std.proofs.lemmas.List.Elements.{All-nil, All-cons}
use Rattle.std.proofs.Math.Seq.{get_or-append_seam}
use Rattle.std.specs.List.{AllZip}
use Rattle.std.specs.Prelude.{◌==◌, nat_lt}
use Rattle.std.specs.Str.{bytes_eq}
use Rattle.sp_words.specs.Interface.{word_count}
use Rattle.sp_words.specs.Memory.{words}
use Rattle.sp_words.specs.Ports.{PlainPort, PlainInput}
use Rattle.sp_words.specs.Words.{IsWord}
use Rattle.sp_core.specs.Declarations.{dram_number}
use Rattle.sp_core.specs.Elements.{numbers_below}
use Rattle.sp_core.specs.Inputs.{InputFits}
use Rattle.sp_core.specs.Meaning.{is_arg, is_out, numbers_of, args_of, outs_of, drams_of, hold_each, first_store}
use Rattle.sp_core.specs.MemoryRules.{names_of, are_port_names, are_ports_of, are_ports_right}
use Rattle.sp_core.specs.PlainCore.{PlainMem, no_mem, no_port, PlainCore}
use Rattle.sp_core.specs.Store.{Store, hold}
use Rattle.sp_core.specs.Typed.{is_type}
use Rattle.sp_fitting.specs.Fitting.{type_at, StoreFits}
use Rattle.sp_fitting.proofs.Contents.{zero_fits, type_of_mem, type_of_dram, held, same_word}

-- 'from k on', as many as a list has elements
counting : {A : Type 0} → ℕ → List A → List ℕ
counting k [] = []
counting k (x ∷ xs) = k ∷ counting (suc k) xs

counting_end : {A : Type 0} (k : ℕ) (xs : List A) (x : A) → counting k (xs ++ x ∷ []) ≡ counting k xs ++ (k + length xs) ∷ []
unfolding counting
counting_end k [] x = ap (λ j. j ∷ []) (omega arith)
counting_end k (y ∷ xs) x = ap (λ js. k ∷ js) (counting_end (suc k) xs x ∙ ap (λ j. counting (suc k) xs ++ j ∷ []) (omega arith))

-- as many numbers as there are elements, whatever they are
same_count : {A B : Type 0} (k : ℕ) (xs : List A) (ys : List B) → length xs ≡ length ys → counting k xs ≡ counting k ys
unfolding counting
same_count k [] [] e = refl
same_count k [] (y ∷ ys) e = absurd (omega (arith, e))
same_count k (x ∷ xs) [] e = absurd (omega (arith, e))
same_count k (x ∷ xs) (y ∷ ys) e = ap (λ js. k ∷ js) (same_count (suc k) xs ys (omega (arith, e)))

length_below : (n : ℕ) → length (numbers_below n) ≡ n
length_below zero = refl
length_below (suc n) =
    let all = length_below n in
    length-append (numbers_below n) (n ∷ []) ∙ omega (arith, all)

below_counts : (n : ℕ) → numbers_below n ≡ counting 0 (numbers_below n)
unfolding counting
below_counts zero = refl
below_counts (suc n) =
    let all = length_below n in
    ap (λ js. js ++ n ∷ []) (below_counts n) ∙ ap (λ j. counting 0 (numbers_below n) ++ j ∷ []) (omega arith) ∙ sym (counting_end 0 (numbers_below n) n)

counts : {A : Type 0} (xs : List A) → numbers_below (length xs) ≡ counting 0 xs
counts xs = below_counts (length xs) ∙ same_count 0 (numbers_below (length xs)) xs (length_below (length xs))

module _ (core : PlainCore) where
  abbrev GivenTo : ℕ → List ℕ → Type 0
  GivenTo m ws = All (IsWord (type_at core m)) ws

  each_held : (mems : List ℕ) (all : List (List ℕ)) (s : Store) → AllZip GivenTo mems all → StoreFits core s → StoreFits core (hold_each mems all s)
  each_held [] all s h fits = fits
  each_held (m ∷ mems) [] s h fits = fits
  each_held (m ∷ mems) (ws ∷ all) s h fits = each_held mems all (hold s m (words ws)) h.1 (held core s m (words ws) h.0 fits)

  single_fits : (m w : ℕ) → IsWord (type_at core m) w → GivenTo m (w ∷ [])
  single_fits m w p = All-cons (IsWord (type_at core m)) w [] p (All-nil (IsWord (type_at core m)))

  outs_held : (ms : List ℕ) → AllZip GivenTo ms (map (λ m. 0 ∷ []) ms)
  outs_held [] = tt
  outs_held (m ∷ ms) = (single_fits m 0 (zero_fits (type_at core m)), outs_held ms)

  -- the memory after some of the core's
  type_after : (before : List PlainMem) (x : PlainMem) (rest : List PlainMem) → core.mems ≡ before ++ x ∷ rest → type_at core (length before) ≡ x.ty
  type_after before x rest e =
      let longer = length-append before (x ∷ rest) in
      type_of_mem core (length before) (ap (λ (ms : List PlainMem). nat_lt (length before) (length ms)) e ∙ lt-ltb (length before) (length (before ++ x ∷ rest)) (omega arith))
      ∙ ap (λ (ms : List PlainMem). (slice_index_or ms (length before) no_mem).ty) e ∙ ap (λ (m : PlainMem). m.ty) (get_or-append_seam before x rest no_mem)

  abbrev AreGiven : (before mems : List PlainMem) → Type 0
  AreGiven before mems = (ports : List PlainPort) (args : List ℕ) → are_ports_of ports (filter (λ (m : PlainMem). is_arg m.kind) mems) ≡ true → AllZip (λ (port : PlainPort) w. IsWord port.ty w) ports args
      → AllZip GivenTo (numbers_of is_arg (length before) mems) (map (λ w. w ∷ []) args)

  one_given : (before : List PlainMem) (x : PlainMem) (mems : List PlainMem) → core.mems ≡ before ++ x ∷ mems
      → ((ports : List PlainPort) (args : List ℕ) → are_ports_of ports (filter (λ (m : PlainMem). is_arg m.kind) mems) ≡ true → AllZip (λ (port : PlainPort) w. IsWord port.ty w) ports args
      → AllZip GivenTo (numbers_of is_arg (suc (length before)) mems) (map (λ w. w ∷ []) args))
      → (b : Bool) (ports : List PlainPort) (args : List ℕ) → are_ports_of ports (cond b (x ∷ filter (λ (m : PlainMem). is_arg m.kind) mems) (filter (λ (m : PlainMem). is_arg m.kind) mems)) ≡ true
      → AllZip (λ (port : PlainPort) w. IsWord port.ty w) ports args
      → AllZip GivenTo ((if b then length before ∷ [] else []) ++ numbers_of is_arg (suc (length before)) mems) (map (λ w. w ∷ []) args)
  one_given before x mems e rest false ports args right h = rest ports args right h
  one_given before x mems e rest true [] args right h = absurd (false≢true right)
  one_given before x mems e rest true (p ∷ ports) [] right h = absurd h
  one_given before x mems e rest true (p ∷ ports) (w ∷ args) right h =
      let a = and_parts (bytes_eq p.name x.name && (is_type p.ty x.ty && (length p.dims == 0))) (are_ports_of ports (filter (λ (m : PlainMem). is_arg m.kind) mems)) right in
      let b = and_parts (bytes_eq p.name x.name) (is_type p.ty x.ty && (length p.dims == 0)) a.0 in
      let same = (and_parts (is_type p.ty x.ty) (length p.dims == 0) b.1).0 in
      (single_fits (length before) w (subst (λ ty. IsWord ty w) (sym (type_after before x mems e)) (same_word p.ty x.ty w same h.0)), rest ports args a.1 h.1)

  args_given : (before mems : List PlainMem) → core.mems ≡ before ++ mems → AreGiven before mems
  args_given before [] e [] [] right h = tt
  args_given before [] e [] (w ∷ args) right h = absurd h
  args_given before [] e (p ∷ ports) args right h = absurd (false≢true right)
  args_given before (x ∷ mems) e ports args right h =
      let longer : length (before ++ x ∷ []) ≡ suc (length before) = length-append before (x ∷ []) ∙ omega arith in
      one_given before x mems e
      (λ ports args right h. subst (λ k. AllZip GivenTo (numbers_of is_arg k mems) (map (λ w. w ∷ []) args)) longer (args_given (before ++ x ∷ []) mems (e ∙ sym (append_assoc before (x ∷ []) mems)) ports args right h))
      (is_arg x.kind) ports args right h

  dram_after : (before : List PlainPort) (x : PlainPort) (rest : List PlainPort) → core.ports.drams ≡ before ++ x ∷ rest → type_at core (dram_number core (length before)) ≡ x.ty
  dram_after before x rest e =
      type_of_dram core (length before) ∙ ap (λ (ps : List PlainPort). (slice_index_or ps (length before) no_port).ty) e ∙ ap (λ (p : PlainPort). p.ty) (get_or-append_seam before x rest no_port)

  drams_given : (before drams : List PlainPort) (all : List (List ℕ)) → core.ports.drams ≡ before ++ drams → AllZip (λ (port : PlainPort) ws. (length ws ≡ word_count port.dims) × All (IsWord port.ty) ws) drams all
      → AllZip GivenTo (map (dram_number core) (counting (length before) drams)) all
  unfolding counting
  drams_given before [] [] e h = tt
  drams_given before [] (ws ∷ all) e h = absurd h
  drams_given before (x ∷ drams) [] e h = absurd h
  drams_given before (x ∷ drams) (ws ∷ all) e h =
      let longer : length (before ++ x ∷ []) ≡ suc (length before) = length-append before (x ∷ []) ∙ omega arith in (
        subst (λ ty. All (IsWord ty) ws) (sym (dram_after before x drams e)) h.0.1,
        subst (λ k. AllZip GivenTo (map (dram_number core) (counting k drams)) all) longer (drams_given (before ++ x ∷ []) drams all (e ∙ sym (append_assoc before (x ∷ []) drams)) h.1),
      )

  pub first_fits : (input : PlainInput) → are_ports_right core ≡ true → InputFits core input → StoreFits core (first_store core input)
  first_fits input right fits =
      let a = and_parts (are_port_names (names_of core.ports.args) && (are_port_names (names_of core.ports.outs) && are_port_names (names_of core.ports.drams)))
      (are_ports_of core.ports.args (filter (λ (m : PlainMem). is_arg m.kind) core.mems) && are_ports_of core.ports.outs (filter (λ (m : PlainMem). is_out m.kind) core.mems)) right in
      let b = and_parts (are_ports_of core.ports.args (filter (λ (m : PlainMem). is_arg m.kind) core.mems)) (are_ports_of core.ports.outs (filter (λ (m : PlainMem). is_out m.kind) core.mems)) a.1 in
      each_held (args_of core) (map (λ w. w ∷ []) input.args) _ (args_given [] core.mems refl core.ports.args input.args b.0 fits.args)
      (each_held (drams_of core) input.drams _ (subst (λ ks. AllZip GivenTo (map (dram_number core) ks) input.drams) (sym (counts core.ports.drams)) (drams_given [] core.ports.drams input.drams refl fits.drams))
      (each_held (outs_of core) (map (λ m. 0 ∷ []) (outs_of core)) (λ m. None) (outs_held (outs_of core)) (λ m. tt)))
