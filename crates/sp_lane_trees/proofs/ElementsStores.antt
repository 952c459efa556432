-- What combinations of elements leave in the accumulator and the flag: those of one lane, one after the other; those of several
-- lanes; and those of all lanes at each element.
use Rattle.std.proofs.Common.{◌≡◌, ℕ, ◌==◌, Bool, true, false, List, [], ◌∷◌, map, Option, Some, None, refl, sym, ◌∙◌, ap, subst, arith}
use Rattle.std.specs.Prelude.{slice_index_or, slice_set}
use Rattle.sp_words.specs.declared.kind.Kind.TheVariants.{Sram}
use Rattle.sp_words.specs.Memory.{Contents, cells}
use Rattle.sp_core.specs.Accesses.{word_in, with_word}
use Rattle.sp_core.specs.Declarations.{kind_of, dims, is_among}
use Rattle.sp_core.specs.Elements.{row_major}
use Rattle.sp_core.specs.PlainCore.{PlainCore}
use Rattle.sp_core.specs.Step.{Step, went, pure, in_order}
use Rattle.sp_core.specs.Store.{Store, cells_of}
use Rattle.sp_lane_groups.proofs.Renewed.{order_on}
use Rattle.sp_lane_groups.specs.JoinedWords.{in_turn}
use Rattle.sp_lane_trees.specs.ElementsCells.{after_cell, firsts, others, one_lane, by_lanes, one_element, by_elements, ArePlacesApart}
use Rattle.sp_lane_trees.proofs.CombinationsCombining.{after_word}
use Rattle.sp_lane_trees.proofs.CombinationsRegisters.{IsBoth, ReadsAs, put_in, put, put_here, put_other, read_back, write_twice}
use Rattle.sp_lane_trees.proofs.ElementsAccesses.{indices, HasElement, ElementIs, HoldsAt, flagged, written_at, set_at, set_here, set_elsewhere}
use Rattle.sp_lane_trees.proofs.ElementsExchange.{set_other, not_first}

-- an element: the words of its indices, and the word that tells whether it is the last one
pub record Element : Type 0 where
  pub ws : List ℕ
  pub last : ℕ

-- only the last of them is
abbrev pub OnlyLast : List Element → Type 0
OnlyLast [] = ⊥
OnlyLast (e ∷ []) = (e.last == 0) ≡ false
OnlyLast (e ∷ f ∷ es) = ((e.last == 0) ≡ true) × OnlyLast (f ∷ es)

-- the words of all lanes at an element, of which there is one at least
abbrev pub all_words : (ℕ → ℕ → ℕ) → Option ℕ → List ℕ → ℕ
all_words op o [] = 0
all_words op o (w ∷ ws) = in_turn op (after_word op o w) ws

module _ (core : PlainCore) (acc begun : ℕ) where
  abbrev pub place_of : Element → ℕ
  place_of e = row_major (dims core acc) (indices e.ws)

  abbrev pub places_of : List Element → List ℕ
  places_of es = map place_of es

  -- whether the accumulator holds words of this run, and that it does at each element
  abbrev pub Flag : Bool → Option Contents → Type 0
  Flag true c = ReadsAs core begun c 1
  Flag false c = ReadsAs core begun c 0

  abbrev pub HeldAt : Bool → List ℕ → Option Contents → Type 0
  HeldAt true ws c = (a : ℕ) × ElementIs core acc ws c a
  HeldAt false ws c = HasElement core acc ws

  abbrev pub Holding : Bool → Option Contents → List Element → Type 0
  Holding b c [] = Unit {0}
  Holding b c (e ∷ es) = HeldAt b e.ws c × Holding b c es

  module _ (op : ℕ → ℕ → ℕ) where
    -- one element after the other, each with a word
    abbrev pub Loop : List Element → List ℕ → Store → Store → Type 0
    Loop [] xs s after = s ≡ after
    Loop (e ∷ es) [] s after = ⊥
    Loop (e ∷ es) (x ∷ xs) s after = (o : Option ℕ) × HoldsAt core begun acc e.ws s o × Loop es xs (written_at core begun acc e.ws e.last (after_word op o x) s) after

    -- what the words of a lane leave, by what the accumulator and the flag held
    pub record Looped (es : List Element) (xs : List ℕ) (c d : Option Contents) (after : Store) : Type 0 where
      pub begins : Bool
      pub flag : Flag begins d
      pub holding : Holding begins c es
      pub words : after acc ≡ Some (cells (one_lane op begins (places_of es) xs (cells_of c)))
      pub flags : after begun ≡ Some (put_in core begun 1 d)

    -- what those of so many lanes leave
    abbrev pub Accumulated : List Element → (c d : Option Contents) → (after : Store) → (lanes : List (List ℕ)) → Type 0
    Accumulated es c d after [] = Unit {0}
    Accumulated es c d after (xs ∷ lanes) =
        (b : Bool) × Flag b d × Holding b c es × (after acc ≡ Some (cells (by_lanes op b (places_of es) (xs ∷ lanes) (cells_of c)))) × (after begun ≡ Some (put_in core begun 1 d))

  module _ (sram : kind_of core acc ≡ Sram) (both : IsBoth (kind_of core begun)) (apart : acc ≡ begun → ⊥) (op : ℕ → ℕ → ℕ) where
    -- what stands at an element
    cell_is : (ws : List ℕ) (c : Option Contents) → word_in (kind_of core acc) (dims core acc) (indices ws) c ≡ slice_index_or (cells_of c) (row_major (dims core acc) (indices ws)) None
    cell_is ws c = ap (λ k. word_in k (dims core acc) (indices ws) c) sram

    flagged_other : (last : ℕ) (s : Store) (m : ℕ) → (m ≡ begun → ⊥) → flagged core begun last s m ≡ s m
    flagged_other last s m ne = by (last == 0)
      where
        by : (b : Bool) → (elim b as (λ _. Store) [ true ↦ s | false ↦ put core begun 1 s ]) m ≡ s m
        by true = refl
        by false = put_other core begun 1 s m ne

    written_acc : (e : Element) (x : ℕ) (s : Store) → written_at core begun acc e.ws e.last x s acc ≡ Some (cells (slice_set (cells_of (s acc)) (place_of e) (Some x)))
    written_acc e x s =
        flagged_other e.last (set_at core acc e.ws x s) acc apart ∙ set_here core acc e.ws x s ∙ ap (λ k. Some (with_word k (dims core acc) (indices e.ws) x (s acc))) sram

    pub written_other : (e : Element) (x : ℕ) (s : Store) (m : ℕ) → (m ≡ acc → ⊥) → (m ≡ begun → ⊥) → written_at core begun acc e.ws e.last x s m ≡ s m
    written_other e x s m ne far = flagged_other e.last (set_at core acc e.ws x s) m far ∙ set_elsewhere core acc e.ws x s m ne

    flag_kept : (e : Element) (x : ℕ) (s : Store) → (e.last == 0) ≡ true → written_at core begun acc e.ws e.last x s begun ≡ s begun
    flag_kept e x s i = ap (λ b. (elim b as (λ _. Store) [ true ↦ set_at core acc e.ws x s | false ↦ put core begun 1 (set_at core acc e.ws x s) ]) begun) i ∙ set_elsewhere core acc e.ws x s begun (λ j. apart (sym j))

    flag_set : (e : Element) (x : ℕ) (s : Store) → (e.last == 0) ≡ false → written_at core begun acc e.ws e.last x s begun ≡ Some (put_in core begun 1 (s begun))
    flag_set e x s i =
        ap (λ b. (elim b as (λ _. Store) [ true ↦ set_at core acc e.ws x s | false ↦ put core begun 1 (set_at core acc e.ws x s) ]) begun) i
        ∙ put_here core begun 1 (set_at core acc e.ws x s) ∙ ap (λ c. Some (put_in core begun 1 c)) (set_elsewhere core acc e.ws x s begun (λ j. apart (sym j)))

    -- one reading of the flag
    flags_same : (a b : Bool) (d : Option Contents) → Flag a d → Flag b d → a ≡ b
    flags_same true true d f g = refl
    flags_same false false d f g = refl
    flags_same true false d f g = absurd (differ (sym g.1 ∙ f.1))
      where
        differ : ◌≡◌ {A = Option ℕ} (Some 0) (Some 1) → ⊥
        differ e = cc
    flags_same false true d f g = absurd (differ (sym f.1 ∙ g.1))
      where
        differ : ◌≡◌ {A = Option ℕ} (Some 0) (Some 1) → ⊥
        differ e = cc

    -- an element by what it holds, both ways
    pub record Read (e : Element) (s : Store) (o : Option ℕ) : Type 0 where
      pub begins : Bool
      pub flag : Flag begins (s begun)
      pub held : HeldAt begins e.ws (s acc)
      pub word : (x : ℕ) → after_word op o x ≡ after_cell op begins (slice_index_or (cells_of (s acc)) (place_of e) None) x

    read_of : (e : Element) (s : Store) (o : Option ℕ) → HoldsAt core begun acc e.ws s o → Read e s o
    read_of e s None h = record { begins = false; flag = h.0; held = h.1; word = λ x. refl }
    read_of e s (Some a) h = record { begins = true; flag = h.0; held = (a, h.1); word = λ x. ap (λ z. after_cell op true z x) (sym (sym (cell_is e.ws (s acc)) ∙ h.1.1)) }

    holds_of : (b : Bool) (e : Element) (s : Store) → Flag b (s begun) → HeldAt b e.ws (s acc) → (o : Option ℕ) × HoldsAt core begun acc e.ws s o × ((x : ℕ) → after_word op o x ≡ after_cell op b (slice_index_or (cells_of (s acc)) (place_of e) None) x)
    holds_of true e s f h = (Some h.0, (f, h.1), λ x. ap (λ z. after_cell op true z x) (sym (sym (cell_is e.ws (s acc)) ∙ h.1.1)))
    holds_of false e s f h = (None, (f, h), λ x. refl)

    -- the other elements after a word is written at one
    word_past : (f : Element) (c : Option Contents) (p : ℕ) (x : Option ℕ) → (p ≡ place_of f → ⊥) → (a : ℕ) → ElementIs core acc f.ws (Some (cells (slice_set (cells_of c) p x))) a → ElementIs core acc f.ws c a
    word_past f c p x ne a h = (h.0, cell_is f.ws c ∙ sym (set_other (cells_of c) p (place_of f) x (λ i. ne (sym i))) ∙ sym (cell_is f.ws (Some (cells (slice_set (cells_of c) p x)))) ∙ h.1)

    held_past : (b : Bool) (f : Element) (c : Option Contents) (p : ℕ) (x : Option ℕ) → (p ≡ place_of f → ⊥) → HeldAt b f.ws (Some (cells (slice_set (cells_of c) p x))) → HeldAt b f.ws c
    held_past true f c p x ne h = (h.0, word_past f c p x ne h.0 h.1)
    held_past false f c p x ne h = h

    held_still : (b : Bool) (f : Element) (c : Option Contents) (p : ℕ) (x : Option ℕ) → (p ≡ place_of f → ⊥) → HeldAt b f.ws c → HeldAt b f.ws (Some (cells (slice_set (cells_of c) p x)))
    held_still true f c p x ne h =
        (h.0, (h.1.0, cell_is f.ws (Some (cells (slice_set (cells_of c) p x))) ∙ set_other (cells_of c) p (place_of f) x (λ i. ne (sym i)) ∙ sym (cell_is f.ws c) ∙ h.1.1))
    held_still false f c p x ne h = h

    holding_past : (b : Bool) (es : List Element) (c : Option Contents) (p : ℕ) (x : Option ℕ) → is_among p (places_of es) ≡ false → Holding b (Some (cells (slice_set (cells_of c) p x))) es → Holding b c es
    holding_past b [] c p x free h = tt
    holding_past b (f ∷ es) c p x free h = let r = not_first p (place_of f) (places_of es) free in (held_past b f c p x (λ i. r.0 (sym i)) h.0, holding_past b es c p x r.1 h.1)

    -- what is said of each word that may be held at an element
    abbrev pub AllHeld : (ℕ → Type 0) → Option Contents → List Element → Type 0
    AllHeld P c [] = Unit {0}
    AllHeld P c (e ∷ es) = ((a : ℕ) → ElementIs core acc e.ws c a → P a) × AllHeld P c es

    held_said : (P : ℕ → Type 0) (es : List Element) (c : Option Contents) (p : ℕ) (x : Option ℕ) → is_among p (places_of es) ≡ false → AllHeld P c es → AllHeld P (Some (cells (slice_set (cells_of c) p x))) es
    held_said P [] c p x free h = tt
    held_said P (f ∷ es) c p x free h =
        let r = not_first p (place_of f) (places_of es) free in
        ((λ a i. h.0 a (word_past f c p x (λ j. r.0 (sym j)) a i)), held_said P es c p x r.1 h.1)

    holding_still : (b : Bool) (es : List Element) (c : Option Contents) (p : ℕ) (x : Option ℕ) → is_among p (places_of es) ≡ false → Holding b c es → Holding b (Some (cells (slice_set (cells_of c) p x))) es
    holding_still b [] c p x free h = tt
    holding_still b (f ∷ es) c p x free h = let r = not_first p (place_of f) (places_of es) free in (held_still b f c p x (λ i. r.0 (sym i)) h.0, holding_still b es c p x r.1 h.1)

    -- what a loop leaves
    pub loop_left : (es : List Element) (xs : List ℕ) (s after : Store) → OnlyLast es → ArePlacesApart (places_of es) → Loop op es xs s after → Looped op es xs (s acc) (s begun) after
    loop_left [] xs s after only far h = absurd only
    loop_left (e ∷ []) [] s after only far h = absurd h
    loop_left (e ∷ f ∷ es) [] s after only far h = absurd h
    loop_left (e ∷ []) (x ∷ xs) s after only far h =
        let r : Read e s h.0 = read_of e s h.0 h.1 in
        let v : ℕ = after_word op h.0 x in
        record {
          begins = r.begins;
          flag = r.flag;
          holding = (r.held, tt);
          words = ap (λ (u : Store). u acc) (sym h.2) ∙ written_acc e v s ∙ ap (λ z. Some (cells (slice_set (cells_of (s acc)) (place_of e) (Some z)))) (r.word x);
          flags = ap (λ (u : Store). u begun) (sym h.2) ∙ flag_set e v s only;
        }
    loop_left (e ∷ f ∷ es) (x ∷ xs) s after only far h =
        let r : Read e s h.0 = read_of e s h.0 h.1 in
        let v : ℕ = after_word op h.0 x in
        let u : Store = written_at core begun acc e.ws e.last v s in
        let z : Looped op (f ∷ es) xs (u acc) (u begun) after = loop_left (f ∷ es) xs u after only.1 far.1 h.2 in
        let now : Looped op (f ∷ es) xs (Some (cells (slice_set (cells_of (s acc)) (place_of e) (Some v)))) (s begun) after =
        subst (λ d. Looped op (f ∷ es) xs (Some (cells (slice_set (cells_of (s acc)) (place_of e) (Some v)))) d after) (flag_kept e v s only.0) (subst (λ c. Looped op (f ∷ es) xs c (u begun) after) (written_acc e v s) z) in
        let same : now.begins ≡ r.begins = flags_same now.begins r.begins (s begun) now.flag r.flag in
        record {
          begins = r.begins;
          flag = r.flag;
          holding = (r.held, holding_past r.begins (f ∷ es) (s acc) (place_of e) (Some v) far.0 (subst (λ b. Holding b (Some (cells (slice_set (cells_of (s acc)) (place_of e) (Some v)))) (f ∷ es)) same now.holding));
          words = now.words ∙ ap (λ b. Some (cells (one_lane op b (places_of (f ∷ es)) xs (slice_set (cells_of (s acc)) (place_of e) (Some v))))) same
              ∙ ap (λ y. Some (cells (one_lane op r.begins (places_of (f ∷ es)) xs (slice_set (cells_of (s acc)) (place_of e) (Some y))))) (r.word x);
          flags = now.flags;
        }

    pub loop_other : (es : List Element) (xs : List ℕ) (s after : Store) → Loop op es xs s after → (m : ℕ) → (m ≡ acc → ⊥) → (m ≡ begun → ⊥) → after m ≡ s m
    loop_other [] xs s after h m ne away = ap (λ (u : Store). u m) (sym h)
    loop_other (e ∷ es) [] s after h m ne away = absurd h
    loop_other (e ∷ es) (x ∷ xs) s after h m ne away =
        loop_other es xs (written_at core begun acc e.ws e.last (after_word op h.0 x) s) after h.2 m ne away ∙ written_other e (after_word op h.0 x) s m ne away

    -- a lane, and those after it
    pub more_left : (es : List Element) (xs : List ℕ) (c d : Option Contents) (between after : Store) (lanes : List (List ℕ)) → Looped op es xs c d between → (lanes ≡ [] → between ≡ after) → Accumulated op es (between acc) (between begun) after lanes
        → Accumulated op es c d after (xs ∷ lanes)
    more_left es xs c d between after [] z none h =
        (z.begins, z.flag, z.holding, ap (λ (u : Store). u acc) (sym (none refl)) ∙ z.words, ap (λ (u : Store). u begun) (sym (none refl)) ∙ z.flags)
    more_left es xs c d between after (ys ∷ lanes) z none h =
        let now : Accumulated op es (Some (cells (one_lane op z.begins (places_of es) xs (cells_of c)))) (Some (put_in core begun 1 d)) after (ys ∷ lanes) =
        subst (λ e. Accumulated op es (Some (cells (one_lane op z.begins (places_of es) xs (cells_of c)))) e after (ys ∷ lanes)) z.flags (subst (λ e. Accumulated op es e (between begun) after (ys ∷ lanes)) z.words h) in
        let on : now.0 ≡ true = begun_on now.0 now.1 in (
          z.begins,
          z.flag,
          z.holding,
          now.3 ∙ ap (λ b. Some (cells (by_lanes op b (places_of es) (ys ∷ lanes) (one_lane op z.begins (places_of es) xs (cells_of c))))) on,
          now.4 ∙ ap Some (write_twice (kind_of core begun) (dims core begun) 1 1 d both),
        )
      where
        begun_on : (b : Bool) → Flag b (Some (put_in core begun 1 d)) → b ≡ true
        begun_on true f = refl
        begun_on false f = absurd (differ (read_back (kind_of core begun) (dims core begun) 1 0 d both f.1))
          where
            differ : ◌≡◌ {A = ℕ} 0 1 → ⊥
            differ e = omega (arith, e)

    -- steps at elements, each of which combines the words of all lanes from a store that holds elsewhere what one did
    module _ {A V : Type 0} (step : V → Step A) (el : V → Element) (first : Store) (P : ℕ → Type 0) where
      abbrev pub Near : Store → Type 0
      Near u = (m : ℕ) → (m ≡ acc → ⊥) → (m ≡ begun → ⊥) → u m ≡ first m

      abbrev pub Does : List V → List (List ℕ) → Type 0
      Does [] lanes = Unit {0}
      Does (v ∷ vs) lanes =
          ((u : Store) (o : Option ℕ) → Near u → HoldsAt core begun acc (el v).ws u o → ((a : ℕ) → o ≡ Some a → P a) → (a : A) × (step v u ≡ went a (written_at core begun acc (el v).ws (el v).last (all_words op o (firsts 0 lanes)) u))) × Does vs (others lanes)

      pub record Done (vs : List V) (b : Bool) (lanes : List (List ℕ)) (u : Store) : Type 0 where
        pub answers : List A
        pub ended : Store
        pub ran : in_order step vs u ≡ went answers ended
        pub words : ended acc ≡ Some (cells (by_elements op b (places_of (map el vs)) lanes (cells_of (u acc))))
        pub flags : ended begun ≡ Some (put_in core begun 1 (u begun))
        pub elsewhere : Near ended

      near_written : (e : Element) (x : ℕ) (u : Store) → Near u → Near (written_at core begun acc e.ws e.last x u)
      near_written e x u near m ne away = written_other e x u m ne away ∙ near m ne away

      more_lanes : (xs : List ℕ) (lanes : List (List ℕ)) → (ys : List ℕ) × (rest : List (List ℕ)) × (others (xs ∷ lanes) ≡ ys ∷ rest)
      more_lanes [] lanes = ([], others lanes, refl)
      more_lanes (x ∷ xs) lanes = (xs, others lanes, refl)

      -- the word that is written is that of the cells
      value_is : (b : Bool) (p : ℕ) (cs : List (Option ℕ)) (o : Option ℕ) (xs : List ℕ) (lanes : List (List ℕ)) → ((x : ℕ) → after_word op o x ≡ after_cell op b (slice_index_or cs p None) x)
          → slice_set cs p (Some (all_words op o (firsts 0 (xs ∷ lanes)))) ≡ one_element op b p (firsts 0 (xs ∷ lanes)) cs
      value_is b p cs o [] lanes h = ap (λ z. slice_set cs p (Some (in_turn op z (firsts 0 lanes)))) (h 0)
      value_is b p cs o (x ∷ xs) lanes h = ap (λ z. slice_set cs p (Some (in_turn op z (firsts 0 lanes)))) (h x)

      said_of : (e : Element) (u : Store) (o : Option ℕ) → HoldsAt core begun acc e.ws u o → ((a : ℕ) → ElementIs core acc e.ws (u acc) a → P a) → (a : ℕ) → o ≡ Some a → P a
      said_of e u None h k a i = absurd (nothing i)
        where
          nothing : ◌≡◌ {A = Option ℕ} None (Some a) → ⊥
          nothing j = cc
      said_of e u (Some z) h k a i = subst P same (k z h.1)
        where
          same : z ≡ a
          same = cc

      pub elements_do : (vs : List V) (xs : List ℕ) (lanes : List (List ℕ)) (u : Store) (b : Bool) → OnlyLast (map el vs) → ArePlacesApart (places_of (map el vs)) → Near u → Flag b (u begun) → Holding b (u acc) (map el vs) → AllHeld P (u acc) (map el vs) → Does vs (xs ∷ lanes)
          → Done vs b (xs ∷ lanes) u
      unfolding in_order pure
      elements_do [] xs lanes u b only far near flag holding said does = absurd only
      elements_do (v ∷ []) xs lanes u b only far near flag holding said does =
          let h = holds_of b (el v) u flag holding.0 in
          let d = does.0 u h.0 near h.1 (said_of (el v) u h.0 h.1 said.0) in
          let x : ℕ = all_words op h.0 (firsts 0 (xs ∷ lanes)) in
          let after : Store = written_at core begun acc (el v).ws (el v).last x u in
          record {
            answers = d.0 ∷ [];
            ended = after;
            ran = order_on step v [] u after after d.0 [] d.1 refl;
            words = written_acc (el v) x u ∙ ap (λ cs. Some (cells cs)) (value_is b (place_of (el v)) (cells_of (u acc)) h.0 xs lanes h.2);
            flags = flag_set (el v) x u only;
            elsewhere = near_written (el v) x u near;
          }
      elements_do (v ∷ w ∷ vs) xs lanes u b only far near flag holding said does =
          let h = holds_of b (el v) u flag holding.0 in
          let d = does.0 u h.0 near h.1 (said_of (el v) u h.0 h.1 said.0) in
          let x : ℕ = all_words op h.0 (firsts 0 (xs ∷ lanes)) in
          let e : Element = el v in
          let after : Store = written_at core begun acc e.ws e.last x u in
          let more = more_lanes xs lanes in
          let kept : after begun ≡ u begun = flag_kept e x u only.0 in
          let z : Done (w ∷ vs) b (more.0 ∷ more.1) after =
          elements_do (w ∷ vs) more.0 more.1 after b only.1 far.1 (near_written e x u near) (subst (Flag b) (sym kept) flag)
          (subst (λ c. Holding b c (map el (w ∷ vs))) (sym (written_acc e x u)) (holding_still b (map el (w ∷ vs)) (u acc) (place_of e) (Some x) far.0 holding.1))
          (subst (λ c. AllHeld P c (map el (w ∷ vs))) (sym (written_acc e x u)) (held_said P (map el (w ∷ vs)) (u acc) (place_of e) (Some x) far.0 said.1)) (subst (λ ls. Does (w ∷ vs) ls) more.2 does.1) in
          record {
            answers = d.0 ∷ z.answers;
            ended = z.ended;
            ran = order_on step v (w ∷ vs) u after z.ended d.0 z.answers d.1 z.ran;
            words = z.words
                ∙ ap (λ ls. Some (cells (by_elements op b (places_of (map el (w ∷ vs))) ls (cells_of (after acc))))) (sym more.2)
                ∙ ap (λ c. Some (cells (by_elements op b (places_of (map el (w ∷ vs))) (others (xs ∷ lanes)) (cells_of c)))) (written_acc e x u)
                ∙ ap (λ cs. Some (cells (by_elements op b (places_of (map el (w ∷ vs))) (others (xs ∷ lanes)) cs))) (value_is b (place_of e) (cells_of (u acc)) h.0 xs lanes h.2);
            flags = z.flags ∙ ap (λ c. Some (put_in core begun 1 c)) kept;
            elsewhere = z.elsewhere;
          }
