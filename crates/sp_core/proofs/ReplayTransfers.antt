-- The moments of transfers.
use Rattle.std.proofs.Common.{◌≡◌, ℕ, zero, suc, ◌+◌, Bool, true, false, List, [], ◌∷◌, ◌++◌, refl, sym, ◌∙◌, ap, subst, arith}
use Rattle.std.specs.Prelude.{map}
use Rattle.sp_words.specs.declared.kind.Kind.{Kind}
use Rattle.sp_words.specs.declared.kind.Kind.TheVariants.{Reg, Sram, Fifo, LineBuf, Dram, ArgIn, ArgOut}
use Rattle.sp_core.specs.Accesses.{read_in, write_in}
use Rattle.sp_core.specs.Declarations.{kind_of, dims, dram_number}
use Rattle.sp_core.specs.Elements.{index_value, natural, numbers_below}
use Rattle.sp_core.specs.Events.{reads, writes, Standing, Slice, Moment, slices, first_of, rows_turn, load_moments, store_moments, loaded, stored, gather_moments, scatter_moments, picked_moments}
use Rattle.sp_core.specs.History.{Taken, History, moved}
use Rattle.sp_core.specs.PlainCore.{PlainCore}
use Rattle.sp_core.specs.Replay.{Happens, after_all}
use Rattle.sp_core.specs.Step.{Step, pure, ◌>>=◌, ◌>>◌, ensure, in_order}
use Rattle.sp_core.specs.Transfers.{Part, part_of, lengths, has_none, places_of, all_offsets, are_parts_inside, do_fit, range_limits, loaded_at, make_room, load_words, transfer, load_slice, store_slice, place_at, gather_word, scatter_word}
use Rattle.sp_core.proofs.Replays.{Does, pure_does, weaker_does, ensure_does, still_then, then_pure, event, read_does, write_does, turn_does}
use Rattle.sp_core.proofs.ReplayLists.{after_known}

module _ (core : PlainCore) (n : ℕ) (st : Standing) where
  room_made : (kind : Kind) (m : ℕ) → Does core (λ _ ms. ms ≡ rows_turn core n st kind m) (make_room core kind m)
  room_made LineBuf m = turn_does core n st m
  room_made Reg m = pure_does core _ _ refl
  room_made Sram m = pure_does core _ _ refl
  room_made Fifo m = pure_does core _ _ refl
  room_made Dram m = pure_does core _ _ refl
  room_made ArgIn m = pure_does core _ _ refl
  room_made ArgOut m = pure_does core _ _ refl

  -- one word
  word_loaded : (r m : ℕ) (places at : List ℕ) → Does core (λ w ms. ms ≡ event core n st (dram_number core r) places (reads w) ∷ event core n st m at (writes w) ∷ []) (read_in core (dram_number core r) places >>= (λ w. write_in core m at w >> pure w))
  word_loaded r m places at = after_known core _ _ (λ w. event core n st (dram_number core r) places (reads w) ∷ []) _ (read_does core n st (dram_number core r) places) (λ w. then_pure core _ _ _ _ (write_does core n st m at w) (λ _ ms e. ap (λ x. event core n st (dram_number core r) places (reads w) ∷ x) e))

  word_stored : (r m : ℕ) (places at : List ℕ) → Does core (λ w ms. ms ≡ event core n st m at (reads w) ∷ event core n st (dram_number core r) places (writes w) ∷ []) (read_in core m at >>= (λ w. write_in core (dram_number core r) places w >> pure w))
  word_stored r m places at = after_known core _ _ (λ w. event core n st m at (reads w) ∷ []) _ (read_does core n st m at) (λ w. then_pure core _ _ _ _ (write_does core n st (dram_number core r) places w) (λ _ ms e. ap (λ x. event core n st m at (reads w) ∷ x) e))

  all_loaded : (r m : ℕ) (parts : List Part) (offsets : List (List ℕ)) → Does core (λ ws ms. ms ≡ load_moments core n st r m parts offsets ws) (in_order (λ o. read_in core (dram_number core r) (places_of parts o) >>= (λ w. write_in core m (loaded_at core (kind_of core m) m o) w >> pure w)) offsets)
  unfolding in_order
  all_loaded r m parts [] = pure_does core _ _ refl
  all_loaded r m parts (o ∷ offsets) = after_known core _ _ _ _ (word_loaded r m (places_of parts o) (loaded_at core (kind_of core m) m o)) (λ w. then_pure core _ _ _ _ (all_loaded r m parts offsets) (λ ws ms e. ap (λ x. event core n st (dram_number core r) (places_of parts o) (reads w) ∷ event core n st m (loaded_at core (kind_of core m) m o) (writes w) ∷ x) e))

  all_stored : (r m : ℕ) (parts : List Part) (offsets : List (List ℕ)) → Does core (λ ws ms. ms ≡ store_moments core n st r m parts offsets ws) (in_order (λ o. read_in core m o >>= (λ w. write_in core (dram_number core r) (places_of parts o) w >> pure w)) offsets)
  unfolding in_order
  all_stored r m parts [] = pure_does core _ _ refl
  all_stored r m parts (o ∷ offsets) = after_known core _ _ _ _ (word_stored r m (places_of parts o) o) (λ w. then_pure core _ _ _ _ (all_stored r m parts offsets) (λ ws ms e. ap (λ x. event core n st m o (reads w) ∷ event core n st (dram_number core r) (places_of parts o) (writes w) ∷ x) e))

  words_loaded : (r m : ℕ) (parts : List Part) → Does core (λ ws ms. ms ≡ rows_turn core n st (kind_of core m) m ++ load_moments core n st r m parts (all_offsets parts) ws) (load_words core r m parts)
  words_loaded r m parts = after_known core _ _ (λ _. rows_turn core n st (kind_of core m) m) _ (room_made (kind_of core m) m) (λ _. weaker_does core _ _ _ (λ ws ms e. ap (λ x. rows_turn core n st (kind_of core m) m ++ x) e) (all_loaded r m parts (all_offsets parts)))

  -- a slice is marked before its words
  marked : {A : Type 0} (slice : Slice) (P : A → List Moment → Type 0) (step : Step A) → Does core P step → Does core (λ a ms. (ns : List Moment) × P a ns × (ms ≡ slices slice ∷ ns)) step
  marked slice P step f s t a e = let d = f s t a e in (slices slice ∷ d.0, (d.0, d.1, refl), (tt, d.2), d.3)

  -- by whether a range is empty
  abbrev Moved : (ts : List Taken) → (words : List ℕ → List Moment) → (none : Bool) → History → List Moment → Type 0
  Moved ts words none h ms = (ws : List ℕ) × (h ≡ moved ts ws) × (ms ≡ elim none as (λ _. List Moment) [ true ↦ [] | false ↦ slices (record { number = n; standing = st; firsts = map first_of (map part_of ts); lengths = lengths (map part_of ts) }) ∷ words ws ])

  transferred : (r m : ℕ) (ts : List Taken) (move : Step (List ℕ)) (words : List ℕ → List Moment) → Does core (λ ws ms. ms ≡ words ws) move → Does core (Moved ts words (has_none (lengths (map part_of ts)))) (transfer core r m ts move)
  transferred r m ts move words f = go (has_none (lengths (map part_of ts)))
    where
      go : (none : Bool) → Does core (Moved ts words none) (elim none [ true ↦ pure (moved ts []) | false ↦ ensure (are_parts_inside (dims core (dram_number core r)) (map part_of ts)) >> (ensure (do_fit (range_limits (kind_of core m) (dims core m)) (lengths (map part_of ts))) >> (move >>= (λ ws. pure (moved ts ws)))) ])
      go true = pure_does core _ _ ([], refl, refl)
      go false = still_then core _ _ _ (ensure_does core _) (λ _. still_then core _ _ _ (ensure_does core _) (λ _.
          then_pure core _ _ _ _ (marked (record { number = n; standing = st; firsts = map first_of (map part_of ts); lengths = lengths (map part_of ts) }) _ _ f) (λ ws ms p. (ws, refl, p.2 ∙ ap (λ x. slices (record { number = n; standing = st; firsts = map first_of (map part_of ts); lengths = lengths (map part_of ts) }) ∷ x) p.1))))

  pub slice_loaded : (r m : ℕ) (ts : List Taken) → Does core (λ h ms. (ws : List ℕ) × (h ≡ moved ts ws) × (ms ≡ loaded core n st r m (map part_of ts) ws)) (load_slice core r m ts)
  slice_loaded r m ts = transferred r m ts _ _ (words_loaded r m (map part_of ts))

  pub slice_stored : (r m : ℕ) (ts : List Taken) → Does core (λ h ms. (ws : List ℕ) × (h ≡ moved ts ws) × (ms ≡ stored core n st r m (map part_of ts) ws)) (store_slice core r m ts)
  slice_stored r m ts = transferred r m ts _ _ (all_stored r m (map part_of ts) (all_offsets (map part_of ts)))

  place_found : (r p k : ℕ) → Does core (λ i ms. ms ≡ event core n st p (k ∷ []) (reads i) ∷ []) (place_at core r p k)
  place_found r p k = still_then core _ _ _ (ensure_does core _) (λ _. after_known core _ _ (λ i. event core n st p (k ∷ []) (reads i) ∷ []) _ (read_does core n st p (k ∷ [])) (λ i. still_then core _ _ _ (ensure_does core _) (λ _. pure_does core _ _ refl)))

  abbrev Gathered : (r m p k : ℕ) → ℕ × ℕ → List Moment
  Gathered r m p k w = event core n st p (k ∷ []) (reads w.0) ∷ event core n st (dram_number core r) (natural (index_value w.0) ∷ []) (reads w.1) ∷ event core n st m (k ∷ []) (writes w.1) ∷ []

  word_gathered : (r m p k : ℕ) → Does core (λ w ms. ms ≡ Gathered r m p k w) (gather_word core r m p k)
  word_gathered r m p k = after_known core _ _ (λ i. event core n st p (k ∷ []) (reads i) ∷ []) _ (place_found r p k) (λ i.
      after_known core _ _ (λ w. event core n st (dram_number core r) (natural (index_value i) ∷ []) (reads w) ∷ []) _ (read_does core n st (dram_number core r) (natural (index_value i) ∷ [])) (λ w.
      still_then core _ _ _ (ensure_does core _) (λ _. then_pure core _ _ _ _ (write_does core n st m (k ∷ []) w) (λ _ ms e. ap (λ x. event core n st p (k ∷ []) (reads i) ∷ event core n st (dram_number core r) (natural (index_value i) ∷ []) (reads w) ∷ x) e))))

  abbrev Scattered : (r m p k : ℕ) → ℕ × ℕ → List Moment
  Scattered r m p k w = event core n st p (k ∷ []) (reads w.0) ∷ event core n st m (k ∷ []) (reads w.1) ∷ event core n st (dram_number core r) (natural (index_value w.0) ∷ []) (writes w.1) ∷ []

  word_scattered : (r m p k : ℕ) → Does core (λ w ms. ms ≡ Scattered r m p k w) (scatter_word core r m p k)
  word_scattered r m p k = after_known core _ _ (λ i. event core n st p (k ∷ []) (reads i) ∷ []) _ (place_found r p k) (λ i.
      still_then core _ _ _ (ensure_does core _) (λ _. after_known core _ _ (λ w. event core n st m (k ∷ []) (reads w) ∷ []) _ (read_does core n st m (k ∷ [])) (λ w.
      then_pure core _ _ _ _ (write_does core n st (dram_number core r) (natural (index_value i) ∷ []) w) (λ _ ms e. ap (λ x. event core n st p (k ∷ []) (reads i) ∷ event core n st m (k ∷ []) (reads w) ∷ x) e))))

  -- k, k + 1, .., so many
  counting : (k many : ℕ) → List ℕ
  counting k zero = []
  counting k (suc many) = k ∷ counting (suc k) many

  counting-last : (k many : ℕ) → counting k (suc many) ≡ counting k many ++ (k + many) ∷ []
  unfolding counting
  counting-last k zero = ap (λ x. x ∷ []) (omega arith)
  counting-last k (suc many) = ap (λ x. k ∷ x) (counting-last (suc k) many ∙ ap (λ x. counting (suc k) many ++ x ∷ []) (omega arith))

  counted : (many : ℕ) → numbers_below many ≡ counting 0 many
  unfolding counting
  counted zero = refl
  counted (suc many) = ap (λ x. x ++ many ∷ []) (counted many) ∙ ap (λ x. counting 0 many ++ x ∷ []) (omega arith) ∙ sym (counting-last 0 many)

  all_gathered : (r m p k many : ℕ) → Does core (λ ws ms. ms ≡ gather_moments core n st r m p k ws) (in_order (gather_word core r m p) (counting k many))
  unfolding in_order counting
  all_gathered r m p k zero = pure_does core _ _ refl
  all_gathered r m p k (suc many) = after_known core _ _ _ _ (word_gathered r m p k) (λ w. then_pure core _ _ _ _ (all_gathered r m p (suc k) many) (λ ws ms e. ap (λ x. Gathered r m p k w ++ x) e))

  all_scattered : (r m p k many : ℕ) → Does core (λ ws ms. ms ≡ scatter_moments core n st r m p k ws) (in_order (scatter_word core r m p) (counting k many))
  unfolding in_order counting
  all_scattered r m p k zero = pure_does core _ _ refl
  all_scattered r m p k (suc many) = after_known core _ _ _ _ (word_scattered r m p k) (λ w. then_pure core _ _ _ _ (all_scattered r m p (suc k) many) (λ ws ms e. ap (λ x. Scattered r m p k w ++ x) e))

  -- a count is marked where there is a word
  count_marked : (step : Step (List (ℕ × ℕ))) (f : List (ℕ × ℕ) → List Moment) → f [] ≡ [] → Does core (λ ws ms. ms ≡ f ws) step → Does core (λ ws ms. ms ≡ picked_moments core n st ws (f ws)) step
  count_marked step f none h s t ws e = let d = h s t ws e in go ws d.0 d.1 d.2 d.3
    where
      go : (ws : List (ℕ × ℕ)) (ms : List Moment) → ms ≡ f ws → Happens core ms s → after_all core ms s ≡ t → (ns : List Moment) × (ns ≡ picked_moments core n st ws (f ws)) × Happens core ns s × (after_all core ns s ≡ t)
      go [] ms e h a = (ms, e ∙ none, h, a)
      go (w ∷ ws) ms e h a = (picked_moments core n st (w ∷ ws) ms, ap (picked_moments core n st (w ∷ ws)) e, (tt, h), a)

  pub words_gathered : (r m p many : ℕ) → Does core (λ ws ms. ms ≡ picked_moments core n st ws (gather_moments core n st r m p 0 ws)) (in_order (gather_word core r m p) (numbers_below many))
  words_gathered r m p many = count_marked _ _ refl (subst (λ x. Does core (λ ws ms. ms ≡ gather_moments core n st r m p 0 ws) (in_order (gather_word core r m p) x)) (sym (counted many)) (all_gathered r m p 0 many))

  pub words_scattered : (r m p many : ℕ) → Does core (λ ws ms. ms ≡ picked_moments core n st ws (scatter_moments core n st r m p 0 ws)) (in_order (scatter_word core r m p) (numbers_below many))
  words_scattered r m p many = count_marked _ _ refl (subst (λ x. Does core (λ ws ms. ms ≡ scatter_moments core n st r m p 0 ws) (in_order (scatter_word core r m p) x)) (sym (counted many)) (all_scattered r m p 0 many))
