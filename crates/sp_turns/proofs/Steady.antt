-- How many turns the parts of statements take: none, or one for each word or element.
use Rattle.std.proofs.Common.{◌≡◌, ℕ, ◌+◌, ◌*◌, Bool, true, false, List, [], ◌∷◌, ◌++◌, Option, Some, None, refl, arith}
use Rattle.std.specs.Prelude.{length, map, drop, slice_index, slice_index_or, slice_set, nat_lt, nat_le}
use Rattle.sp_words.specs.declared.kind.Style.{Style}
use Rattle.sp_words.specs.Interface.{word_count}
use Rattle.sp_words.specs.Memory.{Contents, cells, queue, rows, words}
use Rattle.sp_tree.specs.declared.statement.Comb.{Comb}
use Rattle.sp_tree.specs.declared.statement.FaultKind.{FaultKind}
use Rattle.sp_tree.specs.declared.statement.FaultKind.TheVariants.{Bounds, DramBounds}
use Rattle.sp_tree.specs.Accesses.{hold_now, written, read_cell, write_cell, read_word, write_word, enqueue}
use Rattle.sp_tree.specs.Elements.{index_value, natural, is_below, are_inside, numbers_below, row_major, counter_words}
use Rattle.sp_tree.specs.Expressions.{mem, dims, element, word, words as all_words}
use Rattle.sp_tree.specs.Operators.{combined}
use Rattle.sp_tree.specs.PlainExpression.{PlainExpr, PlainExprs}
use Rattle.sp_tree.specs.PlainProgram.{PlainMem}
use Rattle.sp_tree.specs.PlainStatement.{PlainSpan, single, range, PlainCounter, PlainStmts}
use Rattle.sp_tree.specs.Sequential.{count_now, counter_range, part, assign, assign_all, keep_depth, end_block}
use Rattle.sp_tree.specs.Step.{Step, pure, ◌>>=◌, ◌>>◌, turn, ensure, read, change, in_order}
use Rattle.sp_tree.specs.Store.{cells_of, queue_of, rows_of, words_of, hold, name_value, set_counter}
use Rattle.sp_tree.specs.Streams.{fifos_with_room}
use Rattle.sp_tree.specs.Transfers.{Part, index, between, lengths, has_none, are_parts_inside, do_fit, places_of, all_offsets, row_of, load_words, store_words, load_row, transfer, place_held, gather_words, scatter_words}
use Rattle.sp_tree.proofs.Closure.{word_Q, words_Q}
use Rattle.sp_tree.proofs.Everything.{any_expr, any_exprs}
use Rattle.sp_tree.proofs.Timed.{IsTimed, timed_closed}
use Rattle.sp_turns.proofs.Falling.{Takes, timed_takes, takes_bind, takes_less, still_bind, pure_takes, read_takes, change_takes, fault_takes, ensure_takes, turn_takes, each_takes}

pub hold_takes : (m : ℕ) (c : Contents) → Takes (hold_now m c) 0
hold_takes m c = change_takes (λ s. hold s m c)

written_takes : (place : ℕ) (o : Option ℕ) → Takes (written place o) 0
written_takes place None = fault_takes _ place
written_takes place (Some w) = pure_takes w

pub read_cell_takes : (m at place : ℕ) → Takes (read_cell m at place) 0
read_cell_takes m at place = still_bind (read (λ s. cells_of (s.held m))) (λ cs. written place (slice_index_or cs at None)) (read_takes (λ s. cells_of (s.held m))) (λ cs. written_takes place (slice_index_or cs at None))

pub write_takes : (m at w : ℕ) → Takes (write_cell m at w) 0
write_takes m at w = still_bind (read (λ s. cells_of (s.held m))) (λ cs. hold_now m (cells (slice_set cs at (Some w)))) (read_takes (λ s. cells_of (s.held m))) (λ cs. hold_takes m (cells (slice_set cs at (Some w))))

pub read_word_takes : (m at : ℕ) → Takes (read_word m at) 0
read_word_takes m at = read_takes (λ s. slice_index (words_of (s.held m)) at)

pub put_takes : (m at w : ℕ) → Takes (write_word m at w) 0
put_takes m at w = still_bind (read (λ s. words_of (s.held m))) (λ ws. hold_now m (words (slice_set ws at w))) (read_takes (λ s. words_of (s.held m))) (λ ws. hold_takes m (words (slice_set ws at w)))

pub enqueue_takes : (m depth w place : ℕ) → Takes (enqueue m depth w place) 0
enqueue_takes m depth w place =
    still_bind (read (λ s. queue_of (s.held m))) (λ ws. ensure (nat_lt (length ws) depth) _ place >> hold_now m (queue (ws ++ w ∷ []))) (read_takes (λ s. queue_of (s.held m)))
    (λ ws. still_bind (ensure (nat_lt (length ws) depth) _ place) (λ _. hold_now m (queue (ws ++ w ∷ []))) (ensure_takes (nat_lt (length ws) depth) _ place) (λ _. hold_takes m (queue (ws ++ w ∷ []))))

pub name_takes : (v w : ℕ) → Takes (change (λ s. name_value s v w)) 0
name_takes v w = change_takes (λ s. name_value s v w)

pub count_takes : (counters : List PlainCounter) (ws : List ℕ) → Takes (count_now counters ws) 0
count_takes [] ws = pure_takes tt
count_takes (c ∷ counters) [] = pure_takes tt
count_takes (c ∷ counters) (w ∷ ws) = still_bind (change (λ s. set_counter s c.number w)) (λ _. count_now counters ws) (change_takes (λ s. set_counter s c.number w)) (λ _. count_takes counters ws)

module _ (mems : List PlainMem) where
  pub word_takes : (e : PlainExpr) → Takes (word mems e) 0
  word_takes e = timed_takes (word mems e) (word_Q IsTimed (λ _. true) timed_closed mems e (any_expr e))

  pub words_take : (es : PlainExprs) → Takes (all_words mems es) 0
  words_take es = timed_takes (all_words mems es) (words_Q IsTimed (λ _. true) timed_closed mems es (any_exprs es))

  pub element_takes : (m place : ℕ) (is : List ℕ) → Takes (element mems m place is) 0
  element_takes m place is =
      still_bind (ensure (are_inside (dims mems m) (map index_value is)) Bounds place) (λ _. pure (row_major (dims mems m) (map (λ i. natural (index_value i)) is))) (ensure_takes (are_inside (dims mems m) (map index_value is)) Bounds place)
      (λ _. pure_takes (row_major (dims mems m) (map (λ i. natural (index_value i)) is)))

  range_takes : (c : PlainCounter) → Takes (counter_range mems c) 0
  range_takes c =
      still_bind (word mems c.from) (λ a. word mems c.until >>= (λ b. pure (counter_words a b c.step))) (word_takes c.from)
      (λ a. still_bind (word mems c.until) (λ b. pure (counter_words a b c.step)) (word_takes c.until) (λ b. pure_takes (counter_words a b c.step)))

  part_takes : (span : PlainSpan) → Takes (part mems span) 0
  part_takes (single e) = still_bind (word mems e) (λ i. pure (index (index_value i))) (word_takes e) (λ i. pure_takes (index (index_value i)))
  part_takes (range a b par) =
      still_bind (word mems a) (λ x. word mems b >>= (λ y. pure (between (index_value x) (index_value y)))) (word_takes a)
      (λ x. still_bind (word mems b) (λ y. pure (between (index_value x) (index_value y))) (word_takes b) (λ y. pure_takes (between (index_value x) (index_value y))))

  each_still : {X A : Type 0} (f : X → Step A) → ((x : X) → Takes (f x) 0) → (xs : List X) → Takes (in_order f xs) 0
  each_still f g xs = takes_less (in_order f xs) 0 (length xs * 0) (omega arith) (each_takes f 0 g xs)

  pub ranges_take : (counters : List PlainCounter) → Takes (in_order (counter_range mems) counters) 0
  ranges_take counters = each_still (counter_range mems) range_takes counters

  pub parts_take : (spans : List PlainSpan) → Takes (in_order (part mems) spans) 0
  parts_take spans = each_still (part mems) part_takes spans

  pub assign_takes : (comb : Comb) (acc at : ℕ) (b : Bool) (w place : ℕ) → Takes (assign mems comb acc at b w place) 0
  assign_takes comb acc at false w place = write_takes acc at w
  assign_takes comb acc at true w place =
      still_bind (read_cell acc at place) (λ before. write_cell acc at (combined comb (mem mems acc).ty before w)) (read_cell_takes acc at place) (λ before. write_takes acc at (combined comb (mem mems acc).ty before w))

  -- a step, then a turn, then another step
  around_turn : {A B : Type 0} (step : Step A) (more : A → Step B) → Takes step 0 → ((a : A) → Takes (more a) 0) → Takes (step >>= (λ a. turn >> more a)) 1
  around_turn step more f g =
      takes_less (step >>= (λ a. turn >> more a)) 1 (0 + (1 + 0)) (omega arith) (takes_bind step (λ a. turn >> more a) 0 (1 + 0) f (λ a. takes_bind turn (λ _. more a) 1 0 turn_takes (λ _. g a)))

  each_one : {X A : Type 0} (f : X → Step A) → ((x : X) → Takes (f x) 1) → (xs : List X) (n : ℕ) → length xs ≡ n → Takes (in_order f xs) n
  each_one f g xs n e = takes_less (in_order f xs) n (length xs * 1) (omega (arith, e)) (each_takes f 1 g xs)

  pub assign_all_takes : (comb : Comb) (acc part : ℕ) (b : Bool) (place n : ℕ) → length (numbers_below (word_count (dims mems acc))) ≡ n → Takes (assign_all mems comb acc part b place) n
  assign_all_takes comb acc part b place n e =
      each_one (λ at. read_cell part at place >>= (λ w. turn >> assign mems comb acc at b w place))
      (λ at. around_turn (read_cell part at place) (λ w. assign mems comb acc at b w place) (read_cell_takes part at place) (λ w. assign_takes comb acc at b w place)) (numbers_below (word_count (dims mems acc))) n e

  pub load_takes : (sram : ℕ) (sd : List ℕ) (dram : ℕ) (dd : List ℕ) (parts : List Part) (n : ℕ) → length (all_offsets parts) ≡ n → Takes (load_words sram sd dram dd parts) n
  load_takes sram sd dram dd parts n e =
      each_one (λ offsets. read_word dram (row_major dd (places_of parts offsets)) >>= (λ w. turn >> write_cell sram (row_major sd offsets) w))
      (λ offsets. around_turn (read_word dram (row_major dd (places_of parts offsets))) (λ w. write_cell sram (row_major sd offsets) w) (read_word_takes dram (row_major dd (places_of parts offsets))) (λ w. write_takes sram (row_major sd offsets) w)) (all_offsets parts) n e

  pub store_takes : (place sram : ℕ) (sd : List ℕ) (dram : ℕ) (dd : List ℕ) (parts : List Part) (n : ℕ) → length (all_offsets parts) ≡ n → Takes (store_words place sram sd dram dd parts) n
  store_takes place sram sd dram dd parts n e =
      each_one (λ offsets. read_cell sram (row_major sd offsets) place >>= (λ w. turn >> write_word dram (row_major dd (places_of parts offsets)) w))
      (λ offsets. around_turn (read_cell sram (row_major sd offsets) place) (λ w. write_word dram (row_major dd (places_of parts offsets)) w) (read_cell_takes sram (row_major sd offsets) place) (λ w. put_takes dram (row_major dd (places_of parts offsets)) w)) (all_offsets parts) n e

  -- one word of a row
  abbrev word_at : (dram : ℕ) → (dd : List ℕ) → List Part → List ℕ → Step ℕ
  word_at dram dd parts offsets = read_word dram (row_major dd (places_of parts offsets)) >>= (λ w. turn >> pure w)

  pub row_takes : (line width dram : ℕ) (dd : List ℕ) (parts : List Part) (n : ℕ) → length (all_offsets parts) ≡ n → Takes (load_row line width dram dd parts) n
  row_takes line width dram dd parts n e =
      takes_less (load_row line width dram dd parts) n (n + (0 + 0)) (omega arith)
      (takes_bind (in_order (word_at dram dd parts) (all_offsets parts)) (λ ws. read (λ s. rows_of (s.held line)) >>= (λ rs. hold_now line (rows (drop 1 rs ++ row_of width ws ∷ [])))) n (0 + 0)
      (each_one (word_at dram dd parts) (λ offsets. around_turn (read_word dram (row_major dd (places_of parts offsets))) pure (read_word_takes dram (row_major dd (places_of parts offsets))) pure_takes) (all_offsets parts) n e)
      (λ ws. takes_bind (read (λ s. rows_of (s.held line))) (λ rs. hold_now line (rows (drop 1 rs ++ row_of width ws ∷ []))) 0 0 (read_takes (λ s. rows_of (s.held line))) (λ rs. hold_takes line (rows (drop 1 rs ++ row_of width ws ∷ [])))))

  -- a transfer, of a slice without words or not
  pub transfer_takes : {A : Type 0} (place : ℕ) (dd : List ℕ) (parts : List Part) (kind : FaultKind) (limits : List ℕ) (move : Step A) (n : ℕ) → (has_none (lengths parts) ≡ true → n ≡ 0) → Takes move n → Takes (transfer place dd parts kind limits move) n
  transfer_takes place dd parts kind limits move n none f = by_words (has_none (lengths parts)) none
    where
      by_words : (b : Bool) → (b ≡ true → n ≡ 0) → Takes (elim b as (λ _. Step (Unit {0})) [ true ↦ pure tt | false ↦ ensure (are_parts_inside dd parts) DramBounds place >> (ensure (do_fit limits (lengths parts)) kind place >> (move >> pure tt)) ]) n
      by_words true e = takes_less (pure tt) n 0 (omega (arith, e refl)) (pure_takes tt)
      by_words false e =
          takes_less (ensure (are_parts_inside dd parts) DramBounds place >> (ensure (do_fit limits (lengths parts)) kind place >> (move >> pure tt))) n (0 + (0 + (n + 0))) (omega arith)
          (takes_bind (ensure (are_parts_inside dd parts) DramBounds place) (λ _. ensure (do_fit limits (lengths parts)) kind place >> (move >> pure tt)) 0 (0 + (n + 0)) (ensure_takes (are_parts_inside dd parts) DramBounds place)
          (λ _. takes_bind (ensure (do_fit limits (lengths parts)) kind place) (λ _. move >> pure tt) 0 (n + 0) (ensure_takes (do_fit limits (lengths parts)) kind place) (λ _. takes_bind move (λ _. pure tt) n 0 f (λ _. pure_takes tt))))

  place_takes : (places held size k place : ℕ) → Takes (place_held places held size k place) 0
  place_takes places held size k place =
      still_bind (ensure (nat_lt k held) Bounds place) (λ _. read_cell places k place >>= (λ w. ensure (is_below (index_value w) size) DramBounds place >> pure (natural (index_value w)))) (ensure_takes (nat_lt k held) Bounds place)
      (λ _. still_bind (read_cell places k place) (λ w. ensure (is_below (index_value w) size) DramBounds place >> pure (natural (index_value w))) (read_cell_takes places k place)
      (λ w. still_bind (ensure (is_below (index_value w) size) DramBounds place) (λ _. pure (natural (index_value w))) (ensure_takes (is_below (index_value w) size) DramBounds place) (λ _. pure_takes (natural (index_value w)))))

  -- a place, a check, a word and its turn
  picked_takes : (find : Step ℕ) (b : Bool) (place : ℕ) (look : ℕ → Step ℕ) (put : ℕ → ℕ → Step (Unit {0})) → Takes find 0 → ((at : ℕ) → Takes (look at) 0) → ((at w : ℕ) → Takes (put at w) 0)
      → Takes (find >>= (λ at. ensure b Bounds place >> (look at >>= (λ w. turn >> put at w)))) 1
  picked_takes find b place look put f g h =
      takes_less (find >>= (λ at. ensure b Bounds place >> (look at >>= (λ w. turn >> put at w)))) 1 (0 + (0 + 1)) (omega arith)
      (takes_bind find (λ at. ensure b Bounds place >> (look at >>= (λ w. turn >> put at w))) 0 (0 + 1) f
      (λ at. takes_bind (ensure b Bounds place) (λ _. look at >>= (λ w. turn >> put at w)) 0 1 (ensure_takes b Bounds place) (λ _. around_turn (look at) (put at) (g at) (h at))))

  pub gather_takes : (place sram size dram dram_words places held count n : ℕ) → length (numbers_below count) ≡ n → Takes (gather_words place sram size dram dram_words places held count) n
  gather_takes place sram size dram dram_words places held count n e =
      each_one (λ k. place_held places held dram_words k place >>= (λ at. ensure (nat_lt k size) Bounds place >> (read_word dram at >>= (λ w. turn >> write_cell sram k w))))
      (λ k. picked_takes (place_held places held dram_words k place) (nat_lt k size) place (λ at. read_word dram at) (λ at w. write_cell sram k w) (place_takes places held dram_words k place) (λ at. read_word_takes dram at) (λ at w. write_takes sram k w)) (numbers_below count) n e

  pub scatter_takes : (place dram dram_words places held count sram size n : ℕ) → length (numbers_below count) ≡ n → Takes (scatter_words place dram dram_words places held count sram size) n
  scatter_takes place dram dram_words places held count sram size n e =
      each_one (λ k. place_held places held dram_words k place >>= (λ at. ensure (nat_lt k size) Bounds place >> (read_cell sram k place >>= (λ w. turn >> write_word dram at w))))
      (λ k. picked_takes (place_held places held dram_words k place) (nat_lt k size) place (λ at. read_cell sram k place) (λ at w. write_word dram at w) (place_takes places held dram_words k place) (λ at. read_cell_takes sram k place) (λ at w. put_takes dram at w)) (numbers_below count) n e

  keep_takes : (m place : ℕ) → Takes (keep_depth mems m place) 0
  keep_takes m place = still_bind (read (λ s. queue_of (s.held m))) (λ ws. ensure (nat_le (length ws) (word_count (dims mems m))) _ place) (read_takes (λ s. queue_of (s.held m))) (λ ws. ensure_takes (nat_le (length ws) (word_count (dims mems m))) _ place)

  pub end_takes : (style : Style) (body : PlainStmts) (place : ℕ) → Takes (end_block mems style body place) 0
  end_takes style body place = each_still (λ m. keep_depth mems m place) (λ m. keep_takes m place) (fifos_with_room mems style body)
