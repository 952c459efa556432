-- An access to a memory, and the same access to its copy in a lane.
use Rattle.std.proofs.Common.{◌≡◌, ℕ, ◌-◌, true, ◌||◌, List, [], length, map, take, refl, sym, ◌∙◌, ap, subst, nat_lt}
use Rattle.std.proofs.lemmas.Bool.{and_parts}
use Rattle.std.specs.Prelude.{if◌then◌else◌, slice_index}
use Rattle.sp_words.specs.Memory.{fresh_of}
use Rattle.sp_words.specs.declared.kind.Kind.TheVariants.{Dram}
use Rattle.sp_core.specs.declared.operation.OpKind.{OpKind}
use Rattle.sp_core.specs.declared.operation.OpKind.TheVariants.{Read, Write, Enq, Deq, Reset}
use Rattle.sp_core.specs.Accesses.{word_in, with_word, with_newest, without_oldest, written, read_in, write_in, enqueue, dequeue, inside}
use Rattle.sp_core.specs.Around.{Around, is_port_kind, is_usable}
use Rattle.sp_core.specs.Declarations.{mem, dram, kind_of, dims, room, fresh, is_among}
use Rattle.sp_core.specs.Elements.{index_value, are_inside}
use Rattle.sp_core.specs.History.{Entry, touched}
use Rattle.sp_core.specs.Operations.{access}
use Rattle.sp_core.specs.PlainCore.{PlainMem, PlainCore}
use Rattle.sp_core.specs.Scope.{Scope}
use Rattle.sp_core.specs.Step.{ensure, look}
use Rattle.sp_core.specs.Store.{queue_of}
use Rattle.sp_lane_groups.proofs.LiveAlong.{Along, pure_along, stop_along, ensure_along, written_along, first_along, bind_along, look_along, change_along}

-- what is said of a memory of a core, and of one of another
pub record Same (core lanes : PlainCore) (m n : ℕ) : Type 0 where
  pub kinds : kind_of lanes n ≡ kind_of core m
  pub sizes : dims lanes n ≡ dims core m
  pub rooms : room lanes n ≡ room core m
  pub starts : fresh lanes n ≡ fresh core m

-- what may be used is declared, alike in both
module _ (core lanes : PlainCore) (around inside_around : Around) (m n : ℕ) where
  pub same_declared : is_usable core around m ≡ true → is_usable lanes inside_around n ≡ true → mem lanes n ≡ mem core m → room lanes n ≡ room core m → Same core lanes m n
  same_declared one two e rooms =
      let a : nat_lt m (length core.mems) ≡ true = (and_parts (nat_lt m (length core.mems)) (is_port_kind (mem core m).kind || is_among m around.owned) one).0 in
      let b : nat_lt n (length lanes.mems) ≡ true = (and_parts (nat_lt n (length lanes.mems)) (is_port_kind (mem lanes n).kind || is_among n inside_around.owned) two).0 in
      record {
        kinds = ap (λ c. if c then (mem lanes n).kind else Dram) b ∙ ap (λ (x : PlainMem). x.kind) e ∙ sym (ap (λ c. if c then (mem core m).kind else Dram) a);
        sizes = ap (λ c. if c then (mem lanes n).dims else (dram lanes (n - length lanes.mems)).dims) b ∙ ap (λ (x : PlainMem). x.dims) e ∙ sym (ap (λ c. if c then (mem core m).dims else (dram core (m - length core.mems)).dims) a);
        rooms = rooms;
        starts = ap (λ (x : PlainMem). fresh_of x.kind x.dims x.start []) e;
      }

module _ (core lanes : PlainCore) (m n : ℕ) (s : Same core lanes m n) where
  inside_along : (args : List ℕ) → Along m n (List ℕ) (inside core m args) (inside lanes n args)
  inside_along args = bind_along m n (ensure (are_inside (dims core m) (map index_value args))) (ensure (are_inside (dims lanes n) (map index_value args))) _ _
      (subst (λ d. Along m n (Unit {0}) (ensure (are_inside (dims core m) (map index_value args))) (ensure (are_inside d (map index_value args)))) (sym s.sizes) (ensure_along m n (are_inside (dims core m) (map index_value args))))
      (λ u. pure_along m n _)

  read_in_along : (is : List ℕ) → Along m n ℕ (read_in core m is) (read_in lanes n is)
  read_in_along is = bind_along m n (look (λ u. word_in (kind_of core m) (dims core m) is (u m))) (look (λ u. word_in (kind_of lanes n) (dims lanes n) is (u n))) written written
      (look_along m n (λ u. word_in (kind_of core m) (dims core m) is (u m)) (λ u. word_in (kind_of lanes n) (dims lanes n) is (u n))
      (λ u v h. ap (λ k. word_in k (dims lanes n) is (v n)) s.kinds ∙ ap (λ d. word_in (kind_of core m) d is (v n)) s.sizes ∙ ap (word_in (kind_of core m) (dims core m) is) h))
      (λ o. written_along m n o)

  write_in_along : (is : List ℕ) (w : ℕ) → Along m n (Unit {0}) (write_in core m is w) (write_in lanes n is w)
  write_in_along is w = change_along m n (λ c. with_word (kind_of core m) (dims core m) is w c) (λ c. with_word (kind_of lanes n) (dims lanes n) is w c)
      (λ c. ap (λ k. with_word k (dims lanes n) is w c) s.kinds ∙ ap (λ d. with_word (kind_of core m) d is w c) s.sizes)

  queue_along : Along m n (List ℕ) (look (λ u. queue_of (u m))) (look (λ u. queue_of (u n)))
  queue_along = look_along m n (λ u. queue_of (u m)) (λ u. queue_of (u n)) (λ u v h. ap queue_of h)

  enqueue_along : (w : ℕ) → Along m n (Unit {0}) (enqueue core m w) (enqueue lanes n w)
  enqueue_along w = bind_along m n (look (λ u. queue_of (u m))) (look (λ u. queue_of (u n))) _ _ queue_along
      (λ ws. bind_along m n (ensure (nat_lt (length ws) (room core m))) (ensure (nat_lt (length ws) (room lanes n))) _ _
      (subst (λ r. Along m n (Unit {0}) (ensure (nat_lt (length ws) (room core m))) (ensure (nat_lt (length ws) r))) (sym s.rooms) (ensure_along m n (nat_lt (length ws) (room core m))))
      (λ u. change_along m n (with_newest w) (with_newest w) (λ c. refl)))

  dequeue_along : Along m n ℕ (dequeue core m) (dequeue lanes n)
  dequeue_along = bind_along m n (look (λ u. queue_of (u m))) (look (λ u. queue_of (u n))) _ _ queue_along
      (λ ws. bind_along m n _ _ _ _ (first_along m n ws)
      (λ w. bind_along m n _ _ _ _ (change_along m n without_oldest without_oldest (λ c. refl)) (λ u. pure_along m n w)))

  pub access_along : (plain in_lanes : Scope) (kind : OpKind) (args : List ℕ) → Along m n Entry (access core plain kind m args) (access lanes in_lanes kind n args)
  access_along plain in_lanes Read args = bind_along m n (inside core m args) (inside lanes n args) _ _ (inside_along args)
      (λ is. bind_along m n (read_in core m is) (read_in lanes n is) _ _ (read_in_along is) (λ w. pure_along m n (touched is w)))
  access_along plain in_lanes Write args = bind_along m n (inside core m (take (length args - 1) args)) (inside lanes n (take (length args - 1) args)) _ _ (inside_along (take (length args - 1) args))
      (λ is. bind_along m n _ _ _ _ (write_in_along is (slice_index args (length args - 1))) (λ u. pure_along m n (touched is (slice_index args (length args - 1)))))
  access_along plain in_lanes Enq args = bind_along m n _ _ _ _ (enqueue_along (slice_index args 0)) (λ u. pure_along m n (touched [] (slice_index args 0)))
  access_along plain in_lanes Deq args = bind_along m n _ _ _ _ dequeue_along (λ w. pure_along m n (touched [] w))
  access_along plain in_lanes Reset args = bind_along m n _ _ _ _ (change_along m n (λ c. fresh core m) (λ c. fresh lanes n) (λ c. s.starts)) (λ u. pure_along m n (touched [] 0))
  access_along plain in_lanes _ args = stop_along m n
