-- The numbers of memories in the lanes of a group.
use Rattle.std.proofs.Common.{◌≡◌, ℕ, ◌+◌, ◌*◌, ◌<◌, Bool, true, false, cond, ◌||◌, List, length, refl, sym, ◌∙◌, ap, arith, nat_lt}
use Rattle.std.proofs.lemmas.Bool.{and_parts, and_from, true≢false}
use Rattle.sp_core.specs.Around.{Around, within, lanes_of, is_port_kind, is_usable}
use Rattle.sp_core.specs.Declarations.{mem, is_among}
use Rattle.sp_core.specs.PlainCore.{PlainCounter, PlainCore}
use Rattle.sp_core.specs.Scope.{Scope}
use Rattle.sp_lanes.specs.Order.{memory_order, occurrence}
use Rattle.sp_lanes.specs.Within.{Within, in_lane}
use Rattle.sp_lane_rules.proofs.CopiesFound.{are_apart}
use Rattle.sp_lane_rules.proofs.UnrolledPlaces.{among_both}
use Rattle.sp_lane_groups.specs.LiveStores.{AreCopies}
use Rattle.sp_lane_groups.proofs.LiveCopies.{copies_apart, copies_stand}
use Rattle.sp_lane_groups.specs.Groups.{IsGroup}

module _ (core : PlainCore) (around inside : Around) (w : Within) (counters : List PlainCounter) (owned : List ℕ) (plain : ℕ → Scope) (in_lanes : Scope) (count : ℕ) (g : IsGroup core around inside w counters owned plain in_lanes count) where
  abbrev pub lane : ℕ → Within
  lane l = in_lane (memory_order core) counters owned w l

  abbrev pub inner_place : Around
  inner_place = within around counters owned

  pub own_number : (l m : ℕ) → is_among m owned ≡ true → (lane l).number m ≡ occurrence m (w.copy * lanes_of counters + l) (memory_order core)
  own_number l m e = ap (λ b. cond b (occurrence m (w.copy * lanes_of counters + l) (memory_order core)) (w.number m)) e

  pub out_number : (l m : ℕ) → is_among m owned ≡ false → (lane l).number m ≡ w.number m
  out_number l m e = ap (λ b. cond b (occurrence m (w.copy * lanes_of counters + l) (memory_order core)) (w.number m)) e

  pub lane_copies : (l : ℕ) → l < lanes_of counters → AreCopies core inner_place (lane l)
  lane_copies l lt = (copies_stand core).1 around w counters owned l g.copies (λ m e. g.bound m l e lt)

  pub out_usable : (m : ℕ) → is_usable core around m ≡ true → is_usable core inner_place m ≡ true
  out_usable m e =
      let a = and_parts (nat_lt m (length core.mems)) (is_port_kind (mem core m).kind || is_among m around.owned) e in
      and_from _ _ a.0 (ap (λ b. is_port_kind (mem core m).kind || b) (among_both m owned around.owned) ∙ more (is_port_kind (mem core m).kind) (is_among m owned) (is_among m around.owned) a.1)
    where
      more : (b c d : Bool) → (b || d) ≡ true → (b || (c || d)) ≡ true
      more true c d e = refl
      more false true d e = refl
      more false false d e = e

  pub in_usable : (m : ℕ) → is_usable core inner_place m ≡ true → is_among m owned ≡ false → is_usable core around m ≡ true
  in_usable m e f =
      let a = and_parts (nat_lt m (length core.mems)) (is_port_kind (mem core m).kind || is_among m inner_place.owned) e in
      and_from _ _ a.0 (still (is_port_kind (mem core m).kind) (is_among m owned) (is_among m around.owned) (ap (λ b. is_port_kind (mem core m).kind || b) (sym (among_both m owned around.owned)) ∙ a.1) f)
    where
      still : (b c d : Bool) → (b || (c || d)) ≡ true → c ≡ false → (b || d) ≡ true
      still true c d i f = refl
      still false true d i f = absurd (true≢false f)
      still false false d i f = i

  -- no copy of what the body owns is what may be used outside
  pub own_out : (m l x : ℕ) → is_among m owned ≡ true → l < lanes_of counters → is_usable core around x ≡ true → (lane l).number m ≡ w.number x → ⊥
  own_out m l x e lt u same =
      let as_one : m ≡ x = copies_apart core inner_place (lane l) (lane_copies l lt) m x (g.valid m e) (out_usable x u) (same ∙ sym (out_number l x (g.apart x u))) in
      true≢false (sym e ∙ ap (λ k. is_among k owned) as_one ∙ g.apart x u)

  -- nor one of another lane
  pub own_own : (m l j x : ℕ) → is_among m owned ≡ true → l < lanes_of counters → j < lanes_of counters → (l ≡ j → ⊥) → is_usable core inner_place x ≡ true → (lane l).number x ≡ (lane j).number m → ⊥
  own_own m l j x e lt below ne u same = by (is_among x owned) refl
    where
      by : (b : Bool) → is_among x owned ≡ b → ⊥
      by true i =
          let a = are_apart (memory_order core) x (w.copy * lanes_of counters + l) m (w.copy * lanes_of counters + j) (g.bound x l i lt) (g.bound m j e below) (sym (own_number l x i) ∙ same ∙ own_number j m e) in
          ne (cancel (w.copy * lanes_of counters) l j a.1)
        where
          cancel : (a b c : ℕ) → a + b ≡ a + c → b ≡ c
          cancel a b c e = omega (arith, e)
      by false i = own_out m j x e below (in_usable x u i) (sym same ∙ out_number l x i)
